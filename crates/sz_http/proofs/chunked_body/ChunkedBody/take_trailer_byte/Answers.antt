use Rattle.std.proofs.Common.{[], ◌∷◌, ◌++◌, sym, subst}
use Rattle.sz_http.specs.declared.kind.Kind.TheVariants.{Trailer}
use Rattle.sz_http.specs.declared.chunk_place.Place.{Place}
use Rattle.sz_http.specs.ChunkReading.{Came}
use Rattle.sz_http.proofs.Bodies.{trailer_more, trailer_whole, trailer_refused, answered_more, answered_whole}
use Rattle.sz_http.proofs.chunked_body.ChunkedBody.take_trailer_byte.Goals as goal

pub returns-in-Ok-More-clause-ok : goal.returns-in-Ok-More-clause-ok
returns-in-Ok-More-clause-ok c = λ limit bytes content takes.
    let self = c.args.self.now in
    let came = subst (λ (p : Place). Came self.trailer p bytes content) c.requires takes.came in
    let more = answered_more c.in-Ok-More.field-0 came.1 (c.args.byte ∷ []) c.feed.new.self c.in-Ok-More.field-0-is
    (c.in-Ok-More.ensures.answers Trailer came.1 came.4) in
    record {
      limited = takes.limited;
      going = takes.going;
      room = takes.room;
      came = subst (λ (p : Place). Came c.feed.new.self p (bytes ++ c.args.byte ∷ []) content) (sym c.requires)
          (trailer_more self.trailer c.feed.new.self c.args.byte bytes content came more);
    }

pub returns-in-Ok-Whole-clause-ok : goal.returns-in-Ok-Whole-clause-ok
returns-in-Ok-Whole-clause-ok c = λ limit bytes content takes.
    let self = c.args.self.now in
    let came = subst (λ (p : Place). Came self.trailer p bytes content) c.requires takes.came in
    let whole = answered_whole c.in-Ok-Whole.field-0 c.in-Ok-Whole.field-0-0 came.1 (c.args.byte ∷ []) c.feed.new.self c.in-Ok-Whole.field-0-is
    (c.in-Ok-Whole.ensures.answers Trailer came.1 came.4) in
    record {
      limited = takes.limited;
      going = takes.going;
      room = takes.room;
      came = trailer_whole self.trailer c.feed.new.self c.args.byte c.in-Ok-Whole.field-0-0 bytes content came whole;
    }

pub returns-in-Err-clause-err : goal.returns-in-Err-clause-err
returns-in-Err-clause-err c = λ limit bytes content takes.
    let self = c.args.self.now in
    let came = subst (λ (p : Place). Came self.trailer p bytes content) c.requires takes.came in
    trailer_refused self.trailer c.feed.new.self c.args.byte bytes content came (c.in-Err.ensures.answers Trailer came.1 came.4)
