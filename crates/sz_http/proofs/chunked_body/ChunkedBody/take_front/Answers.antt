use Rattle.std.proofs.Common.{ℕ, List, [], ◌++◌, take, inl, inr, refl, sym, subst, append-nil, arith}
use Rattle.std.proofs.lemmas.Bool.{false≢true}
use Rattle.sz_http.specs.declared.chunk_place.Place.{Place}
use Rattle.sz_http.specs.ChunkReading.{Came, Takes}
use Rattle.sz_http.proofs.Feeding.{framing_otherwise}
use Rattle.sz_http.proofs.ChunkParts.{part_of}
use Rattle.sz_http.proofs.chunked_body.ChunkedBody.take_front.Goals as goal

pub returns-in-Whole : goal.returns-in-Whole
returns-in-Whole c = λ limit before content takes.
    let piece = c.args.piece.now in
    let self = c.take_framing.new.self in
    let after = subst (λ (t : List ℕ). Takes self limit (before ++ take c.in-Ok.used piece) t) (sym (append-nil content))
    (c.in-Ok.ensures.ok limit before content takes) in
    record {
      within = c.in-Ok.ensures.within;
      taken = after;
      done = λ e. record {
        reads = subst (λ (p : Place). Came self.trailer p (before ++ take c.in-Ok.used piece) (content ++ [])) c.in-Whole.is after.came;
        few = omega (arith, after.room);
      };
      more = λ e. absurd (false≢true (sym e));
      moves = λ none. inr refl;
    }

pub returns-in_default : goal.returns-in_default
returns-in_default c = λ limit before content takes.
    let piece = c.args.piece.now in
    let self = c.take_framing.new.self in
    let taken = c.in-Ok.ensures.ok limit before content takes in
    let after = subst (λ (t : List ℕ). Takes self limit (before ++ take c.in-Ok.used piece) t) (sym (append-nil content)) taken in
    let all = c.in-Ok.ensures.all (framing_otherwise self.trailer self.place (before ++ take c.in-Ok.used piece) content taken.came
    c.in_default.not-InData c.in_default.not-Whole) in
    record {
      within = c.in-Ok.ensures.within;
      taken = after;
      done = λ e. absurd (false≢true e);
      more = λ e. record {
        part = part_of self.trailer self.place (before ++ take c.in-Ok.used piece) (content ++ []) after.came c.in_default.not-Whole;
        few = omega (arith, after.room);
      };
      moves = λ none. inl (omega arith);
    }
