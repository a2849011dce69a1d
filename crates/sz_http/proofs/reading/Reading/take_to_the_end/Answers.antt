use Rattle.std.proofs.Common.{◌++◌, false, refl, ap, subst, arith, length-append, Ok}
use Rattle.sz_http.specs.declared.framing.Framing.TheVariants.{UntilEnd as ToTheEnd}
use Rattle.sz_http.specs.declared.fault.HttpFault.TheVariants.{TooLarge}
use Rattle.sz_http.specs.declared.reading.Reading.{Reading}
use Rattle.sz_http.specs.declared.reading.Stage.{Stage}
use Rattle.sz_http.specs.Reading.{Stands}
use Rattle.sz_http.proofs.Heads.{framed_more}
use Rattle.sz_http.proofs.Steps.{past_refused, takes_framed}
use Rattle.sz_http.proofs.Taken.{refuses_framed, took_all}
use Rattle.sz_http.proofs.reading.Reading.take_to_the_end.Goals as goal

pub returns-then-count-room-clause-answers : goal.returns-then-count-room-clause-answers
returns-then-count-room-clause-answers c = λ side limit before body takes.
    let self = c.args.self.now in
    let piece = c.args.piece.now in
    let here = subst (λ (s : Stage). Stands s self side limit before false body) c.requires takes.stands in
    let new = c.refuse.ensures.1 in
    refuses_framed self c.refuse.new.self side limit before piece body (Ok ToTheEnd) here.2.0 body (TooLarge self.limit) c.refuse.result
    (record {
      side = ap (λ (r : Reading). r.side) new;
      limit = ap (λ (r : Reading). r.limit) new;
      head = ap (λ (r : Reading). r.head) new;
    })
    (ap (λ (r : Reading). r.stage) new) c.refuse.ensures.0 takes here.2.1
    (past_refused side limit self.limit c.args.room before body piece here.2.0 here.2.1 here.1 c.if-count-room.true takes.limited)

pub returns-clause-answers : goal.returns-clause-answers
returns-clause-answers c = λ side limit before body takes.
    let self = c.args.self.now in
    let piece = c.args.piece.now in
    let here = subst (λ (s : Stage). Stands s self side limit before false body) c.requires takes.stands in
    took_all side limit before body piece _ _ refl refl tt
    (takes_framed self _ side limit before piece body (body ++ piece) (Ok ToTheEnd) here.2.0 body
    (record { side = refl; limit = refl; head = refl }) takes here.2.1 (
      refl,
      omega (arith, here.1, length-append body piece, c.if-count-room.false),
      (here.2.0, framed_more side limit before piece (Ok ToTheEnd) here.2.0 body here.2.1),
    ))
