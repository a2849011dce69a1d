use Rattle.std.proofs.Common.{◌-◌, ◌≤◌, ◌++◌, length, false, refl, sym, subst, take, arith, ◌+◌, ◌<◌, inl, Ok}
use Rattle.std.proofs.lemmas.Bool.{eqb-false, eqb-true}
use Rattle.sz_http.specs.declared.framing.Framing.TheVariants.{Length}
use Rattle.sz_http.specs.declared.reading.Stage.{Stage}
use Rattle.sz_http.specs.Reading.{Stands}
use Rattle.sz_http.proofs.Steps.{IsGoing, counted_more, stands_counted, takes_framed}
use Rattle.sz_http.proofs.Taken.{took_some}
use Rattle.sz_http.proofs.reading.Reading.take_counted.Goals as goal

pub returns-clause-answers : goal.returns-clause-answers
returns-clause-answers c = λ side limit before body takes.
    let self = c.args.self.now in
    let piece = c.args.piece.now in
    let left = c.args.left in
    let count = c.min-count.result in
    let here = subst (λ (s : Stage). Stands s self side limit before false body) c.requires takes.stands in
    let some : 0 < left = here.1 in
    let few : count ≤ left = omega arith in
    let inside : count ≤ length piece = omega arith in
    let stage = c.counted-self.ensures in
    took_some side limit before body piece _ _ inside
    (takes_framed self _ side limit before (take count piece) body (body ++ take count piece) (Ok (Length (length body + left))) here.2.0 body
    (record { side = refl; limit = refl; head = refl }) takes here.2.1
    (stands_counted c.counted-self.result _ side limit (left - count) (before ++ take count piece) (body ++ take count piece) here.2.0
    (counted_more side limit left count before body piece here.2.0 here.2.1 few inside) stage.whole stage.more))
    (λ e. stage.whole (eqb-true (left - count) 0 e))
    (λ e. let other = eqb-false (left - count) 0 e in let rest : 0 < left - count = omega arith in subst IsGoing (sym (stage.more rest)) tt)
    (λ none. inl (omega (arith, none)))
