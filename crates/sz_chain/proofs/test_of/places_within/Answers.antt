use Rattle.std.proofs.Common.{◌≡◌, ℕ, true, true≢false, sym, ◌∙◌, arith}
use Rattle.sz_chain.specs.Sets.{has}
use Rattle.sz_chain.specs.declared.place.Place.{Place}
use Rattle.sz_chain.proofs.InSets.{first_all_loop, first_in_loop, first_out_any, first_out_loop}
use Rattle.sz_chain.proofs.test_of.places_within.Goals as goal
use Rattle.sz_chain.proofs.test_of.places_within.Goals.{then-has+then-passes, else-has, else-has-via-then-has+else-passes, else-has-via-else-has}

pub loop-at-preserved : goal.loop-at-preserved
loop-at-preserved g c =
    let Is : ℕ → Place → Type 0 = λ at place. g.T.Test.holds c.args.test.now place × (has c.args.wanted at ≡ true) in
    let places = c.args.places.now in
    let n = c.loop-at.at in
    elim c.if-has.branch [
      | then-has+then-passes w ↦
          first_in_loop places Is n _ c.loop-at.passed w.with-passed.result c.if-has.passed c.loop-at-test.true c.loop-at.invariant
          (w.passes.ensures.0 w.if-passes.true, sym c.has.ensures ∙ w.if-has.true) w.with-passed.ensures w.passed-is
      | else-has w ↦ elim w.else-has.branch [
        | else-has-via-then-has+else-passes v ↦
            first_out_loop places Is n _ c.loop-at.passed c.if-has.passed c.loop-at-test.true c.loop-at.invariant
            (λ is. true≢false (sym (v.passes.ensures.1 is.0) ∙ v.if-passes.false)) w.passed-is
        | else-has-via-else-has v ↦
            first_out_any places Is n c.loop-at.passed c.if-has.passed c.loop-at-test.true c.loop-at.invariant
            (λ place is. true≢false (sym is.1 ∙ sym c.has.ensures ∙ v.if-has.false)) w.passed-is
      ]
    ]

pub returns : goal.returns
returns g c =
    let Is : ℕ → Place → Type 0 = λ at place. g.T.Test.holds c.args.test.now place × (has c.args.wanted at ≡ true) in
    first_all_loop c.args.places.now Is c.loop-at.at c.loop-at.passed (omega arith) c.loop-at.invariant
