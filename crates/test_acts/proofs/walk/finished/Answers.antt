use Rattle.std.proofs.Common.{refl, subst}
use Rattle.std.proofs.lemmas.Bool.{false≢true}
use Rattle.sz_walk.specs.Visits.{HasOffer}
use Rattle.sz_walk.specs.Walk.{WalkState}
use Rattle.test_acts.proofs.walk.finished.Goals.{in-Passed, in-Offer+else-turned_down-most}
use Rattle.test_acts.proofs.walk.finished.Goals as goal

pub refuse-requires : goal.refuse-requires
refuse-requires c = record { offer = c.in-Offer.ensures.notes.offer.1 refl }

pub calls-preserved : goal.calls-preserved
calls-preserved c =
    elim c.match-next.branch [
      | in-Passed w ↦
          λ has. absurd (false≢true (w.in-Passed.ensures.notes.offer.0
          (subst (λ (walk : WalkState). HasOffer walk.walked) w.walk-is has)))
      | in-Offer+else-turned_down-most w ↦
          λ has. w.refuse.ensures.no_offer (subst (λ (walk : WalkState). HasOffer walk.walked) w.walk-is has)
    ]
