use Rattle.sz_walk.specs.Visits.{HasOffer}
use Rattle.test_acts.proofs.walk.finished.Given as goal

abbrev pub invariant-calls : goal.invariant-calls
invariant-calls l = ¬ HasOffer l.walk.walked
