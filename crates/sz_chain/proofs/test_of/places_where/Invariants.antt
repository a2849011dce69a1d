use Rattle.sz_chain.specs.Sets.{AreFirst}
use Rattle.sz_chain.proofs.test_of.places_where.Given as goal

-- of the places so far those are in the set that pass
abbrev pub invariant-loop-at : goal.invariant-loop-at
invariant-loop-at g l = AreFirst l.at l.places (λ _ place. g.T.Test.holds l.test place) l.passed
