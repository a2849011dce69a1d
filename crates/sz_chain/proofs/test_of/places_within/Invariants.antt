use Rattle.std.proofs.Common.{◌≡◌, true}
use Rattle.sz_chain.specs.Sets.{AreFirst, has}
use Rattle.sz_chain.proofs.test_of.places_within.Given as goal

-- of the places so far those of the set are in it that pass
abbrev pub invariant-loop-at : goal.invariant-loop-at
invariant-loop-at g l = AreFirst l.at l.places (λ at place. g.T.Test.holds l.test place × (has l.wanted at ≡ true)) l.passed
