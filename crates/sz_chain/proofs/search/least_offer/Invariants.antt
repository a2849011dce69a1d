use Rattle.sz_chain.specs.Search.{IsLeast, IsOffered}
use Rattle.sz_chain.proofs.search.least_offer.Given as goal

-- the least offer of the nodes so far
abbrev pub invariant-loop-below : goal.invariant-loop-below
invariant-loop-below l = IsLeast (IsOffered l.nodes l.row l.below l.at l.upper) l.least
