use Rattle.sz_chain.specs.Search.{HasAnchor}
use Rattle.sz_chain.proofs.search.has_anchor.Given as goal

-- none of the nodes so far is an anchor that is reached
abbrev pub invariant-loop-at : goal.invariant-loop-at
invariant-loop-at l = HasAnchor l.nodes l.row l.at → ⊥
