use Rattle.sz_chain.specs.Links.{AreEmpty}
use Rattle.sz_chain.proofs.links.no_links.Given as goal

abbrev pub invariant-loop-place : goal.invariant-loop-place
invariant-loop-place l = AreEmpty l._place l.links.items
