use Rattle.sz_chain.proofs.Clears.{AreClearing}
use Rattle.sz_chain.proofs.node.clearing.Given as goal

abbrev pub invariant-loop-place : goal.invariant-loop-place
invariant-loop-place l = AreClearing l.lists l.place l.issuers l.serial l.cleared
