use Rattle.sz_chain.proofs.Clears.{SoFar}
use Rattle.sz_chain.proofs.lists.clears.Given as goal

abbrev pub invariant-loop-told : goal.invariant-loop-told
invariant-loop-told l = SoFar l.lists l.place l.serial l.told-index l.is_told
