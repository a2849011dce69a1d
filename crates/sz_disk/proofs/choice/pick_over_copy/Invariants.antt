use Rattle.sz_disk.proofs.Picks.{PickedSoFar}
use Rattle.sz_disk.proofs.choice.pick_over_copy.Given as goal

abbrev pub invariant-loop-place : goal.invariant-loop-place
invariant-loop-place l = PickedSoFar l.choice l.pending l.place l.rank l.initial.bytes l.bytes
