use Rattle.std.proofs.Common.{◌-◌, length}
use Rattle.sz_disk.proofs.Picks.{PickedSoFar}
use Rattle.sz_disk.proofs.choice.pick_by_search.Given as goal

abbrev pub invariant-loop-place : goal.invariant-loop-place
invariant-loop-place l = PickedSoFar l.choice l.pending l.from l.rank l.initial.bytes l.bytes

abbrev pub decreases-loop-place : goal.decreases-loop-place
decreases-loop-place l = length l.bytes - l.from
