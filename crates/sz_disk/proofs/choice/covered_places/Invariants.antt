use Rattle.std.proofs.Common.{take}
use Rattle.sz_disk.specs.Choice.{AreCovered}
use Rattle.sz_disk.proofs.choice.covered_places.Given as goal

abbrev pub invariant-loop-event : goal.invariant-loop-event
invariant-loop-event l = AreCovered l.size (take l.event-index l.pending) l.covered.items
