use Rattle.std.proofs.Common.{◌≤◌, take}
use Rattle.sz_disk.proofs.Covered.{FoundSoFar}
use Rattle.sz_disk.proofs.choice.next_covered.Given as goal

abbrev pub invariant-loop-event : goal.invariant-loop-event
invariant-loop-event l = record {
  within : l.first ≤ l.end;
  so_far : FoundSoFar (take l.event-index l.pending) l.from l.end l.first l.found;
}
