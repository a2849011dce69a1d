use Rattle.std.proofs.Common.{◌≡◌, ◌-◌, ◌≤◌, length}
use Rattle.sz_disk.specs.Disk.{IsQuiet}
use Rattle.sz_audit.proofs.Pieces.{Hashed}
use Rattle.sz_audit.proofs.hashing.hash_from.Given as goal

-- so many bytes were hashed, and nothing failed
abbrev pub invariant-loop-done : goal.invariant-loop-done
invariant-loop-done g l = record {
  within : l.done ≤ l.size;
  hashed : Hashed (g.D.Disk.seen l.disk).reads l.at l.done l.hasher;
  quiet : IsQuiet (g.D.Disk.seen l.fn.disk) (g.D.Disk.seen l.disk);
  faults : (g.D.Disk.seen l.disk).faults ≡ (g.D.Disk.seen l.fn.disk).faults;
  piece : length l.piece ≡ length l.fn.piece;
}

abbrev pub decreases-loop-done : goal.decreases-loop-done
decreases-loop-done g l = l.size - l.done
