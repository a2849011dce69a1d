use Rattle.std.proofs.Common.{◌≡◌, drop}
use Rattle.sz_disk.specs.Event.{undone}
use Rattle.sz_disk.proofs.event.undo.Given as goal

-- the events from `i` on are undone
abbrev pub invariant-loop-i : goal.invariant-loop-i
invariant-loop-i l = l.bytes ≡ undone (drop l.i l.events) l.initial.bytes
