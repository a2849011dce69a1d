use Rattle.std.proofs.Common.{◌≡◌, ◌≤◌, take, drop}
use Rattle.sz_disk.specs.Event.{unsynced}
use Rattle.sz_disk.proofs.event.since_sync.Given as goal

-- the events so far from `start` on are those since the last sync so far
abbrev pub invariant-loop-i : goal.invariant-loop-i
invariant-loop-i l = record {
  within : l.start ≤ l.i;
  pending : drop l.start (take l.i l.events) ≡ unsynced (take l.i l.events);
}
