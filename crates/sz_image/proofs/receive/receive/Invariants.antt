use Rattle.std.proofs.Common.{◌≡◌}
use Rattle.sz_image.specs.Coming.{IsReceiving}
use Rattle.sz_image.specs.Fetch.{IsSameRoom}
use Rattle.sz_image.proofs.receive.receive.Given as goal

-- so much of the reply came, and nothing failed
abbrev pub invariant-pieces : goal.invariant-pieces
invariant-pieces g l = record {
  receiving : IsReceiving l.incoming l.reading (g.R.Room.held l.fn.room) (g.R.Room.held l.room) (g.N.Net.traffic l.fn.net) (g.N.Net.traffic l.net);
  led : g.R.Room.led l.fn.room l.room;
  same : IsSameRoom (g.R.Room.held l.fn.room) (g.R.Room.held l.room);
  net : g.N.Net.faults l.net ≡ g.N.Net.faults l.fn.net;
  room : (g.R.Room.held l.room).faults ≡ (g.R.Room.held l.fn.room).faults;
}
