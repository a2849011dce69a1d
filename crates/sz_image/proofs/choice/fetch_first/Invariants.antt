use Rattle.std.proofs.Common.{◌≡◌, take}
use Rattle.sz_http.specs.declared.side.Side.TheVariants.{Reply}
use Rattle.sz_http.specs.Reading.{side_of}
use Rattle.sz_image.specs.Downloads.{RefusesAll}
use Rattle.sz_image.specs.Fetch.{IsSameRoom}
use Rattle.sz_image.proofs.choice.fetch_first.Given as goal

-- the URIs so far gave no image
abbrev pub invariant-loop-uri : goal.invariant-loop-uri
invariant-loop-uri g l = record {
  all : RefusesAll l.hash (g.R.Room.held l.fn.room).space (take l.uri-index l.uri-items) l.faults (g.N.Net.faults l.fn.net) (g.N.Net.faults l.net)
      (g.N.Net.traffic l.fn.net) (g.N.Net.traffic l.net);
  led : g.R.Room.led l.fn.room l.room;
  same : IsSameRoom (g.R.Room.held l.fn.room) (g.R.Room.held l.room);
  faults : (g.R.Room.held l.room).faults ≡ (g.R.Room.held l.fn.room).faults;
  side : side_of l.buffer ≡ Reply;
}
