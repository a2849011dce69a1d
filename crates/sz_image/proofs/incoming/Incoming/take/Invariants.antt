use Rattle.std.proofs.Common.{◌≡◌, ◌≤◌, ◌-◌, ℕ, List, ◌++◌, length, take}
use Rattle.sz_disk.specs.Room.{Held}
use Rattle.sz_http.specs.Reading.{side_of}
use Rattle.sz_image.specs.Coming.{IsComing}
use Rattle.sz_image.specs.Fetch.{IsSameRoom}
use Rattle.sz_image.proofs.incoming.Incoming.take.Given as goal

-- so much of the piece was taken
abbrev pub invariant-loop-at : goal.invariant-loop-at
invariant-loop-at g l = record {
  within : l.at ≤ length l.piece;
  coming : (first : Held) (bytes : List ℕ) → IsComing l.fn.self l.fn.reading first (g.R.Room.held l.fn.room) bytes
      → IsComing l.self l.reading first (g.R.Room.held l.room) (bytes ++ take l.at l.piece);
  same : IsSameRoom (g.R.Room.held l.fn.room) (g.R.Room.held l.room);
  led : g.R.Room.led l.fn.room l.room;
  faults : (g.R.Room.held l.room).faults ≡ (g.R.Room.held l.fn.room).faults;
  side : side_of l.reading ≡ side_of l.fn.reading;
}

abbrev pub decreases-loop-at : goal.decreases-loop-at
decreases-loop-at g l = length l.piece - l.at
