-- The bytes that are done stand in their places.
use Rattle.std.proofs.Common.{◌-◌, ◌≤◌, length, take}
use Rattle.sz_real.specs.Place.{TakesPart}
use Rattle.sz_real.proofs.places.write_whole_to.Given as goal

abbrev pub invariant-loop-done : goal.invariant-loop-done
invariant-loop-done g l = record {
  within : l.done ≤ length l.bytes;
  taken : TakesPart (g.F.PositionedFile.held l.initial.file) (g.F.PositionedFile.held l.file) l.at (take l.done l.bytes);
}

abbrev pub decreases-loop-done : goal.decreases-loop-done
decreases-loop-done g l = length l.bytes - l.done
