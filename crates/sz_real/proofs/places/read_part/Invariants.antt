-- The part that is done has the file's bytes.
use Rattle.std.proofs.Common.{◌≡◌, ◌-◌, ◌≤◌, length, IfSome}
use Rattle.sz_real.specs.Place.{HasFront}
use Rattle.sz_real.proofs.places.read_part.Given as goal

abbrev pub invariant-loop-done : goal.invariant-loop-done
invariant-loop-done g l = record {
  within : l.done ≤ length l.into;
  part : IfSome (g.F.PositionedFile.held l.initial.file) (λ bytes. HasFront bytes l.at l.done l.into);
  unchanged : g.F.PositionedFile.held l.file ≡ g.F.PositionedFile.held l.initial.file;
}

abbrev pub decreases-loop-done : goal.decreases-loop-done
decreases-loop-done g l = length l.initial.into - l.done
