-- An interrupted write changed nothing.
use Rattle.std.proofs.Common.{◌≡◌}
use Rattle.sz_real.proofs.places.write_some_to.Given as goal

abbrev pub invariant-loop : goal.invariant-loop
invariant-loop g l = g.F.PositionedFile.held l.file ≡ g.F.PositionedFile.held l.initial.file
