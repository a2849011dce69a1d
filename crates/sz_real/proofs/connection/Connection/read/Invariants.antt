-- An interrupted read gave nothing.
use Rattle.std.specs.Io.KnownBytes.{Keeps}
use Rattle.sz_real.proofs.connection.Connection.read.Given as goal

abbrev pub invariant-loop : goal.invariant-loop
invariant-loop g l = Keeps (g.S.Read.remaining l.initial.self.stream) (g.S.Read.remaining l.self.stream)
