-- A connect that failed counts nothing yet.
use Rattle.std.proofs.Common.{◌≡◌, None}
use Rattle.sz_real.proofs.net.RealNet.connect_to.Given as goal

abbrev pub invariant-loop-address : goal.invariant-loop-address
invariant-loop-address g l = record {
  faults : l.self.faults ≡ l.initial.self.faults;
  none : l.self.connection ≡ None;
}
