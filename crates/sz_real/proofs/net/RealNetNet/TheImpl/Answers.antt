-- The network tells nothing of its traffic.
use Rattle.std.proofs.Common.{refl}
use Rattle.sz_real.proofs.Untold.{IfOk-always, OnOk-always, OnErr-always}
use Rattle.sz_real.proofs.net.RealNetNet.TheImpl.Goals as goal

pub connect-tells : goal.connect-tells
connect-tells g c = record { ok = OnOk-always c.result refl; failed = λ _. refl; no_memory = λ _. refl; cause = c.ensures.cause }

pub send-tells : goal.send-tells
send-tells g c = record { ok = OnOk-always c.result refl; failed = λ _. refl; no_memory = λ _. refl; cause = c.ensures.cause }

pub receive-tells : goal.receive-tells
receive-tells g c = record {
  within = c.ensures.within;
  ok = IfOk-always c.result _ (λ _. refl);
  failed = OnErr-always c.result refl;
  cause = c.ensures.cause;
}
