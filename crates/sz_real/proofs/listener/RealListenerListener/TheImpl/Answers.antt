-- The listener tells nothing of what arrives.
use Rattle.std.proofs.Common.{refl}
use Rattle.sz_real.proofs.Untold.{IfOk-always, OnOk-always, OnErr-always}
use Rattle.sz_real.proofs.listener.RealListenerListener.TheImpl.Goals as goal

pub receive-tells : goal.receive-tells
receive-tells g c = record {
  within = c.ensures.within;
  ok = IfOk-always c.result _ (λ _. refl);
  refused = OnErr-always c.result refl;
  stands = c.ensures.stands c.requires;
  cause = c.ensures.cause;
}

pub send-tells : goal.send-tells
send-tells g c = record {
  ok = OnOk-always c.result refl;
  refused = OnErr-always c.result refl;
  stands = c.ensures.stands c.requires;
  cause = c.ensures.cause;
}
