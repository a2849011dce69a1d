-- The folder tells nothing of its files.
use Rattle.std.proofs.Common.{refl}
use Rattle.sz_real.proofs.Untold.{IfOk-always, OnOk-always, OnErr-always}
use Rattle.sz_real.proofs.folder.RealFolderFolder.TheImpl.Goals as goal

pub length-tells : goal.length-tells
length-tells g c = record { ok = IfOk-always c.result _ (λ _. tt); unchanged = refl; cause = c.ensures.cause }

pub read_at-tells : goal.read_at-tells
read_at-tells g c = record {
  within = c.ensures.within;
  bytes = IfOk-always c.result _ (λ _. tt);
  end = IfOk-always c.result _ (λ _. tt);
  unchanged = refl;
  cause = c.ensures.cause;
}

pub write-tells : goal.write-tells
write-tells g c = record { ok = OnOk-always c.result refl; refused = OnErr-always c.result refl; cause = c.ensures.cause }
