-- The disk tells nothing of what it holds.
use Rattle.std.proofs.Common.{refl}
use Rattle.sz_real.proofs.Untold.{OnOk-always, OnErr-always, IsQuiet-untold, IsSynced-untold, WroteIn-untold}
use Rattle.sz_real.proofs.disk.FileDiskDisk.TheImpl.Goals as goal

pub read-tells : goal.read-tells
read-tells g c = record { bytes = OnOk-always c.result tt; quiet = IsQuiet-untold _ _ _; cause = c.ensures.cause }

pub write_at-tells : goal.write_at-tells
write_at-tells g c = record { written = OnOk-always c.result refl; wrote = WroteIn-untold _ _ _ _ _; cause = c.ensures.cause }

pub sync-tells : goal.sync-tells
sync-tells g c = record {
  ok = OnOk-always c.result (IsSynced-untold _ _ _);
  still = (IsQuiet-untold _ _ _).still;
  unsynced = OnErr-always c.result
      (λ image h. absurd h);
  cause = c.ensures.cause;
}
