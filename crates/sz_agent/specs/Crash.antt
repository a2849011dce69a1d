-- What a crash leaves of a device's disk in a boot, and what a disk reads as.
use Rattle.std.specs.Prelude.{◌≡◌, ◌⊎◌, ℕ, IsTrue, List, Some, is_some}
use Rattle.sz_disk.specs.Disk.{Seen, LeavesOnly}
use Rattle.sz_record.specs.declared.device.Device.{Device}
use Rattle.sz_state.specs.Stands.{HasRecord, Stands}
use Rattle.sz_step.specs.Boots.{Boot, IsSafe}

-- ---- before a boot

-- The disk tells its bytes, and reads as this device, whose record has this sequence.
pub record ReadsAs (disk : Seen) (device : Device) (sequence : ℕ) : Type 0 where
  pub bytes : List ℕ
  pub reads : disk.reads ≡ Some bytes
  pub record_is : HasRecord bytes device sequence

-- the image stands for one of these two devices
abbrev pub StandsForOne : Device → Device → List ℕ → Type 0
StandsForOne one other image = Stands image one ⊎ Stands image other

-- The disk tells its bytes, and every image that a crash now may leave stands for one of these two devices.
pub record StandsForEither (disk : Seen) (one other : Device) : Type 0 where
  pub tells : IsTrue (is_some disk.reads)
  pub each : (image : List ℕ) → disk.leaves image → StandsForOne one other image

-- ---- in a boot

-- The boot's first sync returned. Until then a crash leaves a disk that stands for the device before or for the other
-- one, as it began; from then on it leaves one that stands for the device before or for the one after.
pub record Outlasts {D : Type 0} (seen : D → Seen) (old new : D) (boot : Boot) (other : Device) : Type 0 where
  pub synced : D
  pub until_sync : LeavesOnly (seen old) (seen synced) (StandsForOne boot.before other)
  pub from_sync : LeavesOnly (seen synced) (seen new) (StandsForOne boot.before boot.after)

-- The boot's first sync failed: at every moment a crash leaves a disk that stands as it began, and the boot changed
-- nothing.
pub record StaysAsItBegan (old new : Seen) (boot : Boot) (other : Device) : Type 0 where
  pub still : LeavesOnly old new (StandsForOne boot.before other)
  pub same : boot.after ≡ boot.before

abbrev pub CrashOk : {D : Type 0} → (D → Seen) → D → D → Boot → Device → Type 0
CrashOk seen old new boot other =
    Outlasts seen old new boot other ⊎ StaysAsItBegan (seen old) (seen new) boot other

-- What a boot does to the device that its disk reads as: nothing, or one step, and whatever moment a crash comes at,
-- it leaves the device before or the one after.
pub record Changes {D : Type 0} (seen : D → Seen) (old new : D) (before : Device) : Type 0 where
  pub boot : Boot
  pub begins : boot.before ≡ before
  pub safe : IsSafe boot
  pub crash : (other : Device) → StandsForEither (seen old) before other → CrashOk seen old new boot other
