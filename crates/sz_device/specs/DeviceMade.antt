-- What it comes to that a disk is made to stand for a device with an identity.
use Rattle.std.specs.Prelude.{◌≡◌, ◌⊎◌, ℕ, List, Result, Ok, Err}
use Rattle.sz_base.specs.declared.identity.Identity.{Identity}
use Rattle.sz_cell.specs.Cell.{NoneOpen}
use Rattle.sz_cell.specs.Transition.{IsInUse}
use Rattle.sz_commands.specs.Failure.{Failure, DiskFault, OutOfMemory, SizeRefused, SlotInUse, TooLarge, blames, blames_disk}
use Rattle.sz_disk.specs.Disk.{IsStill, LeavesOnly, Seen}
use Rattle.sz_spec.specs.Cause.{HasCause}
use Rattle.sz_state.specs.Fitting.{Fits}
use Rattle.sz_state.specs.Layout.{HasLayout, capacity_of, cell_place}
use Rattle.sz_state.specs.Ran.{AsBeforeOrStands, IsInitialised, IsTooLarge}
use Rattle.sz_state.specs.Step.{factory}

-- The serial number, or a failure.
abbrev pub Answer : Type 0
Answer = Result (List ℕ) Failure

-- the disk has a layout, and in it the record of a device as it is made fits
pub record HasRoom (disk : Seen) (identity : Identity) : Type 0 where
  pub layout : HasLayout disk.size
  pub fits : Fits (capacity_of disk.size) (factory identity)

module _ {D : Type 0} (seen : D → Seen) (identity : Identity) (old new : D) where
  -- The answers that may be given. With the serial number every image that a crash may leave stands for the device as
  -- it is made. A disk in use is told by the first slot whose gate is open, and nothing was written.
  abbrev pub MayInit : Answer → Type 0
  MayInit (Ok serial) =
      (serial ≡ identity.serial) × HasRoom (seen old) identity × IsInitialised (seen new) identity
  MayInit (Err (SizeRefused size)) = (size ≡ (seen old).size) × ¬ (HasLayout size) × (new ≡ old)
  MayInit (Err (TooLarge size)) =
      HasLayout (seen old).size × IsTooLarge (capacity_of (seen old).size) (factory identity) size × (new ≡ old)
  MayInit (Err (SlotInUse slot)) =
      HasRoom (seen old) identity × IsInUse cell_place (capacity_of (seen old).size) slot (seen old) (seen new)
  MayInit (Err DiskFault) = HasRoom (seen old) identity
  MayInit (Err OutOfMemory) = HasLayout (seen old).size × (new ≡ old)
  MayInit (Err other) = ⊥

  -- The disk was made so, or not, with this answer. Nothing was written unless no gate read open: a disk in use stays
  -- as it is, whatever the answer. At any moment a crash leaves what means what it meant, or stands for the device as
  -- it is made. The disk is blamed only where its count rose.
  pub record DeviceMade (answer : Answer) : Type 0 where
    pub may : MayInit answer
    pub free : IsStill (seen old) (seen new) ⊎ NoneOpen cell_place (capacity_of (seen old).size) (seen old).reads
    pub any_moment : LeavesOnly (seen old) (seen new) (AsBeforeOrStands (seen old) (factory identity))
    pub cause : HasCause (seen old).faults (seen new).faults (blames blames_disk answer)
