-- What an image and a commitment need, and what a call that changes the device does.
use Rattle.std.specs.Prelude.{◌≡◌, ◌≢◌, ◌⊎◌, ℕ, ◌+◌, ◌^◌, ◌≤◌, List, length, Some, None, IfSome, Result, Ok, Err, OnOk}
use Rattle.sz_base.specs.declared.evidence.Evidence.{Evidence}
use Rattle.sz_base.specs.declared.moment.Moment.{Moment}
use Rattle.sz_artifacts.specs.declared.conveyed.onboarding.BootImage.{BootImage}
use Rattle.sz_artifacts.specs.declared.conveyed.onboarding.Onboarding.{Onboarding}
use Rattle.sz_disk.specs.Disk.{Seen, IsSettled, LeavesOnly}
use Rattle.sz_record.specs.Spelling.{new_version, record_bytes}
use Rattle.sz_record.specs.declared.device.Device.{Device}
use Rattle.sz_state.specs.Fitting.{Fits}
use Rattle.sz_state.specs.Held.{IsHeld}
use Rattle.sz_state.specs.Layout.{capacity_of, space_of}
use Rattle.sz_state.specs.Ran.{NowStandsAnew}
use Rattle.sz_state.specs.Stands.{HasImage, Stands, StandsAnew}
use Rattle.sz_state.specs.Step.{IsSatisfied, once_onboarded, other_area, staged_image, with_image}
use Rattle.sz_state.specs.declared.fault.StateFault.{StateFault}
use Rattle.sz_state.specs.declared.fault.StateFault.TheVariants.{Failed, NotInitialised, Damaged, BadRecord, InUse, Exhausted, OutOfMemory, TooLarge}
use Rattle.sz_state.specs.declared.held.Held.{Held}
use Rattle.sz_state.specs.declared.staged.Staged.{Staged}

-- The device is not committed, the information is satisfied by what runs, and the next record fits.
pub record CanOnboard (size : ℕ) (device : Device) (onboarding : Onboarding) (when : Moment) (evidence : Evidence)
    : Type 0 where
  pub uncommitted : device.onboarded ≡ None
  pub satisfied : IsSatisfied device onboarding
  pub fits : Fits (capacity_of size) (once_onboarded device onboarding when evidence)

-- the longest name and version of a boot image, in bytes
abbrev pub longest_name : ℕ
longest_name = 256

pub record HasShortNames (boot : BootImage) : Type 0 where
  pub os_name : IfSome boot.os_name (λ name. length name ≤ longest_name)
  pub os_version : IfSome boot.os_version (λ version. length version ≤ longest_name)

-- the information names a boot image and its hash
pub record NamesImage (onboarding : Onboarding) : Type 0 where
  pub boot : BootImage
  pub named : onboarding.image ≡ Some boot
  pub hash : List ℕ
  pub hashed : boot.hash ≡ Some hash

-- The device is not committed, what runs does not satisfy the information, which names a boot image with a hash and
-- with short names; the image was staged in the area that the device's image does not use, and the next record fits.
pub record CanInstall (size : ℕ) (device : Device) (staged : Staged) (onboarding : Onboarding) (when : Moment)
    (evidence : Evidence) : Type 0 where
  pub uncommitted : device.onboarded ≡ None
  pub unsatisfied : ¬ (IsSatisfied device onboarding)
  pub names : NamesImage onboarding
  pub short : HasShortNames names.boot
  pub area : staged.area ≡ other_area device.image
  pub within : staged.size ≤ space_of size
  pub fits : Fits (capacity_of size) (with_image device names.boot (staged_image staged names.hash when evidence))

-- every image that a crash now may leave has the bytes of the device's image in their area
abbrev pub NowHasImage : Seen → Device → Type 0
NowHasImage disk device = (image : List ℕ) → disk.leaves image → IfSome device.image (HasImage image)

-- The device that was found is now this one, its record is the form of version 2, and everything is synced.
pub record IsChanged (disk : Seen) (after : Device) (held : Held) : Type 0 where
  pub device : held.device ≡ after
  pub found : IsHeld disk held
  pub written : found.payload ≡ record_bytes new_version after
  pub settled : IsSettled disk

-- Each image that a crash at any moment might leave stands for the device before, or for the one after by a record of
-- version 2, and after success every image stands for the one after.
pub record StandsThrough {T E : Type 0} (old new : Seen) (before after : Device) (result : Result T E) : Type 0 where
  pub any_moment : LeavesOnly old new (λ image. Stands image before ⊎ StandsAnew image after)
  pub ok : OnOk result (NowStandsAnew new after)

-- What `install` and `onboard` answer, where the record has this sequence: `Exhausted` where it is the last one, unless
-- memory ran out before; and else that the device is changed, that the disk failed, or that memory ran out.
abbrev pub ChangeAnswered : ℕ → Result Held StateFault → Type 0
ChangeAnswered sequence (Ok held) = sequence + 1 ≢ 2 ^ 64
ChangeAnswered sequence (Err Failed) = sequence + 1 ≢ 2 ^ 64
ChangeAnswered sequence (Err (Exhausted last)) = (last ≡ sequence) × (sequence + 1 ≡ 2 ^ 64)
ChangeAnswered sequence (Err OutOfMemory) = Unit {0}
ChangeAnswered sequence (Err NotInitialised) = ⊥
ChangeAnswered sequence (Err (Damaged slot number length)) = ⊥
ChangeAnswered sequence (Err (BadRecord place value)) = ⊥
ChangeAnswered sequence (Err (InUse slot)) = ⊥
ChangeAnswered sequence (Err (TooLarge size)) = ⊥

-- the answers of `install` and `onboard` at which the disk is not touched
abbrev pub IsBeforeTheDisk : StateFault → Type 0
IsBeforeTheDisk fault = (fault ≡ OutOfMemory) ⊎ ((sequence : ℕ) × (fault ≡ Exhausted sequence))
