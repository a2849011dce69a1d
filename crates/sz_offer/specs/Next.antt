-- The device that an offer would leave, and whether its record fits the cell.
use Rattle.std.specs.Prelude.{◌≡◌, ◌⊎◌, ℕ, length, Some}
use Rattle.sz_base.specs.declared.evidence.Evidence.{Evidence}
use Rattle.sz_base.specs.declared.moment.Moment.{Moment}
use Rattle.sz_artifacts.specs.declared.conveyed.onboarding.BootImage.{BootImage}
use Rattle.sz_artifacts.specs.declared.conveyed.onboarding.Onboarding.{Onboarding}
use Rattle.sz_record.specs.Size.{size_of}
use Rattle.sz_record.specs.Spelling.{new_version, record_bytes}
use Rattle.sz_record.specs.declared.device.Device.{Device}
use Rattle.sz_record.specs.declared.device.Image.{Image}
use Rattle.sz_state.specs.Fitting.{Fits}
use Rattle.sz_state.specs.Step.{IsSatisfied, once_onboarded, with_image}

-- what runs satisfies the information, and the device is committed to it
pub record AsCommitted (device : Device) (onboarding : Onboarding) (when : Moment) (evidence : Evidence) (next : Device)
    : Type 0 where
  pub satisfied : IsSatisfied device onboarding
  pub next_is : next ≡ once_onboarded device onboarding when evidence

-- What runs does not satisfy the information, and an image is in place, in whatever area and of whatever size and
-- SHA-256: the records of all of them have one length.
pub record WithImage (device : Device) (onboarding : Onboarding) (when : Moment) (evidence : Evidence) (next : Device)
    : Type 0 where
  pub unsatisfied : ¬ (IsSatisfied device onboarding)
  pub boot : BootImage
  pub named : onboarding.image ≡ Some boot
  pub image : Image
  pub digest : length image.hash ≡ 32
  pub when_is : image.when ≡ when
  pub evidence_is : image.evidence ≡ evidence
  pub next_is : next ≡ with_image device boot image

-- the device may next be this one
abbrev pub IsNext : Device → Onboarding → Moment → Evidence → Device → Type 0
IsNext device onboarding when evidence next =
    AsCommitted device onboarding when evidence next ⊎ WithImage device onboarding when evidence next

-- its record fits the cell
abbrev pub NextFits : ℕ → Device → Onboarding → Moment → Evidence → Type 0
NextFits capacity device onboarding when evidence =
    (next : Device) → IsNext device onboarding when evidence next → Fits capacity next

-- its record has this many bytes, capped, which do not fit
pub record NextIsTooLarge (capacity : ℕ) (device : Device) (onboarding : Onboarding) (when : Moment)
    (evidence : Evidence) (size : ℕ) : Type 0 where
  pub next : Device
  pub is_next : IsNext device onboarding when evidence next
  pub over : ¬ (Fits capacity next)
  pub size_is : size ≡ size_of (record_bytes new_version next)
