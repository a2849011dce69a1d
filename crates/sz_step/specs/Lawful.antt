-- Which devices are lawful: all that was put on them is named by evidence that authorises it at the moment stored
-- with it.
use Rattle.std.specs.Prelude.{◌≡◌, ℕ, List, Some, IfSome}
use Rattle.sz_base.specs.declared.identity.Identity.{Identity}
use Rattle.sz_artifacts.specs.declared.conveyed.onboarding.BootImage.{BootImage}
use Rattle.sz_artifacts.specs.declared.conveyed.onboarding.Onboarding.{Onboarding}
use Rattle.sz_evidence.specs.Authorised.{Authorised}
use Rattle.sz_record.specs.declared.device.Committed.{Committed}
use Rattle.sz_record.specs.declared.device.Device.{Device}
use Rattle.sz_record.specs.declared.device.Image.{Image}
use Rattle.sz_state.specs.Step.{IsSatisfied, commitment}

-- the information names a boot image with this SHA-256
pub record Names (onboarding : Onboarding) (hash : List ℕ) : Type 0 where
  pub boot : BootImage
  pub named : onboarding.image ≡ Some boot
  pub hashed : boot.hash ≡ Some hash

-- the image's evidence authorises the device, at the moment stored with the image, for information that names its hash
pub record IsLawfulImage (identity : Identity) (image : Image) : Type 0 where
  pub onboarding : Onboarding
  pub authorised : Authorised identity image.when image.evidence onboarding
  pub names : Names onboarding image.hash

-- What the device is committed to has evidence that authorises the device, at the moment stored with it, for
-- information that has these scripts and this configuration, and that is satisfied by what runs.
pub record IsLawfulCommitment (device : Device) (committed : Committed) : Type 0 where
  pub onboarding : Onboarding
  pub authorised : Authorised device.identity committed.when committed.evidence onboarding
  pub fields : committed ≡ commitment onboarding committed.when committed.evidence
  pub satisfied : IsSatisfied device onboarding

pub record Lawful (device : Device) : Type 0 where
  pub image : IfSome device.image (IsLawfulImage device.identity)
  pub onboarded : IfSome device.onboarded (IsLawfulCommitment device)
