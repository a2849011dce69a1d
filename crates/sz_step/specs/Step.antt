-- The one step that a device may take at a boot: an image is put in place, or the device is committed.
use Rattle.std.specs.Prelude.{◌≡◌, ◌⊎◌, None}
use Rattle.sz_base.specs.declared.evidence.Evidence.{Evidence}
use Rattle.sz_base.specs.declared.moment.Moment.{Moment}
use Rattle.sz_artifacts.specs.declared.conveyed.onboarding.Onboarding.{Onboarding}
use Rattle.sz_evidence.specs.Authorised.{Authorised}
use Rattle.sz_record.specs.declared.device.Device.{Device}
use Rattle.sz_state.specs.Change.{NamesImage}
use Rattle.sz_state.specs.Step.{IsSatisfied, once_installed, once_onboarded, other_area}
use Rattle.sz_state.specs.declared.staged.Staged.{Staged}

-- An image is put in place (RFC 8572 section 5.6). The device is not committed, and the evidence authorises it at this
-- moment for information that names a boot image with its hash, which what runs is not. The image takes the area that
-- the device's image does not use, and the device then runs what the information names.
pub record Installs (before : Device) (when : Moment) (evidence : Evidence) (after : Device) : Type 0 where
  pub onboarding : Onboarding
  pub authorised : Authorised before.identity when evidence onboarding
  pub uncommitted : before.onboarded ≡ None
  pub unsatisfied : ¬ (IsSatisfied before onboarding)
  pub names : NamesImage onboarding
  pub staged : Staged
  pub area : staged.area ≡ other_area before.image
  pub after_is : after ≡ once_installed before onboarding staged when evidence

-- The device is committed (RFC 8572 section 5.6). It was not before, and the evidence authorises it at this moment for
-- information that names no boot image or the one that runs. The device then has the scripts and the configuration of
-- this information.
pub record Onboards (before : Device) (when : Moment) (evidence : Evidence) (after : Device) : Type 0 where
  pub onboarding : Onboarding
  pub authorised : Authorised before.identity when evidence onboarding
  pub uncommitted : before.onboarded ≡ None
  pub satisfied : IsSatisfied before onboarding
  pub after_is : after ≡ once_onboarded before onboarding when evidence

-- from a device that is committed there is no step
abbrev pub Step : Device → Moment → Evidence → Device → Type 0
Step before when evidence after = Installs before when evidence after ⊎ Onboards before when evidence after
