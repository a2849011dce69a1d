-- A step keeps a device lawful, and keeps its identity; from a committed device there is none.
use Rattle.std.specs.Prelude.{◌≡◌, ◌≢◌, Option, Some, None, IfSome}
use Rattle.std.proofs.Common.{refl, sym, subst, ap, ◌∙◌}
use mathlib.Core.Logic.{inl, inr}
use Rattle.sz_base.specs.declared.evidence.Evidence.{Evidence}
use Rattle.sz_base.specs.declared.moment.Moment.{Moment}
use Rattle.sz_artifacts.specs.declared.conveyed.onboarding.BootImage.{BootImage}
use Rattle.sz_artifacts.specs.declared.conveyed.onboarding.Onboarding.{Onboarding}
use Rattle.sz_record.specs.declared.device.Device.{Device}
use Rattle.sz_record.specs.declared.device.Image.{Image}
use Rattle.sz_state.specs.Change.{NamesImage}
use Rattle.sz_state.specs.Step.{IsBooted, IsSatisfied, commitment, once_installed, once_onboarded, staged_image, with_image}
use Rattle.sz_state.specs.declared.staged.Staged.{Staged}
use Rattle.sz_step.specs.Lawful.{IsLawfulCommitment, IsLawfulImage, Lawful}
use Rattle.sz_step.specs.Step.{Installs, Onboards, Step}

-- ---- an image in place

installed_is : (before : Device) (onboarding : Onboarding) (staged : Staged) (when : Moment) (evidence : Evidence)
    (names : NamesImage onboarding) → once_installed before onboarding staged when evidence
    ≡ with_image before names.boot (staged_image staged names.hash when evidence)
installed_is before onboarding staged when evidence names = rw (names.named, names.hashed) refl

image_lawful : (before : Device) (when : Moment) (evidence : Evidence) (after : Device)
    (is : Installs before when evidence after)
    → IsLawfulImage before.identity (staged_image is.staged is.names.hash when evidence)
image_lawful before when evidence after is = record {
  onboarding = is.onboarding;
  authorised = is.authorised;
  names = record { boot = is.names.boot; named = is.names.named; hashed = is.names.hashed };
}

uncommitted_lawful : (before : Device) (boot : BootImage) (image : Image) → before.onboarded ≡ None
    → IfSome before.onboarded (IsLawfulCommitment (with_image before boot image))
uncommitted_lawful before boot image none = rw none tt

with_image_lawful : (before : Device) (when : Moment) (evidence : Evidence) (after : Device)
    (is : Installs before when evidence after)
    → Lawful (with_image before is.names.boot (staged_image is.staged is.names.hash when evidence))
with_image_lawful before when evidence after is = record {
  image = image_lawful before when evidence after is;
  onboarded = uncommitted_lawful before is.names.boot (staged_image is.staged is.names.hash when evidence) is.uncommitted;
}

install_lawful : (before : Device) (when : Moment) (evidence : Evidence) (after : Device)
    → Installs before when evidence after → Lawful after
install_lawful before when evidence after is =
    let e : after ≡ with_image before is.names.boot (staged_image is.staged is.names.hash when evidence) =
    is.after_is ∙ installed_is before is.onboarding is.staged when evidence is.names in
    subst (λ (device : Device). Lawful device) (sym e) (with_image_lawful before when evidence after is)

-- ---- a commitment

booted_on : (before : Device) (onboarding : Onboarding) (when : Moment) (evidence : Evidence) (image : Option BootImage)
    → IfSome image (IsBooted before) → IfSome image (IsBooted (once_onboarded before onboarding when evidence))
booted_on before onboarding when evidence None is = tt
booted_on before onboarding when evidence (Some boot) is = record {
  os_name = is.os_name;
  os_version = is.os_version;
}

-- what runs is as it was, so the information is still satisfied
satisfied_on : (before : Device) (onboarding : Onboarding) (when : Moment) (evidence : Evidence)
    → IsSatisfied before onboarding → IsSatisfied (once_onboarded before onboarding when evidence) onboarding
satisfied_on before onboarding when evidence is = booted_on before onboarding when evidence onboarding.image is

commitment_lawful : (before : Device) (when : Moment) (evidence : Evidence) (after : Device)
    (is : Onboards before when evidence after)
    → IsLawfulCommitment (once_onboarded before is.onboarding when evidence) (commitment is.onboarding when evidence)
commitment_lawful before when evidence after is = record {
  onboarding = is.onboarding;
  authorised = is.authorised;
  fields = refl;
  satisfied = satisfied_on before is.onboarding when evidence is.satisfied;
}

onboarded_lawful : (before : Device) (when : Moment) (evidence : Evidence) (after : Device) → Lawful before
    → (is : Onboards before when evidence after) → Lawful (once_onboarded before is.onboarding when evidence)
onboarded_lawful before when evidence after lawful is = record {
  image = lawful.image;
  onboarded = commitment_lawful before when evidence after is;
}

onboard_lawful : (before : Device) (when : Moment) (evidence : Evidence) (after : Device) → Lawful before
    → Onboards before when evidence after → Lawful after
onboard_lawful before when evidence after lawful is =
    subst (λ (device : Device). Lawful device) (sym is.after_is)
    (onboarded_lawful before when evidence after lawful is)

-- ---- a step

pub step_lawful : (before : Device) (when : Moment) (evidence : Evidence) (after : Device) → Lawful before
    → Step before when evidence after → Lawful after
step_lawful before when evidence after lawful (inl is) = install_lawful before when evidence after is
step_lawful before when evidence after lawful (inr is) = onboard_lawful before when evidence after lawful is

pub step_identity : (before : Device) (when : Moment) (evidence : Evidence) (after : Device)
    → Step before when evidence after → after.identity ≡ before.identity
step_identity before when evidence after (inl is) =
    ap (λ (device : Device). device.identity)
    (is.after_is ∙ installed_is before is.onboarding is.staged when evidence is.names)
step_identity before when evidence after (inr is) = ap (λ (device : Device). device.identity) is.after_is

pub no_step : (before : Device) (when : Moment) (evidence : Evidence) (after : Device) → before.onboarded ≢ None
    → Step before when evidence after → ⊥
no_step before when evidence after committed (inl is) = committed is.uncommitted
no_step before when evidence after committed (inr is) = committed is.uncommitted
