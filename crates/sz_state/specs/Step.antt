-- What a device becomes: as it is made, once an image is in place, and once it is committed.
use Rattle.std.specs.Prelude.{◌≡◌, ℕ, ◌==◌, if◌then◌else◌, List, Option, Some, None, IfSome, unwrap_or}
use Rattle.sz_base.specs.declared.evidence.Evidence.{Evidence}
use Rattle.sz_base.specs.declared.identity.Identity.{Identity}
use Rattle.sz_base.specs.declared.moment.Moment.{Moment}
use Rattle.sz_artifacts.specs.declared.conveyed.onboarding.BootImage.{BootImage}
use Rattle.sz_artifacts.specs.declared.conveyed.onboarding.Onboarding.{Onboarding}
use Rattle.sz_record.specs.declared.device.Committed.{Committed}
use Rattle.sz_record.specs.declared.device.Device.{Device}
use Rattle.sz_record.specs.declared.device.Image.{Image}
use Rattle.sz_state.specs.declared.staged.Staged.{Staged}

-- a device as it is made: it runs what its identity names
abbrev pub factory : Identity → Device
factory identity = record {
  identity = identity;
  running_name = identity.os_name;
  running_version = identity.os_version;
  image = None;
  onboarded = None;
}

-- what runs is what the boot image names, as far as it names it
pub record IsBooted (device : Device) (boot : BootImage) : Type 0 where
  pub os_name : IfSome boot.os_name (λ name. name ≡ device.running_name)
  pub os_version : IfSome boot.os_version (λ version. version ≡ device.running_version)

-- the information names no boot image, or the one that runs
abbrev pub IsSatisfied : Device → Onboarding → Type 0
IsSatisfied device onboarding = IfSome onboarding.image (IsBooted device)

-- the area that the device's image does not use, or the first one where it has none
abbrev pub other_area : Option Image → ℕ
other_area None = 0
other_area (Some image) = if image.area == 0 then 1 else 0

-- the image that was staged, as a record names it
abbrev pub staged_image : Staged → List ℕ → Moment → Evidence → Image
staged_image staged hash when evidence = record {
  area = staged.area;
  size = staged.size;
  hash = hash;
  when = when;
  evidence = evidence;
}

-- the device once this image is in place: it runs what the boot image names, as far as it names it, and the rest is as
-- it was
abbrev pub with_image : Device → BootImage → Image → Device
with_image before boot image = record before {
  running_name = unwrap_or boot.os_name before.running_name;
  running_version = unwrap_or boot.os_version before.running_version;
  image = Some image;
}

abbrev pub installed_as : Device → BootImage → Option (List ℕ) → Staged → Moment → Evidence → Device
installed_as before boot None staged when evidence = before
installed_as before boot (Some hash) staged when evidence =
    with_image before boot (staged_image staged hash when evidence)

abbrev pub installed_by : Device → Option BootImage → Staged → Moment → Evidence → Device
installed_by before None staged when evidence = before
installed_by before (Some boot) staged when evidence = installed_as before boot boot.hash staged when evidence

-- the device once the staged image is in place, under the hash that the information names, or as it was where it names
-- none
abbrev pub once_installed : Device → Onboarding → Staged → Moment → Evidence → Device
once_installed before onboarding staged when evidence =
    installed_by before onboarding.image staged when evidence

-- what a device is committed to by this information
abbrev pub commitment : Onboarding → Moment → Evidence → Committed
commitment onboarding when evidence = record {
  when = when;
  evidence = evidence;
  handling = onboarding.handling;
  pre = onboarding.pre;
  configuration = onboarding.configuration;
  post = onboarding.post;
}

-- the device once it is committed: the rest is as it was
abbrev pub once_onboarded : Device → Onboarding → Moment → Evidence → Device
once_onboarded before onboarding when evidence = record before {
  onboarded = Some (commitment onboarding when evidence);
}
