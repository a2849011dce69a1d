-- Lists of boots of one device, and what each of them does to it.
use Rattle.std.specs.Prelude.{◌≡◌, ◌⊎◌, ⊤, not, ◌&&◌, Bool, List, [], ◌∷◌, is_some}
use Rattle.std.specs.List.{AllByRecursion}
use Rattle.sz_base.specs.declared.evidence.Evidence.{Evidence}
use Rattle.sz_base.specs.declared.moment.Moment.{Moment}
use Rattle.sz_record.specs.declared.device.Device.{Device}
use Rattle.sz_step.specs.Step.{Step}

-- one boot: the device before it and after it, its moment, and the evidence by which it took a step, if it took one
pub record Boot : Type 0 where
  pub before : Device
  pub when : Moment
  pub evidence : Evidence
  pub after : Device

-- the boot changes nothing, or takes one step
abbrev pub IsSafe : Boot → Type 0
IsSafe boot = (boot.after ≡ boot.before) ⊎ Step boot.before boot.when boot.evidence boot.after

-- the boots are safe, the first begins with this device, and each later one with what the one before it left
abbrev pub Follow : Device → List Boot → Type 0
Follow first [] = ⊤
Follow first (boot ∷ boots) = (boot.before ≡ first) × IsSafe boot × Follow boot.after boots

-- the boot commits the device, which was not committed before
abbrev pub commits : Boot → Bool
commits boot = not (is_some boot.before.onboarded) && is_some boot.after.onboarded

-- this holds of the device that each boot leaves
abbrev pub EachLeaves : (Device → Type 0) → List Boot → Type 0
EachLeaves P boots = AllByRecursion (λ boot. P boot.after) boots
