-- Conveyed information (RFC 8572 section 2): a redirect to bootstrap servers, or onboarding information.
use Rattle.std.specs.Prelude.{◌≡◌, ℕ, Bool, true, false, List, Option, Some, None}
use Rattle.serde_json.specs.Data.{Data}
use Rattle.serde_json.specs.Find.{get}
use Rattle.sz_json.specs.Bounded.{IsBoundedJson}
use Rattle.sz_json.specs.Fault.{fault_of}
use Rattle.sz_json.specs.Member.{or_fault}
use Rattle.sz_json.specs.Name.{name_text}
use Rattle.sz_json.specs.declared.name.Name.{Name}
use Rattle.sz_json.specs.declared.name.Name.TheVariants as name
use Rattle.sz_artifacts.specs.Onboarding.{IsOnboarding, onboarding_fault}
use Rattle.sz_artifacts.specs.Redirect.{IsRedirect, redirect_fault}
use Rattle.sz_artifacts.specs.declared.conveyed.Conveyed.{Conveyed}
use Rattle.sz_artifacts.specs.declared.conveyed.Conveyed.TheVariants.{Redirect, Onboarding}

-- of two members the one that is there alone: true for the second
abbrev pub second_alone : Option Data → Option Data → Option Bool
second_alone (Some first) None = Some false
second_alone None (Some second) = Some true
second_alone (Some first) (Some second) = None
second_alone None None = None

-- the value has exactly one of the two top members: true for onboarding information
abbrev pub has_onboarding : Data → Option Bool
has_onboarding value =
    second_alone (get (name_text name.RedirectInformation) value) (get (name_text name.OnboardingInformation) value)

-- the value is that of the conveyed information
abbrev pub IsConveyed : Data → Conveyed → Type 0
IsConveyed value (Redirect targets) = (has_onboarding value ≡ Some false) × IsRedirect value targets
IsConveyed value (Onboarding onboarding) = (has_onboarding value ≡ Some true) × IsOnboarding value onboarding

-- the content is a text of it
abbrev pub ConveyedOf : List ℕ → Conveyed → Type 0
ConveyedOf content conveyed = (value : Data) × IsBoundedJson content value × IsConveyed value conveyed

-- ---- the first member at fault; a content without exactly one of the two is at fault as a whole

abbrev pub top_fault : Data → Option Name
top_fault value = fault_of (or_fault name.Json (has_onboarding value))

abbrev pub fault_where : Data → Option Bool → Option Name
fault_where value None = Some name.Json
fault_where value (Some false) = redirect_fault value
fault_where value (Some true) = onboarding_fault value

abbrev pub conveyed_fault : Data → Option Name
conveyed_fault value = fault_where value (has_onboarding value)
