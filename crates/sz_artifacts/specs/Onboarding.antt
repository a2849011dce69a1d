-- Onboarding information (RFC 8572 sections 2.2 and 6.3): what the device boots, is configured with and runs.
use Rattle.std.specs.Prelude.{◌≡◌, ℕ, if◌then◌else◌, List, [], ◌∷◌, Option, Some, None, option_and_then, unwrap_or, Ok, codes, ⊤}
use Rattle.std.specs.Str.{bytes_eq}
use Rattle.serde_json.specs.Data.{Data}
use Rattle.sz_json.specs.Fault.{fault_of, first_inside, first_of}
use Rattle.sz_json.specs.Form.{binary_of, object_of, text_of}
use Rattle.sz_json.specs.Member.{optional, required}
use Rattle.sz_json.specs.declared.name.Name.{Name}
use Rattle.sz_json.specs.declared.name.Name.TheVariants as name
use Rattle.sz_artifacts.specs.Image.{image_fault, IsBootImage}
use Rattle.sz_artifacts.specs.declared.conveyed.onboarding.BootImage.{BootImage}
use Rattle.sz_artifacts.specs.declared.conveyed.onboarding.Handling.{Handling}
use Rattle.sz_artifacts.specs.declared.conveyed.onboarding.Handling.TheVariants.{Merge, Replace}
use Rattle.sz_artifacts.specs.declared.conveyed.onboarding.Onboarding.{Onboarding}

-- how the configuration is taken, as a text
abbrev pub handling_text : Handling → List ℕ
handling_text Merge = codes "merge"
handling_text Replace = codes "replace"

abbrev pub handling_of_text : List ℕ → Option Handling
handling_of_text text =
    if bytes_eq text (handling_text Merge) then Some Merge
    else if bytes_eq text (handling_text Replace) then Some Replace else None

abbrev pub handling_of : Data → Option Handling
handling_of value = option_and_then handling_of_text (text_of value)

-- how the configuration is taken by information that does not say it
abbrev pub default_handling : Handling
default_handling = Replace

-- a boot image where there is one
abbrev pub IsImageWhere : Option Data → Option BootImage → Type 0
IsImageWhere None None = ⊤
IsImageWhere None (Some image) = ⊥
IsImageWhere (Some value) None = ⊥
IsImageWhere (Some value) (Some image) = IsBootImage value image

-- the information inside the top member
pub record IsInformation (information : Data) (onboarding : Onboarding) : Type 0 where
  pub image : Option Data
  pub named : Option Handling
  pub boot_image : optional object_of name.BootImage information ≡ Ok image
  pub of_image : IsImageWhere image onboarding.image
  pub handling : optional handling_of name.ConfigurationHandling information ≡ Ok named
  pub or_default : onboarding.handling ≡ unwrap_or named default_handling
  pub pre : optional binary_of name.PreConfigurationScript information ≡ Ok onboarding.pre
  pub configuration : optional binary_of name.Configuration information ≡ Ok onboarding.configuration
  pub post : optional binary_of name.PostConfigurationScript information ≡ Ok onboarding.post

-- the value is that of onboarding information
pub record IsOnboarding (value : Data) (onboarding : Onboarding) : Type 0 where
  pub information : Data
  pub top : required object_of name.OnboardingInformation value ≡ Ok information
  pub inside : IsInformation information onboarding

-- ---- the first member at fault

abbrev pub image_fault_where : Option Data → Option Name
image_fault_where None = None
image_fault_where (Some value) = image_fault value

abbrev pub information_fault : Data → Option Name
information_fault information = first_of (
    first_inside (optional object_of name.BootImage information) image_fault_where
    ∷ fault_of (optional handling_of name.ConfigurationHandling information)
    ∷ fault_of (optional binary_of name.PreConfigurationScript information)
    ∷ fault_of (optional binary_of name.Configuration information)
    ∷ fault_of (optional binary_of name.PostConfigurationScript information)
    ∷ [])

abbrev pub onboarding_fault : Data → Option Name
onboarding_fault value = first_inside (required object_of name.OnboardingInformation value) information_fault
