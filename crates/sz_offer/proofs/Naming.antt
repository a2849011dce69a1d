-- Onboarding information that was read has short names for its boot image.
use Rattle.std.specs.Prelude.{◌≡◌, ℕ, ◌≤◌, Bool, true, false, if◌then◌else◌, nat_le, List, length, Option, Some, None, IfSome, option_and_then, Ok}
use Rattle.std.proofs.Common.{refl, subst, arith}
use Rattle.std.proofs.lemmas.Bool.Decides.{nat_tests}
use Rattle.serde_json.specs.Data.{Data}
use Rattle.sz_json.specs.Form.{text_of}
use Rattle.sz_json.specs.Member.{optional}
use Rattle.sz_json.specs.declared.name.Name.{Name}
use Rattle.sz_json.specs.declared.name.Name.TheVariants as name
use Rattle.sz_json.proofs.Readings.{form_from_optional}
use Rattle.sz_artifacts.specs.Image.{if_short, IsBootImage, short_text_of}
use Rattle.sz_artifacts.specs.Onboarding.{IsImageWhere, IsOnboarding}
use Rattle.sz_artifacts.specs.declared.conveyed.onboarding.BootImage.{BootImage}
use Rattle.sz_artifacts.specs.declared.conveyed.onboarding.Onboarding.{Onboarding}
use Rattle.sz_state.specs.Change.{HasShortNames, longest_name}

at_most : (m n : ℕ) → nat_le m n ≡ true → m ≤ n
at_most m n is = grind (arith, nat_tests)

short_if : (test : Bool) (text found : List ℕ) → nat_le (length text) 256 ≡ test
    → (if test then Some text else None) ≡ Some found → length found ≤ longest_name
short_if true text found is h =
    let same : text ≡ found = cc in
    subst (λ (l : List ℕ). length l ≤ longest_name) same (at_most (length text) 256 is)
short_if false text found is h = cc

short_in : (text : Option (List ℕ)) (found : List ℕ) → option_and_then if_short text ≡ Some found
    → length found ≤ longest_name
short_in None found h = cc
short_in (Some text) found h = short_if (nat_le (length text) 256) text found refl h

short_where : (member : Name) (value : Data) (found : Option (List ℕ)) → optional short_text_of member value ≡ Ok found
    → IfSome found (λ text. length text ≤ longest_name)
short_where member value None h = tt
short_where member value (Some text) h =
    let read = form_from_optional short_text_of member value text h in
    short_in (text_of read.0) text read.1

boot_names : (value : Data) (boot : BootImage) → IsBootImage value boot → HasShortNames boot
boot_names value boot is = record {
  os_name = short_where name.OsName value boot.os_name is.os_name;
  os_version = short_where name.OsVersion value boot.os_version is.os_version;
}

names_where : (value : Option Data) (image : Option BootImage) → IsImageWhere value image → IfSome image HasShortNames
names_where None None is = tt
names_where None (Some boot) is = absurd is
names_where (Some value) None is = absurd is
names_where (Some value) (Some boot) is = boot_names value boot is

pub short_names : (value : Data) (onboarding : Onboarding) → IsOnboarding value onboarding
    → IfSome onboarding.image HasShortNames
short_names value onboarding is = names_where is.inside.image onboarding.image is.inside.of_image
