-- What is written of conveyed information: the members of each object in the byte order of their names. An absent part
-- and an empty list of URIs are left out.
use Rattle.std.specs.Prelude.{ℕ, ◌+◌, ◌/◌, ◌%◌, if◌then◌else◌, List, [], ◌∷◌, ◌++◌, drop, map, slice_index, nat_lt, Option, Some, None, option_map, codes, IfSome, IsUtf8, ⊤}
use Rattle.std.specs.List.{All, flat_map}
use Rattle.serde_json.specs.Data.{Data, array, item, no_items, number, object, string, unsigned}
use Rattle.serde_json.specs.View.{items_of}
use Rattle.sz_base.specs.declared.target.Target.{Target}
use Rattle.sz_json.specs.Bounded.{IsBounded}
use Rattle.sz_json.specs.Object.{binary_value, members_of}
use Rattle.sz_json.specs.declared.name.Name.{Name}
use Rattle.sz_json.specs.declared.name.Name.TheVariants as name
use Rattle.sz_artifacts.specs.Conveyed.{ConveyedOf, IsConveyed}
use Rattle.sz_artifacts.specs.Onboarding.{handling_text}
use Rattle.sz_artifacts.specs.declared.conveyed.Conveyed.{Conveyed}
use Rattle.sz_artifacts.specs.declared.conveyed.Conveyed.TheVariants.{Redirect, Onboarding as Information}
use Rattle.sz_artifacts.specs.declared.conveyed.onboarding.BootImage.{BootImage}
use Rattle.sz_artifacts.specs.declared.conveyed.onboarding.Onboarding.{Onboarding}

-- ---- hashes

-- a hexadecimal digit in lower case
abbrev pub lower_digit : ℕ → ℕ
lower_digit n = if nat_lt n 10 then 48 + n else 87 + n

abbrev pub pair_text : ℕ → List ℕ
pair_text byte = lower_digit (byte / 16) ∷ lower_digit (byte % 16) ∷ []

-- pairs, with a colon before each but the first
abbrev pub colon_text : List ℕ → List ℕ
colon_text bytes = pair_text (slice_index bytes 0) ++ flat_map (λ byte. 58 ∷ pair_text byte) (drop 1 bytes)

-- a list with one entry, of SHA-256
abbrev pub hash_members : List ℕ → List (Name × Option Data)
hash_members hash =
    (name.HashAlgorithm, Some (string (codes "ietf-sztp-conveyed-info:sha-256")))
    ∷ (name.HashValue, Some (string (colon_text hash)))
    ∷ []

abbrev pub verification_value : List ℕ → Data
verification_value hash = array (item (object (members_of (hash_members hash))) no_items)

-- ---- onboarding information

abbrev pub texts_value : List (List ℕ) → Data
texts_value texts = array (items_of (map string texts))

abbrev pub uris_value : List (List ℕ) → Option Data
uris_value [] = None
uris_value (uri ∷ uris) = Some (texts_value (uri ∷ uris))

abbrev pub image_members : BootImage → List (Name × Option Data)
image_members image =
    (name.OsName, option_map string image.os_name)
    ∷ (name.OsVersion, option_map string image.os_version)
    ∷ (name.DownloadUri, uris_value image.uris)
    ∷ (name.ImageVerification, option_map verification_value image.hash)
    ∷ []

abbrev pub image_value : BootImage → Data
image_value image = object (members_of (image_members image))

abbrev pub information_members : Onboarding → List (Name × Option Data)
information_members onboarding =
    (name.BootImage, option_map image_value onboarding.image)
    ∷ (name.ConfigurationHandling, Some (string (handling_text onboarding.handling)))
    ∷ (name.PreConfigurationScript, option_map binary_value onboarding.pre)
    ∷ (name.Configuration, option_map binary_value onboarding.configuration)
    ∷ (name.PostConfigurationScript, option_map binary_value onboarding.post)
    ∷ []

abbrev pub information_value : Onboarding → Data
information_value onboarding = object (members_of (information_members onboarding))

abbrev pub onboarding_members : Onboarding → List (Name × Option Data)
onboarding_members onboarding = (name.OnboardingInformation, Some (information_value onboarding)) ∷ []

abbrev pub onboarding_value : Onboarding → Data
onboarding_value onboarding = object (members_of (onboarding_members onboarding))

-- the texts of an image are UTF-8
pub record AreTexts (image : BootImage) : Type 0 where
  pub os_name : IfSome image.os_name IsUtf8
  pub os_version : IfSome image.os_version IsUtf8
  pub uris : All IsUtf8 image.uris

-- the texts of the information are UTF-8
abbrev pub HasTexts : Onboarding → Type 0
HasTexts onboarding = IfSome onboarding.image AreTexts

-- the information can be written
abbrev pub IsWritable : Conveyed → Type 0
IsWritable (Redirect targets) = ⊤
IsWritable (Information onboarding) = HasTexts onboarding

-- ---- redirect information

abbrev pub server_members : Target → List (Name × Option Data)
server_members target =
    (name.Address, Some (string target.host)) ∷ (name.Port, Some (number (unsigned target.port))) ∷ []

abbrev pub server_value : Target → Data
server_value target = object (members_of (server_members target))

abbrev pub servers_members : List Target → List (Name × Option Data)
servers_members targets = (name.BootstrapServer, Some (array (items_of (map server_value targets)))) ∷ []

abbrev pub redirect_members : List Target → List (Name × Option Data)
redirect_members targets = (name.RedirectInformation, Some (object (members_of (servers_members targets)))) ∷ []

abbrev pub redirect_value : List Target → Data
redirect_value targets = object (members_of (redirect_members targets))

-- what was read of some value reads back from its text, where that is bounded: a list may be too long
abbrev pub ReadsBack : Conveyed → List ℕ → Type 0
ReadsBack conveyed bytes = (value : Data) → IsConveyed value conveyed → IsBounded bytes → ConveyedOf bytes conveyed
