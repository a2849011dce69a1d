-- The boot image that onboarding information names (RFC 8572 sections 2.2 and 6.3).
use Rattle.std.specs.Prelude.{◌≡◌, ℕ, if◌then◌else◌, List, [], ◌∷◌, length, nat_le, Option, Some, None, option_and_then, option_map, unwrap_or, Ok, MatchBool}
use Rattle.serde_json.specs.Data.{Data, Items, no_items, item}
use Rattle.sz_json.specs.Fault.{fault_of, first_inside, first_of}
use Rattle.sz_json.specs.Form.{list_of, text_of}
use Rattle.sz_json.specs.Member.{optional, required}
use Rattle.sz_json.specs.declared.name.Name.{Name}
use Rattle.sz_json.specs.declared.name.Name.TheVariants as name
use Rattle.sz_artifacts.specs.Hash.{hash_of, is_sha256}
use Rattle.sz_artifacts.specs.declared.conveyed.onboarding.BootImage.{BootImage}

-- a text of at most 256 bytes
abbrev pub if_short : List ℕ → Option (List ℕ)
if_short text = if nat_le (length text) 256 then Some text else None

abbrev pub short_text_of : Data → Option (List ℕ)
short_text_of value = option_and_then if_short (text_of value)

-- a list of texts
abbrev pub texts_in : Items → Option (List (List ℕ))
texts_in no_items = Some []
texts_in (item value values) =
    option_and_then (λ text. option_map (λ texts. text ∷ texts) (texts_in values)) (text_of value)

abbrev pub texts_of : Data → Option (List (List ℕ))
texts_of value = option_and_then texts_in (list_of value)

-- the entry has this hash
pub record IsHash (entry : Data) (hash : Option (List ℕ)) : Type 0 where
  pub bytes : List ℕ
  pub named : hash ≡ Some bytes
  pub value : required hash_of name.HashValue entry ≡ Ok bytes

-- The list names this hash, which is that of the first entry whose algorithm is SHA-256. Entries after it are not
-- looked at.
abbrev pub NamesHash : Items → Option (List ℕ) → Type 0
NamesHash no_items hash = hash ≡ None
NamesHash (item entry entries) hash =
    (algorithm : List ℕ) × (required text_of name.HashAlgorithm entry ≡ Ok algorithm)
    × MatchBool (is_sha256 algorithm) (IsHash entry hash) (NamesHash entries hash)

-- where there is a list, it names this hash
abbrev pub NamesHashWhere : Option Items → Option (List ℕ) → Type 0
NamesHashWhere None hash = hash ≡ None
NamesHashWhere (Some entries) hash = NamesHash entries hash

-- the value is that of a boot image
pub record IsBootImage (value : Data) (image : BootImage) : Type 0 where
  pub uris : Option (List (List ℕ))
  pub verification : Option Items
  pub os_name : optional short_text_of name.OsName value ≡ Ok image.os_name
  pub os_version : optional short_text_of name.OsVersion value ≡ Ok image.os_version
  pub download_uri : optional texts_of name.DownloadUri value ≡ Ok uris
  pub or_none : image.uris ≡ unwrap_or uris []
  pub image_verification : optional list_of name.ImageVerification value ≡ Ok verification
  pub hash : NamesHashWhere verification image.hash

-- ---- the first member at fault

abbrev pub hash_fault : Items → Option Name
hash_fault no_items = None
hash_fault (item entry entries) =
    first_inside (required text_of name.HashAlgorithm entry) (λ algorithm.
    if is_sha256 algorithm then fault_of (required hash_of name.HashValue entry) else hash_fault entries)

abbrev pub hash_fault_where : Option Items → Option Name
hash_fault_where None = None
hash_fault_where (Some entries) = hash_fault entries

abbrev pub image_fault : Data → Option Name
image_fault value = first_of (
    fault_of (optional short_text_of name.OsName value)
    ∷ fault_of (optional short_text_of name.OsVersion value)
    ∷ fault_of (optional texts_of name.DownloadUri value)
    ∷ first_inside (optional list_of name.ImageVerification value) hash_fault_where
    ∷ [])
