-- What is written of onboarding information that was read, reads as it.
use Rattle.std.proofs.Common.{◌≡◌, ℕ, suc, ◌+◌, ◌*◌, ◌/◌, ◌%◌, ◌<◌, Bool, true, false, if◌then◌else◌, List, [], ◌∷◌, ◌++◌, map, length, Option, Some, None, option_and_then, option_map, unwrap_or, nat_le, MatchBool, Ok, refl, sym, ap, subst, ◌∙◌, inl, inr, arith}
use Rattle.std.proofs.lemmas.Bool.{cases_lt}
use Rattle.std.proofs.lemmas.Bool.Decides.{nat_tests}
use Rattle.std.proofs.lemmas.List.{get_or_past}
use Rattle.std.specs.List.{flat_map}
use Rattle.std.specs.Prelude.{slice_index}
use Rattle.base64.specs.GeneralPurpose.{IsBytes}
use Rattle.hex.specs.Hex.{hex_digit_value}
use Rattle.serde_json.specs.Data.{Data, Items, no_items, item, array, object, string}
use Rattle.serde_json.specs.View.{items_of}
use Rattle.sz_base.specs.Encoding.{base64_text, IsColonHex}
use Rattle.sz_json.proofs.Base64.{base64_of-again}
use Rattle.sz_json.proofs.Objects.{optional-members_of, or_before-None, required-members_of}
use Rattle.sz_json.proofs.Readings.{form_from_optional, form_from_required}
use Rattle.sz_json.specs.Member.{optional}
use Rattle.sz_json.specs.Form.{base64_of, binary_of, list_of, object_of, text_of}
use Rattle.sz_json.specs.Object.{binary_value, members_of}
use Rattle.sz_json.specs.declared.name.Name.{Name}
use Rattle.sz_json.specs.declared.name.Name.TheVariants as name
use Rattle.sz_artifacts.proofs.Pairs.{IsColonHex-hash_of_text}
use Rattle.sz_artifacts.specs.Conveyed.{has_onboarding, IsConveyed}
use Rattle.sz_artifacts.specs.Hash.{hash_of, hash_of_text, is_sha256, pair_of, pairs_of}
use Rattle.sz_artifacts.specs.Image.{if_short, IsBootImage, IsHash, NamesHash, NamesHashWhere, short_text_of, texts_in, texts_of}
use Rattle.sz_artifacts.specs.Onboarding.{handling_of, handling_of_text, handling_text, IsImageWhere, IsInformation, IsOnboarding}
use Rattle.sz_artifacts.specs.WrittenInformation.{colon_text, hash_members, image_members, image_value, information_members, information_value, lower_digit, onboarding_members, onboarding_value, pair_text, uris_value, texts_value, verification_value}
use Rattle.sz_artifacts.specs.declared.conveyed.Conveyed.TheVariants.{Onboarding as Information}
use Rattle.sz_artifacts.specs.declared.conveyed.onboarding.BootImage.{BootImage}
use Rattle.sz_artifacts.specs.declared.conveyed.onboarding.Handling.{Handling}
use Rattle.sz_artifacts.specs.declared.conveyed.onboarding.Handling.TheVariants.{Merge, Replace}
use Rattle.sz_artifacts.specs.declared.conveyed.onboarding.Onboarding.{Onboarding}

-- ---- texts and bytes

short_if : (test : Bool) (text short : List ℕ) → (if test then Some text else None) ≡ Some short → (test ≡ true) × (text ≡ short)
short_if true text short h = (refl, cc)
short_if false text short h = cc

short_at : (text : Option (List ℕ)) (short : List ℕ) → option_and_then if_short text ≡ Some short → if_short short ≡ Some short
short_at None short h = cc
short_at (Some text) short h = let parts = short_if (nat_le (length text) 256) text short h in subst (λ x. if_short x ≡ Some x) parts.1 (rw parts.0)

texts_back : (texts : List (List ℕ)) → texts_in (items_of (map string texts)) ≡ Some texts
texts_back [] = refl
texts_back (text ∷ texts) = rw (texts_back texts)

-- ---- hashes

digit_back : (n : ℕ) → n < 16 → hex_digit_value (lower_digit n) ≡ Some n
digit_back n h = grind (arith, nat_tests)

pair_back : (byte : ℕ) → byte < 256 → pair_of (lower_digit (byte / 16)) (lower_digit (byte % 16)) ≡ Some byte
pair_back byte h =
    let high : byte / 16 < 16 = omega arith in
    let low : byte % 16 < 16 = omega arith in
    let sum : 16 * (byte / 16) + byte % 16 ≡ byte = omega arith in
    rw (digit_back (byte / 16) high, digit_back (byte % 16) low) (ap Some sum)

pairs_back : (byte : ℕ) (bytes : List ℕ) → IsBytes (byte ∷ bytes)
    → pairs_of (pair_text byte ++ flat_map (λ next. 58 ∷ pair_text next) bytes) ≡ Some (byte ∷ bytes)
unfolding pairs_of
pairs_back byte [] h = rw (pair_back byte (h 0))
pairs_back byte (next ∷ bytes) h = rw (pair_back byte (h 0), pairs_back next bytes (λ i. h (suc i)))

joined_length : (bytes : List ℕ) → length (flat_map (λ next. 58 ∷ pair_text next) bytes) ≡ 3 * length bytes
joined_length [] = refl
joined_length (byte ∷ bytes) = omega (arith, joined_length bytes)

hash_back : (hash : List ℕ) → length hash ≡ 32 → IsBytes hash → hash_of_text (colon_text hash) ≡ Some hash
unfolding hash_of_text
hash_back [] size h = absurd (omega arith)
hash_back (byte ∷ bytes) size h =
    let long : length (pair_text byte ++ flat_map (λ next. 58 ∷ pair_text next) bytes) ≡ 95 = omega (arith, joined_length bytes) in
    rw long (pairs_back byte bytes h)

digit_below : (digit value : ℕ) → hex_digit_value digit ≡ Some value → value < 16
digit_below digit value h = grind (arith, nat_tests)

hash_bytes : (text bytes : List ℕ) → IsColonHex text bytes → IsBytes bytes
hash_bytes text bytes h i = elim (cases_lt i 32) [
  | inl below ↦
      let pair = h.pairs i below in
      let high = digit_below (slice_index text (3 * i)) pair.high_value pair.high_digit in
      let low = digit_below (slice_index text (3 * i + 1)) pair.low_value pair.low_digit in
      omega (arith, pair.value, high, low)
  | inr past ↦ let none : slice_index bytes i ≡ 0 = get_or_past bytes i 0 (omega (arith, h.count)) in omega (arith, none)
]

hash_at : (text : Option (List ℕ)) (hash : List ℕ) → option_and_then hash_of_text text ≡ Some hash → hash_of_text (colon_text hash) ≡ Some hash
hash_at None hash h = cc
hash_at (Some text) hash h = let is = IsColonHex-hash_of_text text hash h in hash_back hash is.count (hash_bytes text hash is)

named_at : (named : Bool) (entry : Data) (hash : Option (List ℕ)) (Later : Type 0) (bytes : List ℕ) → hash ≡ Some bytes
    → (Later → hash_of_text (colon_text bytes) ≡ Some bytes) → MatchBool named (IsHash entry hash) Later → hash_of_text (colon_text bytes) ≡ Some bytes
named_at true entry hash Later bytes e rest h =
    let same : h.bytes ≡ bytes = cc in
    let read = form_from_required hash_of name.HashValue entry h.bytes h.value in
    subst (λ x. hash_of_text (colon_text x) ≡ Some x) same (hash_at (text_of read.0) h.bytes read.1)
named_at false entry hash Later bytes e rest h = rest h

named_back : (entries : Items) (hash : Option (List ℕ)) (bytes : List ℕ) → hash ≡ Some bytes → NamesHash entries hash
    → hash_of_text (colon_text bytes) ≡ Some bytes
named_back no_items hash bytes e h = cc
named_back (item entry entries) hash bytes e h =
    named_at (is_sha256 h.0) entry hash (NamesHash entries hash) bytes e (named_back entries hash bytes e) h.2

named_where : (entries : Option Items) (hash : Option (List ℕ)) (bytes : List ℕ) → hash ≡ Some bytes → NamesHashWhere entries hash
    → hash_of_text (colon_text bytes) ≡ Some bytes
named_where None hash bytes e h = cc
named_where (Some entries) hash bytes e h = named_back entries hash bytes e h

-- ---- the image

record Verified (image : BootImage) : Type 0 where
  verification : Option Items
  there : optional list_of name.ImageVerification (image_value image) ≡ Ok verification
  hash : NamesHashWhere verification image.hash

entries_of : List ℕ → Items
entries_of hash = item (object (members_of (hash_members hash))) no_items

verified : (image : BootImage) (hash : Option (List ℕ)) → image.hash ≡ hash
    → ((bytes : List ℕ) → hash ≡ Some bytes → hash_of_text (colon_text bytes) ≡ Some bytes) → Verified image
unfolding entries_of
verified image None e back = record {
  verification = None;
  there =
      optional-members_of list_of name.ImageVerification (image_members image) None array (or_before-None _ ∙ ap (option_map verification_value) e)
      (λ items h. cc);
  hash = e;
}
verified image (Some bytes) e back = record {
  verification = Some (entries_of bytes);
  there =
      optional-members_of list_of name.ImageVerification (image_members image) (Some (entries_of bytes)) array
      (or_before-None _ ∙ ap (option_map verification_value) e) (λ items h. refl);
  hash = (
    _,
    required-members_of text_of name.HashAlgorithm (hash_members bytes) _ refl,
    record { bytes = bytes; named = e; value = required-members_of hash_of name.HashValue (hash_members bytes) bytes (back bytes refl) },
  );
}

record Located (image : BootImage) : Type 0 where
  uris : Option (List (List ℕ))
  there : optional texts_of name.DownloadUri (image_value image) ≡ Ok uris
  or_none : image.uris ≡ unwrap_or uris []

located : (image : BootImage) (uris : List (List ℕ)) → image.uris ≡ uris → Located image
located image [] e = record {
  uris = None;
  there = optional-members_of texts_of name.DownloadUri (image_members image) None texts_value (or_before-None _ ∙ ap uris_value e) (λ texts h. cc);
  or_none = e;
}
located image (uri ∷ uris) e = record {
  uris = Some (uri ∷ uris);
  there =
      optional-members_of texts_of name.DownloadUri (image_members image) (Some (uri ∷ uris)) texts_value (or_before-None _ ∙ ap uris_value e)
      (λ texts h. texts_back texts);
  or_none = e;
}

image_back : (value : Data) (image : BootImage) → IsBootImage value image → IsBootImage (image_value image) image
image_back value image h =
    let places = located image image.uris refl in
    let checked = verified image image.hash refl (λ bytes e. named_where h.verification image.hash bytes e h.hash) in
    record {
      uris = places.uris;
      verification = checked.verification;
      os_name = optional-members_of short_text_of name.OsName (image_members image) image.os_name string (or_before-None _)
          (λ text e. let read = form_from_optional short_text_of name.OsName value text (h.os_name ∙ ap Ok e) in short_at (text_of read.0) text read.1);
      os_version = optional-members_of short_text_of name.OsVersion (image_members image) image.os_version string (or_before-None _)
          (λ text e. let read = form_from_optional short_text_of name.OsVersion value text (h.os_version ∙ ap Ok e) in short_at (text_of read.0) text read.1);
      download_uri = places.there;
      or_none = places.or_none;
      image_verification = checked.there;
      hash = checked.hash;
    }

image_where_back : (value : Option Data) (image : Option BootImage) → IsImageWhere value image → IsImageWhere (option_map image_value image) image
image_where_back None None h = tt
image_where_back None (Some image) h = absurd h
image_where_back (Some value) None h = absurd h
image_where_back (Some value) (Some image) h = image_back value image h

-- ---- the information

handling_back : (handling : Handling) → handling_of_text (handling_text handling) ≡ Some handling
handling_back Merge = refl
handling_back Replace = refl

script_back : (name : Name) (information : Data) (script : Option (List ℕ)) → optional binary_of name information ≡ Ok script
    → (bytes : List ℕ) → script ≡ Some bytes → base64_of (base64_text bytes) ≡ Some bytes
script_back name information script h bytes e =
    let read = form_from_optional binary_of name information bytes (h ∙ ap Ok e) in
    base64_of-again (text_of read.0) bytes read.1

information_back : (information : Data) (onboarding : Onboarding) → IsInformation information onboarding
    → IsInformation (information_value onboarding) onboarding
information_back information onboarding h = record {
  image = option_map image_value onboarding.image;
  boot_image = optional-members_of object_of name.BootImage (information_members onboarding) (option_map image_value onboarding.image) (λ value. value)
      (or_before-None _ ∙ sym (map_same _)) (λ value e. object_at onboarding.image value e);
  of_image = image_where_back h.image onboarding.image h.of_image;
  named = Some onboarding.handling;
  handling = optional-members_of handling_of name.ConfigurationHandling (information_members onboarding) (Some onboarding.handling)
      (λ handling. string (handling_text handling)) refl (λ handling e. handling_back handling);
  or_default = refl;
  pre = optional-members_of binary_of name.PreConfigurationScript (information_members onboarding) onboarding.pre binary_value (or_before-None _)
      (script_back name.PreConfigurationScript information onboarding.pre h.pre);
  configuration = optional-members_of binary_of name.Configuration (information_members onboarding) onboarding.configuration binary_value (or_before-None _)
      (script_back name.Configuration information onboarding.configuration h.configuration);
  post = optional-members_of binary_of name.PostConfigurationScript (information_members onboarding) onboarding.post binary_value (or_before-None _)
      (script_back name.PostConfigurationScript information onboarding.post h.post);
}
  where
    map_same : (o : Option Data) → option_map (λ value. value) o ≡ o
    map_same None = refl
    map_same (Some value) = refl

    object_at : (image : Option BootImage) (value : Data) → option_map image_value image ≡ Some value → object_of value ≡ Some value
    object_at None value e = cc
    object_at (Some image) value e = let same : image_value image ≡ value = cc in subst (λ x. object_of x ≡ Some x) same refl

alone : (onboarding : Onboarding) → has_onboarding (onboarding_value onboarding) ≡ Some true
alone onboarding = refl

pub onboarding_reads_back : (value : Data) (onboarding : Onboarding) → IsOnboarding value onboarding
    → IsConveyed (onboarding_value onboarding) (Information onboarding)
onboarding_reads_back value onboarding h = (
  alone onboarding,
  record {
    information = information_value onboarding;
    top = required-members_of object_of name.OnboardingInformation (onboarding_members onboarding) _ refl;
    inside = information_back h.information onboarding h.inside;
  },
)
