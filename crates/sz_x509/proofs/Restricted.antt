-- What extensions restrict a certificate to, by their list and by their places.
use Rattle.std.specs.Prelude.{bytes_eq}
use Rattle.std.specs.List.{AllByRecursion}
use Rattle.std.proofs.Common.{◌≡◌, ◌≢◌, ◌≤◌, ℕ, inl, inr, ◌⊎◌, Bool, List, [], ◌∷◌, length, Option, Some, None, refl, sym, ap, ◌∙◌}
use Rattle.std.proofs.lemmas.Bool.{cases_Bool, false_from_ne_true}
use Rattle.sz_der.specs.Spots.{content_at, inside, Spot}
use Rattle.sz_der.proofs.Spots.{inside-left}
use Rattle.sz_der.proofs.Octets.{bytes_same, same_bytes}
use Rattle.sz_x509.specs.CertFault.{basic_constraints_fault, identifier_at, key_identifier_fault, key_usage_fault, value_fault, value_spot}
use Rattle.sz_x509.specs.CertPlaces.{ca_at, key_id_at, path_len_at, RestrictedAt, UsageAt, value_among}
use Rattle.sz_x509.specs.Extensions.{AreDistinct, Extension, HasBasicConstraints, HasKeyIdentifier, HasKeyUsage, most_extensions, Restrict, Restrictions, value_of}
use Rattle.sz_x509.specs.Identifiers.{basic_constraints_oid, key_usage_oid, subject_key_identifier_oid}
use Rattle.sz_x509.proofs.Chains.{basic_constraints_clear, IsBasicConstraints_from_none, IsKeyIdentifier_from_none, IsKeyUsage_from_none, key_identifier_clear, key_usage_clear}
use Rattle.sz_x509.proofs.ExtensionLists.{are_understood, extensions_at, Keeps, ValueIsClear}

-- ---- the value of an extension, by its list and by its place

-- where the extension with the identifier is, its value is what is left inside
pub record ValuesMatch (identifier : List ℕ) (spots : List Spot) (spot : Spot) : Type 0 where
  pub among : value_among identifier spots ≡ Some (inside (value_spot spot))
  pub value : value_of identifier (extensions_at spots) ≡ Some (inside (value_spot spot)).left
  pub keeps : Keeps spot
  pub same : identifier_at spot ≡ identifier

pub match_values : (identifier : List ℕ) (spots : List Spot) → AllByRecursion Keeps spots →
    ((value_among identifier spots ≡ None) × (value_of identifier (extensions_at spots) ≡ None))
    ⊎ ((spot : Spot) × ValuesMatch identifier spots spot)
unfolding value_among
match_values identifier [] keep = inl (refl, refl)
match_values identifier (spot ∷ spots) keep =
    elim (cases_Bool (bytes_eq (identifier_at spot) identifier)) [
      | inl is ↦ inr (
        spot,
        record {
          among = rw is refl;
          value = rw is (ap (λ (x : List ℕ). Some x) (sym (inside-left (value_spot spot))));
          keeps = keep.0;
          same = same_bytes (identifier_at spot) identifier is;
        },
      )
      | inr other ↦ elim (match_values identifier spots keep.1) [
        | inl none ↦ inl (rw other none.0, rw other none.1)
        | inr found ↦ inr (
          found.0,
          record {
            among = rw other found.1.among;
            value = rw other found.1.value;
            keeps = found.1.keeps;
            same = found.1.same;
          },
        )
      ]
    ]

-- ---- the rule of a value, by its identifier

pub basic_rule : (identifier : List ℕ) (spot : Spot) → identifier ≡ basic_constraints_oid → value_fault identifier spot ≡ basic_constraints_fault spot
unfolding value_fault
basic_rule identifier spot is = rw is refl

pub usage_rule : (identifier : List ℕ) (spot : Spot) → identifier ≡ key_usage_oid → value_fault identifier spot ≡ key_usage_fault spot
unfolding value_fault
usage_rule identifier spot is = rw is refl

pub key_id_rule : (identifier : List ℕ) (spot : Spot) → identifier ≡ subject_key_identifier_oid → value_fault identifier spot ≡ key_identifier_fault spot
unfolding value_fault
key_id_rule identifier spot is = rw is refl

-- ---- from places to the list

basic_from_places : (spots : List Spot) (ca : Bool) (path_len : Option ℕ) → AllByRecursion Keeps spots →
    ca ≡ ca_at (value_among basic_constraints_oid spots) → path_len ≡ path_len_at (value_among basic_constraints_oid spots) →
    HasBasicConstraints (value_of basic_constraints_oid (extensions_at spots)) ca path_len
basic_from_places spots ca path_len keep cas paths =
    elim (match_values basic_constraints_oid spots keep) [
      | inl none ↦ rw none.1 (rw none.0 at cas, rw none.0 at paths)
      | inr found ↦
          let is = found.1 in
          let value = inside (value_spot found.0) in
          let clear = sym (basic_rule (identifier_at found.0) value is.same) ∙ is.keeps.value in
          let reads = IsBasicConstraints_from_none value is.keeps.octets clear in
          rw (is.value, rw is.among at cas, rw is.among at paths) reads
    ]

usage_from_places : (spots : List Spot) (usage : Option ℕ) → AllByRecursion Keeps spots → UsageAt (value_among key_usage_oid spots) usage →
    HasKeyUsage (value_of key_usage_oid (extensions_at spots)) usage
usage_from_places spots usage keep at =
    elim (match_values key_usage_oid spots keep) [
      | inl none ↦ rw none.1 (rw none.0 at at)
      | inr found ↦
          let is = found.1 in
          let value = inside (value_spot found.0) in
          let clear = sym (usage_rule (identifier_at found.0) value is.same) ∙ is.keeps.value in
          let read = rw is.among at at in
          rw is.value (read.0, read.1, IsKeyUsage_from_none value read.0 is.keeps.octets clear read.2 read.3)
    ]

key_id_from_places : (spots : List Spot) (key_id : Option (List ℕ)) → AllByRecursion Keeps spots →
    key_id ≡ key_id_at (value_among subject_key_identifier_oid spots) →
    HasKeyIdentifier (value_of subject_key_identifier_oid (extensions_at spots)) key_id
key_id_from_places spots key_id keep at =
    elim (match_values subject_key_identifier_oid spots keep) [
      | inl none ↦ rw none.1 (rw none.0 at at)
      | inr found ↦
          let is = found.1 in
          let value = inside (value_spot found.0) in
          let clear = sym (key_id_rule (identifier_at found.0) value is.same) ∙ is.keeps.value in
          rw is.value (content_at value, rw is.among at at, IsKeyIdentifier_from_none value is.keeps.octets clear)
    ]

pub restrict_from_places : (spots : List Spot) (restrictions : Restrictions) → AllByRecursion Keeps spots →
    length (extensions_at spots) ≤ most_extensions → AreDistinct (extensions_at spots) → RestrictedAt spots restrictions → Restrict
    (extensions_at spots) restrictions
restrict_from_places spots restrictions keep few distinct at = record {
  few = few;
  distinct = distinct;
  understood = are_understood spots keep;
  basic_constraints = basic_from_places spots restrictions.ca restrictions.path_len keep at.ca at.path_len;
  key_usage = usage_from_places spots restrictions.usage keep at.usage;
  key_identifier = key_id_from_places spots restrictions.key_id keep at.key_id;
}

-- ---- from the list to places

-- an extension of a list without doubles is the one that is found
abbrev IsFoundIn : List Extension → Extension → Type 0
IsFoundIn extensions extension = value_of extension.identifier extensions ≡ Some extension.value

found_behind : (first : Extension) (extensions all : List Extension) →
    AllByRecursion (λ other. other.identifier ≢ first.identifier) extensions → AllByRecursion (IsFoundIn all) extensions →
    AllByRecursion (IsFoundIn (first ∷ all)) extensions
found_behind first [] all others found = tt
found_behind first (extension ∷ extensions) all others found =
    let differs = false_from_ne_true (bytes_eq first.identifier extension.identifier)
    (λ e. others.0 (sym (same_bytes first.identifier extension.identifier e))) in
    (rw differs found.0, found_behind first extensions all others.1 found.1)

each_is_found : (extensions : List Extension) → AreDistinct extensions → AllByRecursion (IsFoundIn extensions) extensions
each_is_found [] distinct = tt
each_is_found (extension ∷ extensions) distinct =
    let here = bytes_same extension.identifier extension.identifier refl in
    (rw here refl, found_behind extension extensions extensions distinct.0 (each_is_found extensions distinct.1))

value_is_clear : (extension : Extension) (extensions : List Extension) (restrictions : Restrictions) → Restrict extensions restrictions →
    IsFoundIn extensions extension → ValueIsClear extension
unfolding value_fault
value_is_clear extension extensions restrictions is found spot left =
    elim (cases_Bool (bytes_eq extension.identifier basic_constraints_oid)) [
      | inl basic ↦
          let same = same_bytes extension.identifier basic_constraints_oid basic in
          let value : value_of basic_constraints_oid extensions ≡ Some extension.value = rw same at found in
          let reads = rw value at is.basic_constraints in
          rw basic (basic_constraints_clear spot restrictions.ca restrictions.path_len extension.value reads left).0
      | inr not_basic ↦ elim (cases_Bool (bytes_eq extension.identifier key_usage_oid)) [
        | inl usage ↦
            let same = same_bytes extension.identifier key_usage_oid usage in
            let value : value_of key_usage_oid extensions ≡ Some extension.value = rw same at found in
            let reads = rw value at is.key_usage in
            rw (not_basic, usage) (key_usage_clear spot reads.0 extension.value reads.2 left).0
        | inr not_usage ↦ elim (cases_Bool (bytes_eq extension.identifier subject_key_identifier_oid)) [
          | inl key_id ↦
              let same = same_bytes extension.identifier subject_key_identifier_oid key_id in
              let value : value_of subject_key_identifier_oid extensions ≡ Some extension.value = rw same at found in
              let reads = rw value at is.key_identifier in
              rw (not_basic, not_usage, key_id) (key_identifier_clear spot reads.0 extension.value reads.2 left).0
          | inr other ↦ rw (not_basic, not_usage, other) refl
        ]
      ]
    ]

values_are_clear : (some all : List Extension) (restrictions : Restrictions) → Restrict all restrictions → AllByRecursion (IsFoundIn all) some →
    AllByRecursion ValueIsClear some
values_are_clear [] all restrictions is found = tt
values_are_clear (extension ∷ some) all restrictions is found =
    (value_is_clear extension all restrictions is found.0, values_are_clear some all restrictions is found.1)

pub each_value_is_clear : (extensions : List Extension) (restrictions : Restrictions) → Restrict extensions restrictions →
    AllByRecursion ValueIsClear extensions
each_value_is_clear extensions restrictions is =
    values_are_clear extensions extensions restrictions is (each_is_found extensions is.distinct)

-- the values of extensions by place, where their list is known
lookup : (identifier : List ℕ) (spots : List Spot) →
    ((value_among identifier spots ≡ None) × (value_of identifier (extensions_at spots) ≡ None))
    ⊎ ((value : Spot) × (value_among identifier spots ≡ Some value) × (value_of identifier (extensions_at spots) ≡ Some value.left))
unfolding value_among
lookup identifier [] = inl (refl, refl)
lookup identifier (spot ∷ spots) =
    elim (cases_Bool (bytes_eq (identifier_at spot) identifier)) [
      | inl is ↦ inr (inside (value_spot spot), rw is refl, rw is (ap (λ (x : List ℕ). Some x) (sym (inside-left (value_spot spot)))))
      | inr other ↦ rw other (lookup identifier spots)
    ]

basic_at_places : (spots : List Spot) (ca : Bool) (path_len : Option ℕ) → HasBasicConstraints
    (value_of basic_constraints_oid (extensions_at spots)) ca path_len →
    (ca ≡ ca_at (value_among basic_constraints_oid spots)) × (path_len ≡ path_len_at (value_among basic_constraints_oid spots))
basic_at_places spots ca path_len has =
    elim (lookup basic_constraints_oid spots) [
      | inl none ↦ let is = rw none.1 at has in rw none.0 is
      | inr found ↦
          let reads = basic_constraints_clear found.0 ca path_len found.0.left (rw found.2 at has) refl in
          rw found.1 (sym reads.1, sym reads.2)
    ]

usage_at_places : (spots : List Spot) (usage : Option ℕ) → HasKeyUsage (value_of key_usage_oid (extensions_at spots)) usage →
    UsageAt (value_among key_usage_oid spots) usage
usage_at_places spots usage has =
    elim (lookup key_usage_oid spots) [
      | inl none ↦ rw none.0 (rw none.1 at has)
      | inr found ↦
          let is = rw found.2 at has in
          let reads = key_usage_clear found.0 is.0 found.0.left is.2 refl in
          rw found.1 (is.0, is.1, is.2.of_16_bits, reads.1)
    ]

key_id_at_places : (spots : List Spot) (key_id : Option (List ℕ)) → HasKeyIdentifier (value_of subject_key_identifier_oid (extensions_at spots)) key_id →
    key_id ≡ key_id_at (value_among subject_key_identifier_oid spots)
key_id_at_places spots key_id has =
    elim (lookup subject_key_identifier_oid spots) [
      | inl none ↦ rw none.0 (rw none.1 at has)
      | inr found ↦
          let is = rw found.2 at has in
          let reads = key_identifier_clear found.0 is.0 found.0.left is.2 refl in
          rw found.1 (is.1 ∙ ap (λ (x : List ℕ). Some x) (sym reads.1))
    ]

pub places_from_restrict : (spots : List Spot) (restrictions : Restrictions) → Restrict (extensions_at spots) restrictions → RestrictedAt spots restrictions
places_from_restrict spots restrictions is =
    let basic = basic_at_places spots restrictions.ca restrictions.path_len is.basic_constraints in
    record {
      ca = basic.0;
      path_len = basic.1;
      usage = usage_at_places spots restrictions.usage is.key_usage;
      key_id = key_id_at_places spots restrictions.key_id is.key_identifier;
    }
