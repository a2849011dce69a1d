-- What the value of one extension adds to what earlier ones restrict a certificate to.
use Rattle.std.specs.Prelude.{bytes_eq, option_map}
use Rattle.std.specs.List.{find, list_any}
use Rattle.std.proofs.Common.{◌≡◌, ℕ, inl, inr, Bool, true, false, List, [], ◌∷◌, ◌++◌, Option, Some, None, refl, sym, ap, ◌∙◌}
use Rattle.std.proofs.lemmas.Bool.{cases_Bool, or_parts}
use Rattle.sz_der.specs.Spots.{content_at, inside, Spot}
use Rattle.sz_der.proofs.Octets.{same_bytes}
use Rattle.sz_x509.specs.CertFault.{flag_at, identifier_at, path_length_spot, stands_among, value_spot}
use Rattle.sz_x509.specs.CertPlaces.{Adds, ca_at, has_identifier, key_id_at, path_len_at, path_length_at, RestrictedAt, UsageAt, value_among}
use Rattle.sz_x509.specs.Extensions.{Restrictions}
use Rattle.sz_x509.specs.Identifiers.{basic_constraints_oid, key_usage_oid, subject_key_identifier_oid}

-- ---- by the identifier

-- an identifier that is compared with a constant
pub compared : (identifier other given : List ℕ) → given ≡ other → bytes_eq identifier other ≡ bytes_eq identifier given
compared identifier other given same = rw same refl

module _ (identifier : List ℕ) (value : Spot) (old : Restrictions) where
  pub adds_basic_constraints : (ca : Bool) (path_len : Option ℕ) → bytes_eq identifier basic_constraints_oid ≡ true → ca ≡ flag_at (inside value) →
      path_len ≡ path_length_at (path_length_spot value) →
      Adds identifier value old (record { ca = ca; path_len = path_len; usage = old.usage; key_id = old.key_id })
  adds_basic_constraints ca path_len basic cas paths =
      let is = same_bytes identifier basic_constraints_oid basic in
      record { ca = rw is cas; path_len = rw is paths; usage = rw is refl; key_id = rw is refl }

  pub adds_key_usage : (usage : Option ℕ) → bytes_eq identifier key_usage_oid ≡ true → UsageAt (Some value) usage →
      Adds identifier value old (record { ca = old.ca; path_len = old.path_len; usage = usage; key_id = old.key_id })
  adds_key_usage usage test at =
      let is = same_bytes identifier key_usage_oid test in
      record { ca = rw is refl; path_len = rw is refl; usage = rw is at; key_id = rw is refl }

  pub adds_key_identifier : (key_id : Option (List ℕ)) → bytes_eq identifier subject_key_identifier_oid ≡ true → key_id ≡ Some (content_at value) →
      Adds identifier value old (record { ca = old.ca; path_len = old.path_len; usage = old.usage; key_id = key_id })
  adds_key_identifier key_id test at =
      let is = same_bytes identifier subject_key_identifier_oid test in
      record { ca = rw is refl; path_len = rw is refl; usage = rw is refl; key_id = rw is at }

  pub adds_nothing : bytes_eq identifier basic_constraints_oid ≡ false → bytes_eq identifier key_usage_oid ≡ false →
      bytes_eq identifier subject_key_identifier_oid ≡ false → Adds identifier value old old
  adds_nothing basic usage key_id =
      record { ca = rw basic refl; path_len = rw basic refl; usage = rw usage refl; key_id = rw key_id refl }

-- ---- one extension more

-- no extension with this identifier stands among these
none_among : (identifier : List ℕ) (spots : List Spot) → stands_among spots identifier ≡ false → find (has_identifier identifier) spots ≡ None
unfolding stands_among
none_among identifier [] e = refl
none_among identifier (spot ∷ spots) e =
    let parts = or_parts (bytes_eq (identifier_at spot) identifier) (list_any (λ there. bytes_eq (identifier_at there) identifier) spots) e in
    rw parts.0 (none_among identifier spots parts.1)

-- a last one with this identifier is the one that is found
found_last : (identifier : List ℕ) (spots : List Spot) (spot : Spot) → find (has_identifier identifier) spots ≡ None →
    has_identifier identifier spot ≡ true → find (has_identifier identifier) (spots ++ spot ∷ []) ≡ Some spot
found_last identifier [] spot none is = rw is refl
found_last identifier (first ∷ spots) spot none is =
    elim (cases_Bool (has_identifier identifier first)) [
      | inl here ↦ let e = rw here at none in absurd cc
      | inr other ↦ let rest = rw other at none in rw other (found_last identifier spots spot rest is)
    ]

-- and one with another identifier changes nothing
found_before : (identifier : List ℕ) (spots : List Spot) (spot : Spot) → has_identifier identifier spot ≡ false →
    find (has_identifier identifier) (spots ++ spot ∷ []) ≡ find (has_identifier identifier) spots
found_before identifier [] spot other = rw other refl
found_before identifier (first ∷ spots) spot other =
    elim (cases_Bool (has_identifier identifier first)) [
      | inl here ↦ rw here refl
      | inr differs ↦ rw differs (found_before identifier spots spot other)
    ]

value_last : (identifier : List ℕ) (spots : List Spot) (spot : Spot) → stands_among spots identifier ≡ false →
    bytes_eq (identifier_at spot) identifier ≡ true → value_among identifier (spots ++ spot ∷ []) ≡ Some (inside (value_spot spot))
unfolding value_among
value_last identifier spots spot new is =
    ap (λ (x : Option Spot). option_map (λ there. inside (value_spot there)) x)
    (found_last identifier spots spot (none_among identifier spots new) is)

value_before : (identifier : List ℕ) (spots : List Spot) (spot : Spot) → bytes_eq (identifier_at spot) identifier ≡ false →
    value_among identifier (spots ++ spot ∷ []) ≡ value_among identifier spots
unfolding value_among
value_before identifier spots spot other =
    ap (λ (x : Option Spot). option_map (λ there. inside (value_spot there)) x) (found_before identifier spots spot other)

new_as : (identifier other : List ℕ) (spots : List Spot) → stands_among spots identifier ≡ false → bytes_eq identifier other ≡ true →
    stands_among spots other ≡ false
new_as identifier other spots new is = rw (← same_bytes identifier other is) new

pub restricted_more : (spots : List Spot) (spot : Spot) (old new : Restrictions) → stands_among spots (identifier_at spot) ≡ false →
    RestrictedAt spots old → Adds (identifier_at spot) (inside (value_spot spot)) old new → RestrictedAt (spots ++ spot ∷ []) new
restricted_more spots spot old new first at adds = record {
  ca = elim (cases_Bool (bytes_eq (identifier_at spot) basic_constraints_oid)) [
    | inl is ↦
        let value = value_last basic_constraints_oid spots spot (new_as (identifier_at spot) basic_constraints_oid spots first is) is in
        (rw is at adds.ca) ∙ ap ca_at (sym value)
    | inr other ↦ (rw other at adds.ca) ∙ at.ca ∙ ap ca_at (sym (value_before basic_constraints_oid spots spot other))
  ];
  path_len = elim (cases_Bool (bytes_eq (identifier_at spot) basic_constraints_oid)) [
    | inl is ↦
        let value = value_last basic_constraints_oid spots spot (new_as (identifier_at spot) basic_constraints_oid spots first is) is in
        (rw is at adds.path_len) ∙ ap path_len_at (sym value)
    | inr other ↦ (rw other at adds.path_len) ∙ at.path_len ∙ ap path_len_at (sym (value_before basic_constraints_oid spots spot other))
  ];
  usage = elim (cases_Bool (bytes_eq (identifier_at spot) key_usage_oid)) [
    | inl is ↦
        let value = value_last key_usage_oid spots spot (new_as (identifier_at spot) key_usage_oid spots first is) is in
        rw value (rw is at adds.usage)
    | inr other ↦
        let same = rw other at adds.usage in
        rw (value_before key_usage_oid spots spot other, same) at.usage
  ];
  key_id = elim (cases_Bool (bytes_eq (identifier_at spot) subject_key_identifier_oid)) [
    | inl is ↦
        let value = value_last subject_key_identifier_oid spots spot (new_as (identifier_at spot) subject_key_identifier_oid spots first is) is in
        (rw is at adds.key_id) ∙ ap key_id_at (sym value)
    | inr other ↦ (rw other at adds.key_id) ∙ at.key_id ∙ ap key_id_at (sym (value_before subject_key_identifier_oid spots spot other))
  ];
}

pub restricted_by_none : RestrictedAt [] (record { ca = false; path_len = None; usage = None; key_id = None })
unfolding value_among
restricted_by_none = record { ca = refl; path_len = refl; usage = refl; key_id = refl }
