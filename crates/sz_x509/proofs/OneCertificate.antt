-- Bytes without a fault are those of one certificate and no other, and what the reader answers of them.
use Rattle.std.specs.Prelude.{bytes_eq, IfErr, IfOk, IsOkAnd, nat_lt, OnOk}
use Rattle.std.specs.Int.{bit_at}
use Rattle.std.specs.List.{AllByRecursion}
use Rattle.std.proofs.Common.{◌≡◌, ℕ, zero, suc, inl, inr, not, ◌||◌, ◌+◌, ◌*◌, ◌/◌, ◌%◌, ◌^◌, ◌<◌, List, [], ◌∷◌, ◌++◌, length, drop, Option, Some, None, Result, Ok, Err, refl, sym, ap, ◌∙◌, arith}
use Rattle.std.proofs.Math.Nat.{pow-suc}
use Rattle.std.proofs.lemmas.Bool.{cases_Bool}
use Rattle.std.proofs.lemmas.Nat.Bits.{bit_at-lt, bit_at-suc, bit_at_lowest}
use Rattle.sz_der.specs.Content.{bit_of, HasNamedBits, HoldsBits}
use Rattle.sz_der.specs.Der.{AreOctets}
use Rattle.sz_der.specs.Spots.{after, after_optional, at, content_at, front, inside, is_next, rule, Spot, spots_from, whole_at}
use Rattle.sz_der.specs.Tags.{object_identifier_tag, octet_string_tag, sequence_tag}
use Rattle.sz_der.specs.declared.parts.PartFault.{PartFault}
use Rattle.sz_der.proofs.Spots.{all_none, parts_of_none}
use Rattle.sz_der.proofs.Octets.{same_bytes}
use Rattle.sz_x509.specs.Certificate.{Certificate, CertOf}
use Rattle.sz_x509.specs.CertFault.{algorithm_fault, cert_fault, each_fault, end, extension_fault, extensions_fault, extensions_spot, flag_at, flag_fault, flag_spot, identifier_at, integer_fault, issuer_id_spot, issuer_spot, key_fault, key_spot, key_usage_fault, octets_at, part, serial_spot, stands_among, subject_id_spot, subject_spot, tbs_parts_fault, unique_id_fault, validity_fault, validity_spot, value_fault, value_spot, version_fault}
use Rattle.sz_x509.specs.CertPlaces.{ca_at, extension_spots, FieldsAt, key_at, key_id_at, path_len_at, RestrictedAt, seconds_at, UsageAt, value_among}
use Rattle.sz_x509.specs.Extensions.{is_known, most_extensions, Restrictions}
use Rattle.sz_x509.specs.View.{view}
use Rattle.sz_x509.specs.declared.cert.Cert.{Cert}
use Rattle.sz_x509.specs.declared.fault.CertKind.TheVariants as kinds
use Rattle.sz_x509.specs.Identifiers.{basic_constraints_oid, key_usage_oid, subject_key_identifier_oid}
use Rattle.sz_x509.specs.Tags.{extensions_tag, issuer_unique_id_tag, subject_unique_id_tag}
use Rattle.sz_x509.specs.declared.fault.CertKind.{CertKind}
use Rattle.sz_x509.proofs.Chains.{bits_at}
use Rattle.sz_x509.proofs.Restricted.{usage_rule}
use Rattle.sz_x509.proofs.Whole.{cert_clear, CertOf_from_none, spots_next, spots_other}

-- ---- bits

-- numbers of so many bits, all of them alike, are the same
same_bits : (count a b : ℕ) → a < 2 ^ count → b < 2 ^ count → ((k : ℕ) → k < count → bit_at a k ≡ bit_at b k) → a ≡ b
same_bits zero a b below other_below alike = omega arith
same_bits (suc count) a b below other_below alike =
    let halves : a / 2 ≡ b / 2 = same_bits count (a / 2) (b / 2) (omega (arith, pow-suc 2 count)) (omega (arith, pow-suc 2 count))
    (λ k small. sym (bit_at-suc a k) ∙ alike (suc k) (omega arith) ∙ bit_at-suc b k) in
    let lowest : a % 2 ≡ b % 2 = sym (bit_at_lowest a) ∙ alike 0 (omega arith) ∙ bit_at_lowest b in
    omega arith

same_octets : (content : List ℕ) (a b : ℕ) (octets others : List ℕ) → content ≡ a ∷ octets → content ≡ b ∷ others → octets ≡ others
same_octets content a b octets others is other = ap (λ (x : List ℕ). drop 1 x) (sym is ∙ other)

same_usage : (content : List ℕ) (a b : ℕ) → a < 2 ^ 16 → b < 2 ^ 16 → HoldsBits content a → HoldsBits content b → a ≡ b
same_usage content a b below other_below holds other =
    let octets = same_octets content holds.0 other.0 holds.1 other.1 holds.2 other.2 in
    let bits : HasNamedBits other.1 a = rw octets at holds.4 in
    same_bits 16 a b below other_below (λ k small. bits k small ∙ sym (other.4 k small))

usage_same : (value : Option Spot) (a b : Option ℕ) → UsageAt value a → UsageAt value b → a ≡ b
usage_same None a b at other = at ∙ sym other
usage_same (Some value) a b at other =
    at.1 ∙ ap (λ (x : ℕ). Some x) (same_usage _ at.0 other.0 at.2 other.2 at.3 other.3) ∙ sym other.1

-- ---- fields

same_restrictions : (a b : Restrictions) → a.ca ≡ b.ca → a.path_len ≡ b.path_len → a.usage ≡ b.usage → a.key_id ≡ b.key_id → a ≡ b
same_restrictions a b ca path_len usage key_id =
    let is : a ≡ record { ca = b.ca; path_len = b.path_len; usage = b.usage; key_id = b.key_id } = rw (← ca, ← path_len, ← usage, ← key_id) refl in
    is

restrictions_same : (spots : List Spot) (a b : Restrictions) → RestrictedAt spots a → RestrictedAt spots b → a ≡ b
restrictions_same spots a b at other =
    same_restrictions a b (at.ca ∙ sym other.ca) (at.path_len ∙ sym other.path_len) (usage_same _ a.usage b.usage at.usage other.usage)
    (at.key_id ∙ sym other.key_id)

same_fields : (a b : Certificate) → a.whole ≡ b.whole → a.tbs ≡ b.tbs → a.serial ≡ b.serial → a.issuer ≡ b.issuer →
    a.not_before ≡ b.not_before → a.not_after ≡ b.not_after → a.subject ≡ b.subject → a.key ≡ b.key → a.restrictions ≡ b.restrictions →
    a.signature ≡ b.signature → a ≡ b
same_fields a b whole tbs serial issuer not_before not_after subject key restrictions signature =
    let is : a ≡ record {
      whole = b.whole;
      tbs = b.tbs;
      serial = b.serial;
      issuer = b.issuer;
      not_before = b.not_before;
      not_after = b.not_after;
      subject = b.subject;
      key = b.key;
      restrictions = b.restrictions;
      signature = b.signature;
    } = rw (← whole, ← tbs, ← serial, ← issuer, ← not_before, ← not_after, ← subject, ← key, ← restrictions, ← signature) refl in
    is

pub fields_same : (bytes : List ℕ) (a b : Certificate) → FieldsAt bytes a → FieldsAt bytes b → a ≡ b
fields_same bytes a b at other =
    same_fields a b (at.whole ∙ sym other.whole) (at.tbs ∙ sym other.tbs) (at.parts.serial ∙ sym other.parts.serial)
    (at.parts.issuer ∙ sym other.parts.issuer) (at.parts.not_before ∙ sym other.parts.not_before)
    (at.parts.not_after ∙ sym other.parts.not_after) (at.parts.subject ∙ sym other.parts.subject) (at.parts.key ∙ sym other.parts.key)
    (restrictions_same _ a.restrictions b.restrictions at.parts.restrictions other.parts.restrictions) (at.signature ∙ sym other.signature)

pub one_certificate : (bytes : List ℕ) (a b : Certificate) → CertOf bytes a → CertOf bytes b → a ≡ b
one_certificate bytes a b is other = fields_same bytes a b (cert_clear bytes a is).1 (cert_clear bytes b other).1

-- ---- what the reader answers

pub read_ok : (bytes : List ℕ) → AreOctets bytes → (answer : Result Cert (PartFault CertKind)) → OnOk answer (cert_fault bytes ≡ None) →
    IfOk answer (λ cert. FieldsAt bytes (view cert)) → IfOk answer (λ cert. CertOf bytes (view cert))
read_ok bytes fits (Ok cert) none fields = CertOf_from_none bytes (view cert) fits none fields
read_ok bytes fits (Err fault) none fields = tt

pub read_only : (bytes : List ℕ) (fields : Certificate) → CertOf bytes fields → (answer : Result Cert (PartFault CertKind)) →
    IfOk answer (λ cert. FieldsAt bytes (view cert)) → IfErr answer (λ fault. cert_fault bytes ≡ Some (at fault)) →
    IsOkAnd answer (λ cert. view cert ≡ fields)
read_only bytes fields is (Ok cert) here fails = fields_same bytes (view cert) fields here (cert_clear bytes fields is).1
read_only bytes fields is (Err fault) here fails = let none = (cert_clear bytes fields is).0 in absurd (cc (sym none ∙ fails))

-- ---- bytes without a fault have fields

-- a number of so many bits, each given
number_with : (count : ℕ) (bit : ℕ → ℕ) → ((k : ℕ) → bit k < 2) →
    (n : ℕ) × (n < 2 ^ count) × ((k : ℕ) → k < count → bit_at n k ≡ bit k)
number_with zero bit small = (0, omega arith, λ k below. absurd (omega arith))
number_with (suc count) bit small =
    let rest = number_with count (λ k. bit (suc k)) (λ k. small (suc k)) in
    let first = small 0 in
    (rest.0 * 2 + bit 0, omega (arith, pow-suc 2 count, rest.1, first), bits_of_both count bit rest.0 first rest.2)
  where
    bits_of_both : (count : ℕ) (bit : ℕ → ℕ) (n : ℕ) → bit 0 < 2 → ((k : ℕ) → k < count → bit_at n k ≡ bit (suc k)) → (k : ℕ) → k < suc count →
        bit_at (n * 2 + bit 0) k ≡ bit k
    bits_of_both count bit n small bits zero below = bit_at_lowest (n * 2 + bit 0) ∙ omega arith
    bits_of_both count bit n small bits (suc k) below =
        let half : (n * 2 + bit 0) / 2 ≡ n = omega arith in
        bit_at-suc (n * 2 + bit 0) k ∙ ap (λ (m : ℕ). bit_at m k) half ∙ bits k (omega arith)

usage_of : (spot : Spot) → key_usage_fault spot ≡ None → (usage : Option ℕ) × UsageAt (Some spot) usage
usage_of spot none =
    let bits = bits_at spot none in
    let number = number_with 16 (λ k. bit_of bits.1 k) (λ k. bit_at-lt _ _) in
    (Some number.0, (number.0, refl, number.1, (bits.0, bits.1, bits.2, bits.3, number.2)))

-- the rule of each value holds
abbrev ValueHolds : Spot → Type 0
ValueHolds spot = value_fault (identifier_at spot) (inside (value_spot spot)) ≡ None

value_of_none : (earlier : List Spot) (spot : Spot) → extension_fault earlier spot ≡ None → ValueHolds spot
unfolding extension_fault
value_of_none earlier spot n =
    let rules = all_none (
    part kinds.Der sequence_tag spot
    ∷ rule (nat_lt (length earlier) most_extensions) kinds.Extension spot
    ∷ part kinds.Der object_identifier_tag (inside spot)
    ∷ rule (not (stands_among earlier (identifier_at spot))) kinds.Extension spot
    ∷ flag_fault (flag_spot spot)
    ∷ rule (not (flag_at (flag_spot spot)) || is_known (identifier_at spot)) kinds.Extension spot
    ∷ part kinds.Der octet_string_tag (value_spot spot)
    ∷ end kinds.Der (after (value_spot spot))
    ∷ value_fault (identifier_at spot) (inside (value_spot spot))
    ∷ []) n in
    rules.1.1.1.1.1.1.1.1.0

values_hold : (earlier later : List Spot) → each_fault earlier later ≡ None → AllByRecursion ValueHolds later
unfolding each_fault
values_hold earlier [] n = tt
values_hold earlier (spot ∷ later) n =
    let a = parts_of_none _ _ n in
    let b = parts_of_none _ _ a.1 in
    (value_of_none earlier spot a.0, values_hold (earlier ++ spot ∷ []) later b.0)

field_values_hold : (field : Spot) → extensions_fault field ≡ None → AllByRecursion ValueHolds (extension_spots field)
unfolding extensions_fault
field_values_hold field n =
    elim (cases_Bool (is_next extensions_tag field)) [
      | inl next ↦
          let a = parts_of_none _ _ (rw next at n) in
          let b = parts_of_none _ _ a.1 in
          let c = parts_of_none _ _ b.1 in
          rw (spots_next field next) (values_hold [] (spots_from (inside (inside field))) c.0)
      | inr other ↦ rw (spots_other field other) tt
    ]

some_usage : (spots : List Spot) → AllByRecursion ValueHolds spots → (usage : Option ℕ) × UsageAt (value_among key_usage_oid spots) usage
unfolding value_among
some_usage [] hold = (None, refl)
some_usage (spot ∷ spots) hold =
    elim (cases_Bool (bytes_eq (identifier_at spot) key_usage_oid)) [
      | inl is ↦
          let value = inside (value_spot spot) in
          let same = same_bytes (identifier_at spot) key_usage_oid is in
          rw is (usage_of value (sym (usage_rule (identifier_at spot) value same) ∙ hold.0))
      | inr other ↦ rw other (some_usage spots hold.1)
    ]

extensions_part : (first : Spot) → tbs_parts_fault first ≡ None → extensions_fault (extensions_spot first) ≡ None
unfolding tbs_parts_fault
extensions_part first n =
    let rules = all_none (
    version_fault first
    ∷ integer_fault (serial_spot first)
    ∷ algorithm_fault (after (serial_spot first))
    ∷ part kinds.Der sequence_tag (issuer_spot first)
    ∷ validity_fault (validity_spot first)
    ∷ part kinds.Der sequence_tag (subject_spot first)
    ∷ key_fault (key_spot first)
    ∷ unique_id_fault issuer_unique_id_tag (issuer_id_spot first)
    ∷ unique_id_fault subject_unique_id_tag (subject_id_spot first)
    ∷ extensions_fault (extensions_spot first)
    ∷ end kinds.Der (after_optional extensions_tag (extensions_spot first))
    ∷ []) n in
    rules.1.1.1.1.1.1.1.1.1.0

tbs_part : (bytes : List ℕ) → cert_fault bytes ≡ None → tbs_parts_fault (inside (inside (front bytes))) ≡ None
unfolding cert_fault
tbs_part bytes n =
    let a = parts_of_none _ _ n in
    let b = parts_of_none _ _ a.1 in
    (parts_of_none _ _ b.1).0

some_fields : (bytes : List ℕ) → cert_fault bytes ≡ None → (fields : Certificate) × FieldsAt bytes fields
some_fields bytes n =
    let first = inside (inside (front bytes)) in
    let spots = extension_spots (extensions_spot first) in
    let usage = some_usage spots (field_values_hold (extensions_spot first) (extensions_part first (tbs_part bytes n))) in (
      record {
        whole = bytes;
        tbs = whole_at (inside (front bytes));
        serial = content_at (serial_spot first);
        issuer = whole_at (issuer_spot first);
        not_before = seconds_at (inside (validity_spot first));
        not_after = seconds_at (after (inside (validity_spot first)));
        subject = whole_at (subject_spot first);
        key = key_at (key_spot first);
        restrictions = record {
          ca = ca_at (value_among basic_constraints_oid spots);
          path_len = path_len_at (value_among basic_constraints_oid spots);
          usage = usage.0;
          key_id = key_id_at (value_among subject_key_identifier_oid spots);
        };
        signature = octets_at (after (after (inside (front bytes))));
      },
      record {
        whole = refl;
        tbs = refl;
        parts = record {
          serial = refl;
          issuer = refl;
          not_before = refl;
          not_after = refl;
          subject = refl;
          key = refl;
          restrictions = record { ca = refl; path_len = refl; usage = usage.1; key_id = refl };
        };
        signature = refl;
      },
    )

pub certificate_from_none : (bytes : List ℕ) → AreOctets bytes → cert_fault bytes ≡ None → (fields : Certificate) × CertOf bytes fields
certificate_from_none bytes fits n =
    let some = some_fields bytes n in
    (some.0, CertOf_from_none bytes some.0 fits n some.1)
