-- The parts of certificates: what has no fault is spelled as its relation says, and what is spelled so has none.
use Rattle.std.specs.Prelude.{bytes_eq}
use Rattle.std.proofs.Common.{◌≡◌, ℕ, inl, inr, true, List, [], ◌∷◌, ◌++◌, drop, None, refl, sym, ap, ◌∙◌, ℤ}
use Rattle.sz_calendar.specs.CivilTime.{CivilTime, IsReal, unix_seconds}
use Rattle.sz_der.specs.Der.{AreOctets, Der}
use Rattle.sz_der.specs.Time.{NamesTime}
use Rattle.sz_der.specs.Integer.{is_integer}
use Rattle.sz_der.specs.Spots.{no_integer, after, content_at, inside, Spot, tag_at, whole_at}
use Rattle.sz_der.specs.Tags.{bit_string_tag, context_constructed, integer_tag, object_identifier_tag, sequence_tag}
use Rattle.sz_der.proofs.Joined.{alone, and_then, Der_with, last}
use Rattle.sz_der.proofs.Spots.{end_from_nothing, found, Found, found_part, holds_from_rule, inside-left, no_item-stands, no_part-stands, nothing_left, parts_of_none, rule_from_holds, Stands, stands}
use Rattle.sz_der.proofs.Octets.{bytes_same, same_bytes}
use Rattle.sz_der.proofs.IntegerTest.{integer_test, IsInteger_from_test}
use Rattle.sz_x509.specs.Certificate.{IsHssAlgorithm, IsKey, IsSerial, IsSignature, IsTime, IsValidity, IsVersion3}
use Rattle.sz_x509.specs.CertFault.{algorithm_fault, bits_of_key, holds_key, integer_fault, key_fault, octets_at, octets_fault, time_fault, validity_fault, version_fault}
use Rattle.sz_x509.specs.CertPlaces.{key_at, seconds_at}
use Rattle.sz_x509.specs.Contents.{is_time, is_whole_octets, time_in}
use Rattle.sz_x509.specs.declared.fault.CertKind.{CertKind}
use Rattle.sz_x509.specs.declared.fault.CertKind.TheVariants as kinds
use Rattle.sz_x509.specs.Identifiers.{hss_lms_oid}
use Rattle.sz_x509.proofs.Times.{NamesTime_from_test, time_test, time_value}
use Rattle.sz_x509.proofs.Values.{HoldsKey_from_test, key_test, key_value, whole_octets_from_test, whole_octets_test}

-- ---- AlgorithmIdentifier

pub IsAlgorithm_from_none : (spot : Spot) → AreOctets spot.left → algorithm_fault spot ≡ None → IsHssAlgorithm (whole_at spot) × Found spot sequence_tag
unfolding algorithm_fault
IsAlgorithm_from_none spot fits n =
    let a = parts_of_none _ _ n in
    let b = parts_of_none _ _ a.1 in
    let c = parts_of_none _ _ b.1 in
    let d = parts_of_none _ _ c.1 in
    let sequence = found_part _ _ sequence_tag spot fits a.0 in
    let identifier = found_part _ _ object_identifier_tag (inside spot) sequence.inside b.0 in
    let is = same_bytes (content_at (inside spot)) hss_lms_oid
    (holds_from_rule (bytes_eq (content_at (inside spot)) hss_lms_oid) kinds.Algorithm (inside spot) c.0) in
    let only = last (whole_at (inside spot)) identifier.joined (nothing_left _ _ (after (inside spot)) d.0) in (
      record {
        identifier = whole_at (inside spot);
        is_identifier = Der_with is identifier.is_item;
        is_sequence = Der_with (sym (inside-left spot) ∙ only) sequence.is_item;
      },
      sequence,
    )

pub algorithm_clear : (spot : Spot) (whole rest : List ℕ) → IsHssAlgorithm whole → spot.left ≡ whole ++ rest →
    (algorithm_fault spot ≡ None) × ((after spot).left ≡ rest)
unfolding algorithm_fault
algorithm_clear spot whole rest is joined =
    let sequence = stands spot sequence_tag is.identifier whole rest is.is_sequence joined in
    let identifier = stands (inside spot) object_identifier_tag hss_lms_oid is.identifier [] is.is_identifier (alone is.identifier sequence.inside_is) in (
      rw (
        no_part-stands kinds.Der kinds.Algorithm spot sequence_tag is.identifier whole rest sequence,
        no_part-stands kinds.Der kinds.Algorithm (inside spot) object_identifier_tag hss_lms_oid is.identifier [] identifier,
        rule_from_holds (bytes_eq (content_at (inside spot)) hss_lms_oid) kinds.Algorithm (inside spot)
            (bytes_same (content_at (inside spot)) hss_lms_oid identifier.content_is),
        end_from_nothing kinds.Der kinds.Algorithm (after (inside spot)) identifier.after_is,
      ) refl,
      sequence.after_is,
    )

-- ---- INTEGER, BIT STRING, Name and Time

pub IsSerial_from_none : (spot : Spot) → AreOctets spot.left → integer_fault spot ≡ None → IsSerial (content_at spot) (whole_at spot) × Found spot integer_tag
unfolding no_integer
IsSerial_from_none spot fits n =
    let a = parts_of_none _ _ n in
    let b = parts_of_none _ _ a.1 in
    let here = found_part _ _ integer_tag spot fits a.0 in (
      record {
        minimal = IsInteger_from_test (content_at spot) (holds_from_rule (is_integer (content_at spot)) kinds.Der spot b.0);
        is_item = here.is_item;
      },
      here,
    )

pub serial_clear : (spot : Spot) (serial whole rest : List ℕ) → IsSerial serial whole → spot.left ≡ whole ++ rest →
    (integer_fault spot ≡ None) × Stands spot integer_tag serial whole rest
unfolding no_integer
serial_clear spot serial whole rest is joined =
    let here = stands spot integer_tag serial whole rest is.is_item joined in
    let minimal : is_integer (content_at spot) ≡ true = rw here.content_is (integer_test serial is.minimal) in (
      rw (
        no_part-stands kinds.Der kinds.Der spot integer_tag serial whole rest here,
        rule_from_holds
            (is_integer (content_at spot)) kinds.Der spot minimal,
      ) refl,
      here,
    )

pub IsSignature_from_none : (other : CertKind) (spot : Spot) → AreOctets spot.left → octets_fault other spot ≡ None →
    IsSignature (octets_at spot) (whole_at spot) × Found spot bit_string_tag
unfolding octets_fault octets_at
IsSignature_from_none other spot fits n =
    let a = parts_of_none _ _ n in
    let b = parts_of_none _ _ a.1 in
    let here = found_part _ _ bit_string_tag spot fits a.0 in
    let is = whole_octets_from_test (content_at spot) (holds_from_rule (is_whole_octets (content_at spot)) kinds.Der spot b.0) in
    (Der_with is here.is_item, here)

pub signature_clear : (other : CertKind) (spot : Spot) (signature whole rest : List ℕ) → IsSignature signature whole → spot.left ≡ whole ++ rest →
    (octets_fault other spot ≡ None) × (octets_at spot ≡ signature) × Stands spot bit_string_tag (0 ∷ signature) whole rest
unfolding octets_fault octets_at
signature_clear other spot signature whole rest is joined =
    let here = stands spot bit_string_tag (0 ∷ signature) whole rest is joined in
    let test = whole_octets_test signature (content_at spot) here.content_is in (
      rw (
        no_part-stands kinds.Der other spot bit_string_tag (0 ∷ signature) whole rest here,
        rule_from_holds (is_whole_octets (content_at spot)) kinds.Der spot test,
      ) refl,
      ap (λ (x : List ℕ). drop 1 x) here.content_is,
      here,
    )

real_time : (tag : ℕ) (text : List ℕ) (time : CivilTime) → NamesTime tag text time → IsReal time
real_time tag text time (inl utc) = utc.1.real
real_time tag text time (inr generalized) = generalized.1.real

pub IsTime_from_none : (spot : Spot) → AreOctets spot.left → time_fault spot ≡ None → IsTime (seconds_at spot) (whole_at spot) × Found spot (tag_at spot)
unfolding time_fault seconds_at
IsTime_from_none spot fits n =
    let a = parts_of_none _ _ n in
    let b = parts_of_none _ _ a.1 in
    let here = found kinds.Der spot fits a.0 in
    let names = NamesTime_from_test (tag_at spot) (content_at spot)
    (holds_from_rule (is_time (tag_at spot) (content_at spot)) kinds.Time spot b.0) in (
      record {
        tag = tag_at spot;
        text = content_at spot;
        time = time_in (tag_at spot) (content_at spot);
        is_item = here.is_item;
        names_time = names;
        is_at = record { real = real_time (tag_at spot) (content_at spot) (time_in (tag_at spot) (content_at spot)) names; at = refl };
      },
      here,
    )

pub time_clear : (spot : Spot) (seconds : ℤ) (whole rest : List ℕ) → IsTime seconds whole → spot.left ≡ whole ++ rest →
    (time_fault spot ≡ None) × (seconds_at spot ≡ seconds) × ((after spot).left ≡ rest)
unfolding time_fault seconds_at
time_clear spot seconds whole rest is joined =
    let here = stands spot is.tag is.text whole rest is.is_item joined in
    let test : is_time (tag_at spot) (content_at spot) ≡ true = rw (here.tag_is, here.content_is) (time_test is.tag is.text is.time is.names_time) in (
      rw (no_item-stands kinds.Der here, rule_from_holds (is_time (tag_at spot) (content_at spot)) kinds.Time spot test) refl,
      rw (here.tag_is, here.content_is) (ap unix_seconds (time_value is.tag is.text is.time is.names_time) ∙ is.is_at.at),
      here.after_is,
    )

-- ---- Version and Validity

pub IsVersion3_from_none : (spot : Spot) → AreOctets spot.left → version_fault spot ≡ None → IsVersion3 (whole_at spot) × Found spot context_constructed
unfolding version_fault
IsVersion3_from_none spot fits n =
    let a = parts_of_none _ _ n in
    let b = parts_of_none _ _ a.1 in
    let c = parts_of_none _ _ b.1 in
    let d = parts_of_none _ _ c.1 in
    let e = parts_of_none _ _ d.1 in
    let field = found_part _ _ context_constructed spot fits a.0 in
    let integer = found_part _ _ integer_tag (inside spot) field.inside b.0 in
    let is = same_bytes (content_at (inside spot)) (2 ∷ [])
    (holds_from_rule (bytes_eq (content_at (inside spot)) (2 ∷ [])) kinds.Version (inside spot) d.0) in
    let only = last (whole_at (inside spot)) integer.joined (nothing_left _ _ (after (inside spot)) e.0) in (
      record {
        integer = whole_at (inside spot);
        is_integer = Der_with is integer.is_item;
        is_explicit = Der_with (sym (inside-left spot) ∙ only) field.is_item;
      },
      field,
    )

pub version_clear : (spot : Spot) (whole rest : List ℕ) → IsVersion3 whole → spot.left ≡ whole ++ rest →
    (version_fault spot ≡ None) × ((after spot).left ≡ rest)
unfolding version_fault
version_clear spot whole rest is joined =
    let field = stands spot context_constructed is.integer whole rest is.is_explicit joined in
    let integer = stands (inside spot) integer_tag (2 ∷ []) is.integer [] is.is_integer (alone is.integer field.inside_is) in
    let minimal : is_integer (content_at (inside spot)) ≡ true = rw integer.content_is refl in (
      rw (
        no_part-stands kinds.Der kinds.Version spot context_constructed is.integer whole rest field,
        no_part-stands kinds.Der kinds.Version (inside spot) integer_tag (2 ∷ []) is.integer [] integer,
        rule_from_holds (is_integer (content_at (inside spot))) kinds.Der (inside spot) minimal,
        rule_from_holds (bytes_eq (content_at (inside spot)) (2 ∷ [])) kinds.Version (inside spot)
            (bytes_same (content_at (inside spot)) (2 ∷ []) integer.content_is),
        end_from_nothing kinds.Der kinds.Version (after (inside spot)) integer.after_is,
      ) refl,
      field.after_is,
    )

pub IsValidity_from_none : (spot : Spot) → AreOctets spot.left → validity_fault spot ≡ None →
    IsValidity (seconds_at (inside spot)) (seconds_at (after (inside spot))) (whole_at spot) × Found spot sequence_tag
unfolding validity_fault
IsValidity_from_none spot fits n =
    let a = parts_of_none _ _ n in
    let b = parts_of_none _ _ a.1 in
    let c = parts_of_none _ _ b.1 in
    let d = parts_of_none _ _ c.1 in
    let sequence = found_part _ _ sequence_tag spot fits a.0 in
    let first = IsTime_from_none (inside spot) sequence.inside b.0 in
    let second = IsTime_from_none (after (inside spot)) first.1.after c.0 in
    let only = last (whole_at (after (inside spot))) second.1.joined (nothing_left _ _ (after (after (inside spot))) d.0) in (
      record {
        first = whole_at (inside spot);
        last = whole_at (after (inside spot));
        is_first = first.0;
        is_last = second.0;
        is_sequence = Der_with (sym (inside-left spot) ∙ and_then (whole_at (inside spot)) first.1.joined only) sequence.is_item;
      },
      sequence,
    )

pub validity_clear : (spot : Spot) (not_before not_after : ℤ) (whole rest : List ℕ) → IsValidity not_before not_after whole →
    spot.left ≡ whole ++ rest → (validity_fault spot ≡ None) × (seconds_at (inside spot) ≡ not_before)
    × (seconds_at (after (inside spot)) ≡ not_after) × ((after spot).left ≡ rest)
unfolding validity_fault
validity_clear spot not_before not_after whole rest is joined =
    let sequence = stands spot sequence_tag (is.first ++ is.last) whole rest is.is_sequence joined in
    let first = time_clear (inside spot) not_before is.first is.last is.is_first sequence.inside_is in
    let second = time_clear (after (inside spot)) not_after is.last [] is.is_last (alone is.last first.2) in (
      rw (
        no_part-stands kinds.Der kinds.Der spot sequence_tag (is.first ++ is.last) whole rest sequence,
        first.0,
        second.0,
        end_from_nothing kinds.Der kinds.Der (after (after (inside spot))) second.2,
      ) refl,
      first.1,
      second.1,
      sequence.after_is,
    )

-- ---- SubjectPublicKeyInfo

pub IsKey_from_none : (spot : Spot) → AreOctets spot.left → key_fault spot ≡ None → IsKey (key_at spot) (whole_at spot) × Found spot sequence_tag
unfolding key_fault key_at
IsKey_from_none spot fits n =
    let a = parts_of_none _ _ n in
    let b = parts_of_none _ _ a.1 in
    let c = parts_of_none _ _ b.1 in
    let d = parts_of_none _ _ c.1 in
    let e = parts_of_none _ _ d.1 in
    let sequence = found_part _ _ sequence_tag spot fits a.0 in
    let algorithm = IsAlgorithm_from_none (inside spot) sequence.inside b.0 in
    let bits = IsSignature_from_none kinds.Key (bits_of_key spot) algorithm.1.after c.0 in
    let only = last (whole_at (bits_of_key spot)) bits.1.joined (nothing_left _ _ (after (bits_of_key spot)) e.0) in (
      record {
        algorithm = whole_at (inside spot);
        octets = octets_at (bits_of_key spot);
        bits = whole_at (bits_of_key spot);
        is_algorithm = algorithm.0;
        holds_key = HoldsKey_from_test (octets_at (bits_of_key spot))
            (holds_from_rule (holds_key (octets_at (bits_of_key spot))) kinds.Key (bits_of_key spot) d.0);
        is_bits = bits.0;
        is_sequence = Der_with (sym (inside-left spot) ∙ and_then (whole_at (inside spot)) algorithm.1.joined only) sequence.is_item;
      },
      sequence,
    )

pub key_clear : (spot : Spot) (key whole rest : List ℕ) → IsKey key whole → spot.left ≡ whole ++ rest →
    (key_fault spot ≡ None) × (key_at spot ≡ key) × ((after spot).left ≡ rest)
unfolding key_fault key_at
key_clear spot key whole rest is joined =
    let sequence = stands spot sequence_tag (is.algorithm ++ is.bits) whole rest is.is_sequence joined in
    let algorithm = algorithm_clear (inside spot) is.algorithm is.bits is.is_algorithm sequence.inside_is in
    let bits = signature_clear kinds.Key (bits_of_key spot) is.octets is.bits [] is.is_bits (alone is.bits algorithm.1) in
    let test : holds_key (octets_at (bits_of_key spot)) ≡ true = rw bits.1 (key_test key is.octets is.holds_key) in (
      rw (
        no_part-stands kinds.Der kinds.Key spot sequence_tag (is.algorithm ++ is.bits) whole rest sequence,
        algorithm.0,
        bits.0,
        rule_from_holds (holds_key (octets_at (bits_of_key spot))) kinds.Key (bits_of_key spot) test,
        end_from_nothing kinds.Der kinds.Key (after (bits_of_key spot)) bits.2.after_is,
      ) refl,
      rw bits.1 (key_value key is.octets is.holds_key),
      sequence.after_is,
    )
