-- Parts that need not be there, and extensions one after another: what has no fault is spelled as its relation says,
-- and what is spelled so has none.
use Rattle.std.proofs.Common.{◌≡◌, ℕ, inl, inr, ◌<◌, ◌^◌, Bool, true, false, List, [], ◌∷◌, ◌++◌, Option, Some, None, refl, sym, ap, subst, ◌∙◌, arith}
use Rattle.std.proofs.lemmas.Bool.{and_left, cases_Bool}
use Rattle.sz_der.specs.Content.{HoldsBits, IsBits}
use Rattle.sz_der.specs.Der.{AreOctets, Der, number_of}
use Rattle.sz_der.specs.Integer.{is_integer}
use Rattle.sz_der.specs.Spots.{after, after_optional, content_at, inside, is_next, Spot, whole_at}
use Rattle.sz_der.specs.Tags.{bit_string_tag, boolean_tag, integer_tag, octet_string_tag, sequence_tag}
use Rattle.sz_der.proofs.Optional.{absent, after_next, after_other, BeginsWithout, found_next, next_stands, Optional, present, without_item, without_nothing}
use Rattle.sz_der.proofs.Spots.{end_from_nothing, found_part, holds_from_rule, inside-left, no_item-stands, no_part-stands, nothing_left, parts_of_none, rule_from_holds, stands}
use Rattle.sz_der.proofs.Joined.{alone, and_then, Der_with, last}
use Rattle.sz_der.proofs.IntegerTest.{integer_test}
use Rattle.sz_x509.specs.Certificate.{IsUniqueId}
use Rattle.sz_x509.specs.CertFault.{basic_constraints_fault, flag_at, flag_fault, key_identifier_fault, key_usage_fault, path_length_fault, path_length_spot, unique_id_fault}
use Rattle.sz_x509.specs.CertPlaces.{path_length_at}
use Rattle.sz_x509.specs.Contents.{is_bits, is_boolean, is_true_content, is_u32}
use Rattle.sz_x509.specs.Extensions.{IsBasicConstraints, IsFlag, IsKeyUsage, IsPathLength}
use Rattle.sz_x509.specs.declared.fault.CertKind.TheVariants as kinds
use Rattle.sz_x509.proofs.Values.{bits_test, boolean_test, boolean_value, IsBits_from_test, IsBoolean_from_test, IsIntegerOf_from_tests, number_is, u32_test}

-- ---- issuerUniqueID and subjectUniqueID

pub IsUniqueId_from_none : (tag : ℕ) (spot : Spot) → AreOctets spot.left → unique_id_fault tag spot ≡ None → Optional spot tag (IsUniqueId tag)
unfolding unique_id_fault
IsUniqueId_from_none tag spot fits n =
    elim (cases_Bool (is_next tag spot)) [
      | inl next ↦
          let a = parts_of_none _ _ (rw next at n) in
          let here = found_next _ tag spot fits next a.0 in
          present spot tag (IsUniqueId tag) here next (inr (content_at spot, here.is_item))
      | inr other ↦ absent spot tag (IsUniqueId tag) fits other (inl refl)
    ]

pub unique_id_clear : (tag : ℕ) (spot : Spot) (piece rest : List ℕ) → IsUniqueId tag piece → BeginsWithout tag rest → spot.left ≡ piece ++ rest →
    (unique_id_fault tag spot ≡ None) × ((after_optional tag spot).left ≡ rest)
unfolding unique_id_fault
unique_id_clear tag spot piece rest (inl nothing) without joined =
    let left : spot.left ≡ rest = joined ∙ ap (λ (x : List ℕ). x ++ rest) nothing in
    let other = without spot left in
    (rw other refl, rw (after_other tag spot other) left)
unique_id_clear tag spot piece rest (inr item) without joined =
    let here = stands spot tag item.0 piece rest item.1 joined in
    let next = next_stands spot tag item.0 piece rest here in
    (rw (next, no_item-stands kinds.Der here) refl, rw (after_next tag spot next) here.after_is)

pub without_unique_id : (tag other : ℕ) (piece rest : List ℕ) → IsUniqueId other piece → (other ≡ tag → ⊥) → BeginsWithout tag rest →
    BeginsWithout tag (piece ++ rest)
without_unique_id tag other piece rest (inl nothing) differ without = λ spot joined. without spot (joined ∙ ap (λ (x : List ℕ). x ++ rest) nothing)
without_unique_id tag other piece rest (inr item) differ without = without_item tag other item.0 piece rest item.1 differ

-- ---- BOOLEAN DEFAULT FALSE

pub flag_at-other : (spot : Spot) → is_next boolean_tag spot ≡ false → flag_at spot ≡ false
unfolding flag_at
flag_at-other spot other = and_left _ _ other

pub flag_at-next : (spot : Spot) → is_next boolean_tag spot ≡ true → flag_at spot ≡ is_true_content (content_at spot)
unfolding flag_at
flag_at-next spot next = rw next refl

pub IsFlag_from_none : (spot : Spot) → AreOctets spot.left → flag_fault spot ≡ None → Optional spot boolean_tag (IsFlag (flag_at spot))
unfolding flag_fault
IsFlag_from_none spot fits n =
    elim (cases_Bool (is_next boolean_tag spot)) [
      | inl next ↦
          let a = parts_of_none _ _ (rw next at n) in
          let b = parts_of_none _ _ a.1 in
          let here = found_next _ boolean_tag spot fits next a.0 in
          let is = IsBoolean_from_test (content_at spot) (holds_from_rule (is_boolean (content_at spot)) kinds.Der spot b.0) in
          present spot boolean_tag (IsFlag (flag_at spot)) here next (inr (content_at spot, rw (flag_at-next spot next) is, here.is_item))
      | inr other ↦ absent spot boolean_tag (IsFlag (flag_at spot)) fits other (inl (refl, flag_at-other spot other))
    ]

pub flag_clear : (spot : Spot) (flag : Bool) (piece rest : List ℕ) → IsFlag flag piece → BeginsWithout boolean_tag rest → spot.left ≡ piece ++ rest →
    (flag_fault spot ≡ None) × (flag_at spot ≡ flag) × ((after_optional boolean_tag spot).left ≡ rest)
unfolding flag_fault
flag_clear spot flag piece rest (inl nothing) without joined =
    let left : spot.left ≡ rest = joined ∙ ap (λ (x : List ℕ). x ++ rest) nothing.0 in
    let other = without spot left in
    (rw other refl, flag_at-other spot other ∙ sym nothing.1, rw (after_other boolean_tag spot other) left)
flag_clear spot flag piece rest (inr item) without joined =
    let here = stands spot boolean_tag item.0 piece rest item.2 joined in
    let next = next_stands spot boolean_tag item.0 piece rest here in
    let test : is_boolean (content_at spot) ≡ true = rw here.content_is (boolean_test flag item.0 item.1) in (
      rw (next, no_item-stands kinds.Der here, rule_from_holds (is_boolean (content_at spot)) kinds.Der spot test) refl,
      flag_at-next spot next ∙ ap is_true_content here.content_is ∙ boolean_value flag item.0 item.1,
      rw (after_next boolean_tag spot next) here.after_is,
    )

-- ---- BasicConstraints

pub path_length-next : (spot : Spot) → is_next integer_tag spot ≡ true → path_length_at spot ≡ Some (number_of (content_at spot))
unfolding path_length_at
path_length-next spot next = rw next refl

pub path_length-other : (spot : Spot) → is_next integer_tag spot ≡ false → path_length_at spot ≡ None
unfolding path_length_at
path_length-other spot other = rw other refl

pub IsPathLength_from_none : (spot : Spot) → AreOctets spot.left → path_length_fault spot ≡ None →
    Optional spot integer_tag (IsPathLength (path_length_at spot))
unfolding path_length_fault
IsPathLength_from_none spot fits n =
    elim (cases_Bool (is_next integer_tag spot)) [
      | inl next ↦
          let a = parts_of_none _ _ (rw next at n) in
          let b = parts_of_none _ _ a.1 in
          let c = parts_of_none _ _ b.1 in
          let here = found_next _ integer_tag spot fits next a.0 in
          let octets : AreOctets (content_at spot) = subst AreOctets (inside-left spot) here.inside in
          let is = IsIntegerOf_from_tests (content_at spot) octets (holds_from_rule (is_integer (content_at spot)) kinds.Der spot b.0)
          (holds_from_rule (is_u32 (content_at spot)) kinds.Extension spot c.0) in
          present spot integer_tag (IsPathLength (path_length_at spot)) here next
          (rw (path_length-next spot next) (is.0, (content_at spot, is.1, here.is_item)))
      | inr other ↦ absent spot integer_tag (IsPathLength (path_length_at spot)) fits other (rw (path_length-other spot other) refl)
    ]

pub path_length_clear : (spot : Spot) (path_len : Option ℕ) (piece rest : List ℕ) → IsPathLength path_len piece → BeginsWithout integer_tag rest →
    spot.left ≡ piece ++ rest → (path_length_fault spot ≡ None) × (path_length_at spot ≡ path_len) × ((after_optional integer_tag spot).left ≡ rest)
unfolding path_length_fault
path_length_clear spot None piece rest nothing without joined =
    let left : spot.left ≡ rest = joined ∙ ap (λ (x : List ℕ). x ++ rest) nothing in
    let other = without spot left in
    (rw other refl, path_length-other spot other, rw (after_other integer_tag spot other) left)
path_length_clear spot (Some n) piece rest (below, item) without joined =
    let here = stands spot integer_tag item.0 piece rest item.2 joined in
    let next = next_stands spot integer_tag item.0 piece rest here in
    let minimal : is_integer (content_at spot) ≡ true = rw here.content_is (integer_test item.0 item.1.minimal) in
    let fits : is_u32 (content_at spot) ≡ true = rw here.content_is (u32_test n item.0 below item.1) in (
      rw (
        next,
        no_item-stands kinds.Der here,
        rule_from_holds (is_integer (content_at spot)) kinds.Der spot minimal,
        rule_from_holds (is_u32 (content_at spot)) kinds.Extension spot fits,
      ) refl,
      path_length-next spot next ∙ ap (λ (x : List ℕ). Some (number_of x)) here.content_is ∙ ap (λ (x : ℕ). Some x) (number_is n item.0 item.1),
      rw (after_next integer_tag spot next) here.after_is,
    )

pub IsBasicConstraints_from_none : (spot : Spot) → AreOctets spot.left → basic_constraints_fault spot ≡ None →
    IsBasicConstraints (flag_at (inside spot)) (path_length_at (path_length_spot spot)) spot.left
unfolding basic_constraints_fault
IsBasicConstraints_from_none spot fits n =
    let a = parts_of_none _ _ n in
    let b = parts_of_none _ _ a.1 in
    let c = parts_of_none _ _ b.1 in
    let d = parts_of_none _ _ c.1 in
    let e = parts_of_none _ _ d.1 in
    let sequence = found_part _ _ sequence_tag spot fits a.0 in
    let flag = IsFlag_from_none (inside spot) sequence.inside b.0 in
    let path = IsPathLength_from_none (path_length_spot spot) flag.after c.0 in
    let only = last path.piece path.joined (nothing_left _ _ (after_optional integer_tag (path_length_spot spot)) d.0) in
    let whole = last (whole_at spot) sequence.joined (nothing_left _ _ (after spot) e.0) in
    let item = Der_with (sym (inside-left spot) ∙ and_then flag.piece flag.joined only) sequence.is_item in
    record {
      flag = flag.piece;
      path = path.piece;
      is_flag = flag.is_piece;
      is_path = path.is_piece;
      is_sequence = subst (λ (x : List ℕ). Der sequence_tag (flag.piece ++ path.piece) x) (sym whole) item;
    }

without_path_length : (path_len : Option ℕ) (piece : List ℕ) → IsPathLength path_len piece → BeginsWithout boolean_tag piece
without_path_length None piece nothing = λ spot left. without_nothing boolean_tag spot (left ∙ nothing)
without_path_length (Some n) piece (below, item) = λ spot left.
    without_item boolean_tag integer_tag item.0 piece [] item.2 (λ e. absurd (omega arith)) spot (alone piece left)

pub basic_constraints_clear : (spot : Spot) (ca : Bool) (path_len : Option ℕ) (value : List ℕ) → IsBasicConstraints ca path_len value →
    spot.left ≡ value →
    (basic_constraints_fault spot ≡ None) × (flag_at (inside spot) ≡ ca) × (path_length_at (path_length_spot spot) ≡ path_len)
unfolding basic_constraints_fault
basic_constraints_clear spot ca path_len value is left =
    let sequence = stands spot sequence_tag (is.flag ++ is.path) value [] is.is_sequence (alone value left) in
    let flag = flag_clear (inside spot) ca is.flag is.path is.is_flag (without_path_length path_len is.path is.is_path) sequence.inside_is in
    let path = path_length_clear (path_length_spot spot) path_len is.path [] is.is_path (without_nothing integer_tag) (alone is.path flag.2) in (
      rw (
        no_part-stands kinds.Der kinds.Der spot sequence_tag (is.flag ++ is.path) value [] sequence,
        flag.0,
        path.0,
        end_from_nothing kinds.Der kinds.Der (after_optional integer_tag (path_length_spot spot)) path.2,
        end_from_nothing kinds.Der kinds.Der (after spot) sequence.after_is,
      ) refl,
      flag.1,
      path.1,
    )

-- ---- KeyUsage and SubjectKeyIdentifier

pub bits_of : (content : List ℕ) → is_bits content ≡ true → (unused : ℕ) × (octets : List ℕ) × (content ≡ unused ∷ octets) × IsBits unused octets
bits_of [] e = absurd cc
bits_of (unused ∷ octets) e = (unused, octets, refl, IsBits_from_test unused octets e)

pub bits_at : (spot : Spot) → key_usage_fault spot ≡ None →
    (unused : ℕ) × (octets : List ℕ) × (content_at spot ≡ unused ∷ octets) × IsBits unused octets
unfolding key_usage_fault
bits_at spot n =
    let a = parts_of_none _ _ n in
    let b = parts_of_none _ _ a.1 in
    bits_of (content_at spot) (holds_from_rule (is_bits (content_at spot)) kinds.Der spot b.0)

pub IsKeyUsage_from_none : (spot : Spot) (usage : ℕ) → AreOctets spot.left → key_usage_fault spot ≡ None → usage < 2 ^ 16 →
    HoldsBits (content_at spot) usage → IsKeyUsage usage spot.left
unfolding key_usage_fault
IsKeyUsage_from_none spot usage fits n below holds =
    let a = parts_of_none _ _ n in
    let b = parts_of_none _ _ a.1 in
    let c = parts_of_none _ _ b.1 in
    let here = found_part _ _ bit_string_tag spot fits a.0 in
    let whole = last (whole_at spot) here.joined (nothing_left _ _ (after spot) c.0) in
    record {
      content = content_at spot;
      of_16_bits = below;
      holds_bits = holds;
      is_item = subst (λ (x : List ℕ). Der bit_string_tag (content_at spot) x) (sym whole) here.is_item;
    }

pub bits_content_test : (content : List ℕ) (usage : ℕ) → HoldsBits content usage → is_bits content ≡ true
bits_content_test content usage holds = rw holds.2 (bits_test holds.0 holds.1 holds.3)

pub key_usage_clear : (spot : Spot) (usage : ℕ) (value : List ℕ) → IsKeyUsage usage value → spot.left ≡ value →
    (key_usage_fault spot ≡ None) × HoldsBits (content_at spot) usage
unfolding key_usage_fault
key_usage_clear spot usage value is left =
    let here = stands spot bit_string_tag is.content value [] is.is_item (alone value left) in
    let holds : HoldsBits (content_at spot) usage = rw here.content_is is.holds_bits in (
      rw (
        no_part-stands kinds.Der kinds.Der spot bit_string_tag is.content value [] here,
        rule_from_holds (is_bits (content_at spot)) kinds.Der spot (bits_content_test (content_at spot) usage holds),
        end_from_nothing kinds.Der kinds.Der (after spot) here.after_is,
      ) refl,
      holds,
    )

pub IsKeyIdentifier_from_none : (spot : Spot) → AreOctets spot.left → key_identifier_fault spot ≡ None → Der octet_string_tag (content_at spot) spot.left
unfolding key_identifier_fault
IsKeyIdentifier_from_none spot fits n =
    let a = parts_of_none _ _ n in
    let b = parts_of_none _ _ a.1 in
    let here = found_part _ _ octet_string_tag spot fits a.0 in
    let whole = last (whole_at spot) here.joined (nothing_left _ _ (after spot) b.0) in
    subst (λ (x : List ℕ). Der octet_string_tag (content_at spot) x) (sym whole) here.is_item

pub key_identifier_clear : (spot : Spot) (octets value : List ℕ) → Der octet_string_tag octets value → spot.left ≡ value →
    (key_identifier_fault spot ≡ None) × (content_at spot ≡ octets)
unfolding key_identifier_fault
key_identifier_clear spot octets value is left =
    let here = stands spot octet_string_tag octets value [] is (alone value left) in (
      rw (
        no_part-stands kinds.Der kinds.Der spot octet_string_tag octets value [] here,
        end_from_nothing kinds.Der kinds.Der (after spot) here.after_is,
      ) refl,
      here.content_is,
    )
