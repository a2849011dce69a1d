-- The parts of SignedData before its signers: what has no fault is spelled as its relation says, and what is spelled so
-- has none.
use Rattle.std.specs.Prelude.{◌==◌, map, nat_lt}
use Rattle.std.specs.List.{concat}
use Rattle.std.proofs.Common.{◌≡◌, ℕ, ◌+◌, inl, inr, ◌<◌, ◌≤◌, ◌||◌, not, List, [], ◌∷◌, ◌++◌, length, get_or, Option, Some, None, refl, sym, ap, subst, ◌∙◌, append_assoc, arith, length-append}
use Rattle.std.proofs.lemmas.Bool.{cases_Bool, eqb-false, eqb-true, lt-ltb, ltb-true}
use Rattle.std.proofs.lemmas.List.{append-nil}
use Rattle.sz_der.specs.Der.{AreOctets, Der}
use Rattle.sz_der.specs.Spots.{after, after_optional, content_at, inside, is_next, Spot, spots_from, tag_at, whole_at}
use Rattle.sz_der.specs.Tags.{context_constructed, object_identifier_tag, octet_string_tag, sequence_tag, set_tag}
use Rattle.sz_der.proofs.Joined.{after_nothing, alone, and_then, Der_with, last}
use Rattle.sz_der.proofs.Optional.{absent, after_next, after_other, BeginsWithout, found_next, next_stands, Optional, present, without_nothing}
use Rattle.sz_der.proofs.Spots.{behind, Behind, end_from_nothing, found, found_part, holds_from_rule, inside-left, no_item-stands, no_part-stands, nothing_left, parts_of_none, stands}
use Rattle.sz_cms.specs.Message.{Algorithm, AreAlgorithms, AreChoices, IsAlgorithm, IsChoicesField, IsContent, IsContentField, IsItem, sequences_of}
use Rattle.sz_cms.specs.MessageFault.{algorithm_fault, algorithms_fault, choice_fault, choices_fault, content_fault, content_field_fault, each_after, is_sequence, octets_fault, sequences_at}
use Rattle.sz_cms.specs.Places.{algorithm_at, choices_at, content_field_at}
use Rattle.sz_cms.specs.declared.fault.InfoKind.TheVariants as kinds
use Rattle.sz_cms.proofs.Fields.{FieldClear}
use Rattle.sz_cms.proofs.Lists.{are_written, clear_each, IsClear}
use Rattle.sz_cms.proofs.Readings.{begins, choice_fits, choice_other, kept_more, kept_other, sequence_is}
use Rattle.sz_cms.proofs.SignerLaws.{algorithm_clear, algorithm_from_none}

-- ---- SET OF AlgorithmIdentifier

pub algorithms_from_none : (spot : Spot) → AreOctets spot.left → algorithms_fault spot ≡ None → AreAlgorithms (whole_at spot) × Behind spot
unfolding algorithms_fault
algorithms_from_none spot fits n =
    let list = inside spot in
    let a = parts_of_none _ _ n in
    let b = parts_of_none _ _ a.1 in
    let here = found_part _ _ set_tag spot fits a.0 in
    let are = are_written (λ _. algorithm_fault) IsAlgorithm algorithm_at (λ earlier. algorithm_from_none) (length list.left) [] list (omega arith)
    here.inside b.0 in (
      record {
        algorithms = map algorithm_at (spots_from list);
        content = list.left;
        are_algorithms = are;
        is_set = Der_with (sym (inside-left spot)) here.is_item;
      },
      behind here,
    )

-- as many as there are
abbrev AnyRoom : List Spot → List Algorithm → Type 0
AnyRoom earlier algorithms = Unit {0}

one_algorithm_clear : (earlier : List Spot) (spot : Spot) (algorithm : Algorithm) (algorithms : List Algorithm) (whole rest : List ℕ) →
    AnyRoom earlier (algorithm ∷ algorithms) → IsAlgorithm algorithm whole → spot.left ≡ whole ++ rest →
    IsClear (λ _. algorithm_fault) algorithm_at AnyRoom earlier spot algorithm algorithms rest
one_algorithm_clear earlier spot algorithm algorithms whole rest room is joined =
    let here = algorithm_clear spot algorithm whole rest is joined in
    record { no_fault = here.no_fault; value_is = here.value_is; after_is = here.after_is; some = here.some; room = tt }

pub algorithms_clear : (spot : Spot) (whole rest : List ℕ) → AreAlgorithms whole → spot.left ≡ whole ++ rest →
    (algorithms_fault spot ≡ None) × ((after spot).left ≡ rest)
unfolding algorithms_fault
algorithms_clear spot whole rest are joined =
    let here = stands spot set_tag are.content whole rest are.is_set joined in
    let list = inside spot in
    let each = clear_each (λ _. algorithm_fault) IsAlgorithm algorithm_at AnyRoom one_algorithm_clear (length list.left) [] list are.algorithms (omega arith)
    (rw here.inside_is are.are_algorithms) tt in
    (rw (no_part-stands kinds.Der kinds.Shape spot set_tag are.content whole rest here, each.0) refl, here.after_is)

-- ---- an OCTET STRING alone

pub octets_from_none : (spot : Spot) → AreOctets spot.left → octets_fault spot ≡ None → Der octet_string_tag (content_at spot) spot.left
unfolding octets_fault
octets_from_none spot fits n =
    let a = parts_of_none _ _ n in
    let b = parts_of_none _ _ a.1 in
    let here = found_part _ _ octet_string_tag spot fits a.0 in
    let only = last (whole_at spot) here.joined (nothing_left _ _ (after spot) b.0) in
    subst (λ (x : List ℕ). Der octet_string_tag (content_at spot) x) (sym only) here.is_item

pub octets_clear : (spot : Spot) (octets whole : List ℕ) → Der octet_string_tag octets whole → spot.left ≡ whole →
    (octets_fault spot ≡ None) × (content_at spot ≡ octets)
unfolding octets_fault
octets_clear spot octets whole item left =
    let here = stands spot octet_string_tag octets whole [] item (alone whole left) in
    let nothing = end_from_nothing kinds.Der kinds.Shape (after spot) here.after_is in
    (rw (no_part-stands kinds.Der kinds.Shape spot octet_string_tag octets whole [] here, nothing) refl, here.content_is)

-- ---- EncapsulatedContentInfo

content_field_from_none : (spot : Spot) → AreOctets spot.left → content_field_fault spot ≡ None →
    Optional spot context_constructed (IsContentField (content_field_at spot))
unfolding content_field_fault content_field_at
content_field_from_none spot fits n =
    elim (cases_Bool (is_next context_constructed spot)) [
      | inl next ↦
          let a = parts_of_none _ _ (rw next at n) in
          let b = parts_of_none _ _ a.1 in
          let here = found_next _ context_constructed spot fits next a.0 in
          let octets = octets_from_none (inside spot) here.inside b.0 in
          present spot context_constructed (IsContentField (content_field_at spot)) here next
          (rw next (record { inner = (inside spot).left; is_octets = octets; is_explicit = Der_with (sym (inside-left spot)) here.is_item }))
      | inr other ↦ absent spot context_constructed (IsContentField (content_field_at spot)) fits other (rw other refl)
    ]

content_field_clear : (spot : Spot) (content : Option (List ℕ)) (piece : List ℕ) → IsContentField content piece → spot.left ≡ piece ++ [] →
    FieldClear (content_field_fault spot) (content_field_at spot) content spot context_constructed []
unfolding content_field_fault content_field_at
content_field_clear spot None piece nothing joined =
    let left = after_nothing piece joined nothing in
    let other = without_nothing context_constructed spot left in
    record { no_fault = rw other refl; value_is = rw other refl; after_is = rw (after_other context_constructed spot other) left }
content_field_clear spot (Some content) piece is joined =
    let here = stands spot context_constructed is.inner piece [] is.is_explicit joined in
    let next = next_stands spot context_constructed is.inner piece [] here in
    let octets = octets_clear (inside spot) content is.inner is.is_octets here.inside_is in
    record {
      no_fault = rw (next, no_item-stands kinds.Der here, octets.0) refl;
      value_is = rw next (ap (λ (x : List ℕ). Some x) octets.1);
      after_is = rw (after_next context_constructed spot next) here.after_is;
    }

pub content_from_none : (spot : Spot) → AreOctets spot.left → content_fault spot ≡ None →
    IsContent (content_at (inside spot)) (content_field_at (after (inside spot))) (whole_at spot) × Behind spot
unfolding content_fault
content_from_none spot fits n =
    let a = parts_of_none _ _ n in
    let b = parts_of_none _ _ a.1 in
    let c = parts_of_none _ _ b.1 in
    let d = parts_of_none _ _ c.1 in
    let here = found_part _ _ sequence_tag spot fits a.0 in
    let identifier = found_part _ _ object_identifier_tag (inside spot) here.inside b.0 in
    let field = content_field_from_none (after (inside spot)) identifier.after c.0 in
    let only = and_then field.piece field.joined (nothing_left _ _ (after_optional context_constructed (after (inside spot))) d.0) in (
      record {
        identifier = whole_at (inside spot);
        field = field.piece;
        is_identifier = identifier.is_item;
        is_field = field.is_piece;
        is_sequence = Der_with (sym (inside-left spot) ∙ and_then (whole_at (inside spot)) identifier.joined only) here.is_item;
      },
      behind here,
    )

-- a content at a spot has no fault, and its type and its octets are what is kept of it
pub record ContentClear (spot : Spot) (kind : List ℕ) (content : Option (List ℕ)) (rest : List ℕ) : Type 0 where
  pub no_fault : content_fault spot ≡ None
  pub kind_is : content_at (inside spot) ≡ kind
  pub content_is : content_field_at (after (inside spot)) ≡ content
  pub after_is : (after spot).left ≡ rest

pub content_clear : (spot : Spot) (kind : List ℕ) (content : Option (List ℕ)) (whole rest : List ℕ) → IsContent kind content whole →
    spot.left ≡ whole ++ rest → ContentClear spot kind content rest
unfolding content_fault
content_clear spot kind content whole rest is joined =
    let here = stands spot sequence_tag (concat (is.identifier ∷ is.field ∷ [])) whole rest is.is_sequence joined in
    let identifier = stands (inside spot) object_identifier_tag kind is.identifier (concat (is.field ∷ [])) is.is_identifier here.inside_is in
    let field = content_field_clear (after (inside spot)) content is.field is.is_field identifier.after_is in
    record {
      no_fault = rw (
        no_part-stands kinds.Der kinds.Shape spot sequence_tag (concat (is.identifier ∷ is.field ∷ [])) whole rest here,
        no_part-stands kinds.Der kinds.Shape (inside spot) object_identifier_tag kind is.identifier (concat (is.field ∷ [])) identifier,
        field.no_fault,
        end_from_nothing kinds.Der kinds.Shape (after_optional context_constructed (after (inside spot))) field.after_is,
      ) refl;
      kind_is = identifier.content_is;
      content_is = field.value_is;
      after_is = here.after_is;
    }

-- ---- certificates and revocation lists

-- any item, kept as it is written
abbrev IsWhole : List ℕ → List ℕ → Type 0
IsWhole item bytes = (item ≡ bytes) × IsItem bytes

module _ (most : ℕ) where
  choice_shows : (earlier : List Spot) (spot : Spot) → AreOctets spot.left → choice_fault most earlier spot ≡ None →
      IsWhole (whole_at spot) (whole_at spot) × Behind spot
  unfolding choice_fault
  choice_shows earlier spot fits n =
      let a = parts_of_none _ _ n in
      let here = found kinds.Der spot fits a.0 in
      ((refl, (tag_at spot, content_at spot, here.is_item)), behind here)

  -- a further SEQUENCE has room
  choice_within : (earlier : List Spot) (spot : Spot) → choice_fault most earlier spot ≡ None → tag_at spot ≡ sequence_tag →
      length (sequences_at earlier) < most
  unfolding choice_fault
  choice_within earlier spot n is =
      let a = parts_of_none _ _ n in
      let b = parts_of_none _ _ a.1 in
      let test = not (is_sequence spot) || nat_lt (length (sequences_at earlier)) most in
      let holds = holds_from_rule test (kinds.TooMany most) spot b.0 in
      ltb-true (length (sequences_at earlier)) most (rw (sequence_is spot is) at holds)

  few_from_none : (earlier spots : List Spot) → length (sequences_at earlier) ≤ most → each_after (choice_fault most) earlier spots ≡ None →
      length (sequences_at (earlier ++ spots)) ≤ most
  few_from_none earlier [] few n = rw (append-nil earlier) few
  few_from_none earlier (spot ∷ later) few n =
      let a = parts_of_none _ _ n in
      let b = parts_of_none _ _ a.1 in
      let all = append_assoc earlier (spot ∷ []) later in
      elim (cases_Bool (tag_at spot == sequence_tag)) [
        | inl is ↦
            let sequence = eqb-true (tag_at spot) sequence_tag is in
            let within = choice_within earlier spot a.0 sequence in
            let more = ap (λ (xs : List (List ℕ)). length xs) (kept_more earlier spot sequence) in
            let rest = few_from_none (earlier ++ spot ∷ []) later (omega (arith, length-append (sequences_at earlier) (whole_at spot ∷ []))) b.0 in
            subst (λ (spots : List Spot). length (sequences_at spots) ≤ most) all rest
        | inr other ↦
            let same = ap (λ (xs : List (List ℕ)). length xs) (kept_other earlier spot (eqb-false (tag_at spot) sequence_tag other)) in
            let rest = few_from_none (earlier ++ spot ∷ []) later (omega arith) b.0 in
            subst (λ (spots : List Spot). length (sequences_at spots) ≤ most) all rest
      ]

  pub choices_from_none : (tag : ℕ) (spot : Spot) → AreOctets spot.left → choices_fault most tag spot ≡ None →
      Optional spot tag (IsChoicesField most tag (choices_at tag spot))
  unfolding choices_fault choices_at
  choices_from_none tag spot fits n =
      elim (cases_Bool (is_next tag spot)) [
        | inl next ↦
            let list = inside spot in
            let a = parts_of_none _ _ (rw next at n) in
            let b = parts_of_none _ _ a.1 in
            let here = found_next _ tag spot fits next a.0 in
            let are = are_written (choice_fault most) IsWhole whole_at choice_shows (length list.left) [] list (omega arith) here.inside b.0 in
            let choices : AreChoices most (sequences_at (spots_from list)) list.left = record {
              items = map whole_at (spots_from list);
              are_items = are;
              sequences = refl;
              few = few_from_none [] (spots_from list) (omega arith) b.0;
            } in
            present spot tag (IsChoicesField most tag (choices_at tag spot)) here next
            (rw next (inr (list.left, choices, Der_with (sym (inside-left spot)) here.is_item)))
        | inr other ↦ absent spot tag (IsChoicesField most tag (choices_at tag spot)) fits other (rw other (inl (refl, refl)))
      ]

  -- how many more there may be
  record Room (earlier : List Spot) (items : List (List ℕ)) : Type 0 where
    pub few : length (sequences_at earlier) + length (sequences_of items) ≤ most

  choice_clear : (earlier : List Spot) (spot : Spot) (item : List ℕ) (items : List (List ℕ)) (whole rest : List ℕ) → Room earlier (item ∷ items) →
      IsWhole item whole → spot.left ≡ whole ++ rest → IsClear (choice_fault most) whole_at Room earlier spot item items rest
  choice_clear earlier spot item items whole rest room is joined =
      let here = stands spot is.1.0 is.1.1 whole rest is.1.2 joined in
      let same = here.whole_is ∙ sym is.0 in
      let first : get_or item 0 0 ≡ tag_at spot = ap (λ (x : List ℕ). get_or x 0 0) (sym same) ∙ begins spot in
      elim (cases_Bool (tag_at spot == sequence_tag)) [
        | inl is_one ↦
            let sequence = eqb-true (tag_at spot) sequence_tag is_one in
            let kept : sequences_of (item ∷ items) ≡ item ∷ sequences_of items = rw (first, is_one) refl in
            let count = ap (λ (xs : List (List ℕ)). length xs) kept in
            let within = lt-ltb (length (sequences_at earlier)) most (omega (arith, room.few)) in
            let more = ap (λ (xs : List (List ℕ)). length xs) (kept_more earlier spot sequence) in
            record {
              no_fault = choice_fits most earlier spot (no_item-stands kinds.Der here) within;
              value_is = same;
              after_is = here.after_is;
              some = here.is_some;
              room = record { few = omega (arith, room.few, length-append (sequences_at earlier) (whole_at spot ∷ [])) };
            }
        | inr is_none ↦
            let other = eqb-false (tag_at spot) sequence_tag is_none in
            let kept : sequences_of (item ∷ items) ≡ sequences_of items = rw (first, is_none) refl in
            let count = ap (λ (xs : List (List ℕ)). length xs) kept in
            let stays = ap (λ (xs : List (List ℕ)). length xs) (kept_other earlier spot other) in
            record {
              no_fault = choice_other most earlier spot (no_item-stands kinds.Der here) other;
              value_is = same;
              after_is = here.after_is;
              some = here.is_some;
              room = record { few = omega (arith, room.few) };
            }
      ]

  pub choices_clear : (tag : ℕ) (spot : Spot) (kept : List (List ℕ)) (piece rest : List ℕ) → IsChoicesField most tag kept piece →
      BeginsWithout tag rest → spot.left ≡ piece ++ rest → FieldClear (choices_fault most tag spot) (choices_at tag spot) kept spot tag rest
  unfolding choices_fault choices_at
  choices_clear tag spot kept piece rest (inl none) without joined =
      let left = after_nothing piece joined none.0 in
      let other = without spot left in
      record { no_fault = rw other refl; value_is = rw other (sym none.1); after_is = rw (after_other tag spot other) left }
  choices_clear tag spot kept piece rest (inr some) without joined =
      let are = some.1 in
      let here = stands spot tag some.0 piece rest some.2 joined in
      let next = next_stands spot tag some.0 piece rest here in
      let list = inside spot in
      let room : Room [] are.items = record { few = omega (arith, are.few, ap (λ (xs : List (List ℕ)). length xs) are.sequences) } in
      let each = clear_each (choice_fault most) IsWhole whole_at Room choice_clear (length list.left) [] list are.items (omega arith)
      (rw here.inside_is are.are_items) room in
      record {
        no_fault = rw (next, no_item-stands kinds.Der here, each.0) refl;
        value_is = rw next (ap sequences_of each.1 ∙ sym are.sequences);
        after_is = rw (after_next tag spot next) here.after_is;
      }
