-- Signed attributes: what has no fault is spelled as its relation says, and what is spelled so has none.
use Rattle.std.specs.Prelude.{bytes_eq, map, unwrap_or}
use Rattle.std.specs.List.{concat}
use Rattle.std.proofs.Common.{◌≡◌, ℕ, zero, suc, inl, inr, ◌⊎◌, ◌≤◌, ◌&&◌, ◌||◌, not, true, false, List, [], ◌∷◌, ◌++◌, length, Option, Some, None, refl, sym, ap, subst, ◌∙◌, arith}
use Rattle.std.proofs.lemmas.Bool.{and_from, and_parts, and_right, both_ways, cases_Bool, not-true, not_from_false, or_left, or_right}
use Rattle.std.proofs.lemmas.List.Folds.{list_any-append}
use Rattle.sz_der.specs.Der.{AreOctets, Der}
use Rattle.sz_der.specs.Spots.{after, AreEach, content_at, inside, is_at_end, is_next, Spot, spots_from, spots_upto, whole_at}
use Rattle.sz_der.specs.Tags.{context_constructed, object_identifier_tag, octet_string_tag, sequence_tag, set_tag}
use Rattle.sz_der.proofs.Octets.{same_bytes}
use Rattle.sz_der.proofs.Joined.{after_nothing, alone, and_then, Der_with, last}
use Rattle.sz_der.proofs.Optional.{absent, after_next, after_other, BeginsWithout, found_next, next_stands, Optional, present}
use Rattle.sz_der.proofs.Spots.{behind, Behind, end_from_nothing, Found, found_part, holds_from_rule, inside-left, no_item-stands, no_part-stands, nothing_left, parts_of_none, rule_from_holds, Stands, stands}
use Rattle.sz_der.proofs.SpotLists.{less_after}
use Rattle.sz_cms.specs.Message.{Attribute, HasAttributes, HasOne, IsAttribute, IsAttributesField, SignedAttributes, values_of}
use Rattle.sz_cms.specs.MessageFault.{attribute_fault, attributes_fault, each_after, has_both, is_known, known_fault, one_fault, stands_among, type_at, values_fault, values_spot}
use Rattle.sz_cms.specs.Places.{attributes_at, known_at, value_among, value_at, value_in}
use Rattle.sz_cms.specs.declared.fault.InfoKind.TheVariants as kinds
use Rattle.sz_cms.specs.Identifiers.{content_type_oid, message_digest_oid}
use Rattle.sz_cms.proofs.Fields.{FieldClear}
use Rattle.sz_cms.proofs.Lists.{are_written, clear_each, IsClear}

-- the attribute that stands at a spot
abbrev attribute_at : Spot → Attribute
attribute_at spot = record { type = type_at spot; values = content_at (values_spot spot) }

-- ---- which types stand among attributes

nothing_stands : (type : List ℕ) → stands_among [] type ≡ false
unfolding stands_among
nothing_stands type = refl

stands_more : (earlier : List Spot) (spot : Spot) (type : List ℕ) →
    stands_among (earlier ++ spot ∷ []) type ≡ (stands_among earlier type || (bytes_eq (type_at spot) type || false))
unfolding stands_among
stands_more earlier spot type = list_any-append (λ there. bytes_eq (type_at there) type) earlier (spot ∷ [])

still_stands : (earlier : List Spot) (spot : Spot) (type : List ℕ) → stands_among earlier type ≡ true → stands_among (earlier ++ spot ∷ []) type ≡ true
still_stands earlier spot type e = stands_more earlier spot type ∙ or_left _ _ e

now_stands : (earlier : List Spot) (spot : Spot) (type : List ℕ) → bytes_eq (type_at spot) type ≡ true → stands_among (earlier ++ spot ∷ []) type ≡ true
now_stands earlier spot type is =
    stands_more earlier spot type ∙ or_right (stands_among earlier type) (bytes_eq (type_at spot) type || false) (or_left _ _ is)

still_absent : (earlier : List Spot) (spot : Spot) (type : List ℕ) → stands_among earlier type ≡ false → bytes_eq (type_at spot) type ≡ false →
    stands_among (earlier ++ spot ∷ []) type ≡ false
still_absent earlier spot type e other = stands_more earlier spot type ∙ rw (e, other) refl

-- ---- the one value of a known type

one_value : (tag : ℕ) (spot : Spot) → AreOctets spot.left → one_fault tag spot ≡ None → Der tag (content_at spot) spot.left
unfolding one_fault
one_value tag spot fits n =
    let a = parts_of_none _ _ n in
    let b = parts_of_none _ _ a.1 in
    let c = parts_of_none _ _ b.1 in
    let here = found_part _ _ tag spot fits b.0 in
    let only = last (whole_at spot) here.joined (nothing_left _ _ (after spot) c.0) in
    subst (λ (x : List ℕ). Der tag (content_at spot) x) (sym only) here.is_item

one_clear : (tag : ℕ) (spot : Spot) (content whole : List ℕ) → Der tag content whole → spot.left ≡ whole →
    (one_fault tag spot ≡ None) × (content_at spot ≡ content)
unfolding one_fault
one_clear tag spot content whole item joined =
    let here = stands spot tag content whole [] item (alone whole joined) in (
      rw (
        here.is_some,
        no_part-stands kinds.Der kinds.Shape spot tag content whole [] here,
        end_from_nothing kinds.Der kinds.Attribute (after spot) here.after_is,
      ) refl,
      here.content_is,
    )

told_type : (spot : Spot) → values_fault content_type_oid spot ≡ None → one_fault object_identifier_tag spot ≡ None
unfolding values_fault
told_type spot n = n

told_digest : (spot : Spot) → values_fault message_digest_oid spot ≡ None → one_fault octet_string_tag spot ≡ None
unfolding values_fault
told_digest spot n = n

values_fit : (type : List ℕ) (spot : Spot) → (bytes_eq type content_type_oid ≡ true → one_fault object_identifier_tag spot ≡ None) →
    (bytes_eq type message_digest_oid ≡ true → one_fault octet_string_tag spot ≡ None) → values_fault type spot ≡ None
unfolding values_fault
values_fit type spot a b =
    elim (cases_Bool (bytes_eq type content_type_oid)) [
      | inl is ↦ rw is (a is)
      | inr other ↦ elim (cases_Bool (bytes_eq type message_digest_oid)) [
        | inl is ↦ rw (other, is) (b is)
        | inr neither ↦ rw (other, neither) refl
      ]
    ]

-- ---- attributes without a fault

-- what holds of an attribute without a fault, after those at the earlier spots
record Holds (earlier : List Spot) (spot : Spot) : Type 0 where
  pub is_attribute : IsAttribute (attribute_at spot) (whole_at spot)
  pub behind : Behind spot
  pub fresh : (is_known (type_at spot) && stands_among earlier (type_at spot)) ≡ false
  pub value : values_fault (type_at spot) (inside (values_spot spot)) ≡ None
  pub octets : AreOctets (inside (values_spot spot)).left

holds_here : (earlier : List Spot) (spot : Spot) → AreOctets spot.left → attribute_fault earlier spot ≡ None → Holds earlier spot
unfolding attribute_fault
holds_here earlier spot fits n =
    let a = parts_of_none _ _ n in
    let b = parts_of_none _ _ a.1 in
    let c = parts_of_none _ _ b.1 in
    let d = parts_of_none _ _ c.1 in
    let e = parts_of_none _ _ d.1 in
    let f = parts_of_none _ _ e.1 in
    let sequence = found_part _ _ sequence_tag spot fits a.0 in
    let identifier = found_part _ _ object_identifier_tag (inside spot) sequence.inside b.0 in
    let set = found_part _ _ set_tag (values_spot spot) identifier.after d.0 in
    let only = and_then (whole_at (values_spot spot)) set.joined (nothing_left _ _ (after (values_spot spot)) f.0) in
    let known = is_known (type_at spot) && stands_among earlier (type_at spot) in
    record {
      is_attribute = record {
        identifier = whole_at (inside spot);
        set = whole_at (values_spot spot);
        is_identifier = identifier.is_item;
        is_set = set.is_item;
        is_sequence = Der_with (sym (inside-left spot) ∙ and_then (whole_at (inside spot)) identifier.joined only) sequence.is_item;
      };
      behind = behind sequence;
      fresh = not-true known (holds_from_rule (not known) kinds.Attribute (inside spot) c.0);
      value = e.0;
      octets = set.inside;
    }

-- each holds after those before it
abbrev EachHolds : List Spot → List Spot → Type 0
EachHolds earlier [] = Unit {0}
EachHolds earlier (spot ∷ later) = Holds earlier spot × EachHolds (earlier ++ spot ∷ []) later

each_holds : (n : ℕ) (earlier : List Spot) (spot : Spot) → length spot.left ≤ n → AreOctets spot.left →
    each_after attribute_fault earlier (spots_upto n spot) ≡ None → EachHolds earlier (spots_upto n spot)
unfolding spots_upto
each_holds zero earlier spot few fits e = tt
each_holds (suc n) earlier spot few fits e =
    elim (cases_Bool (is_at_end spot)) [
      | inl at_end ↦ rw at_end tt
      | inr more ↦
          let parts = parts_of_none _ _ (rw more at e) in
          let others = parts_of_none _ _ parts.1 in
          let here = holds_here earlier spot fits parts.0 in
          rw more (here, each_holds n (earlier ++ spot ∷ []) (after spot) (less_after spot n few) here.behind.after others.0)
    ]

-- of a known type that stood before, none stands
none_of : (type : List ℕ) → is_known type ≡ true → (earlier spots : List Spot) → EachHolds earlier spots → stands_among earlier type ≡ true →
    values_of type (map attribute_at spots) ≡ []
none_of type known earlier [] hold before = refl
none_of type known earlier (spot ∷ later) hold before =
    elim (cases_Bool (bytes_eq (type_at spot) type)) [
      | inl is ↦
          let fresh = ap (λ (t : List ℕ). is_known t && stands_among earlier t) (sym (same_bytes (type_at spot) type is)) ∙ hold.0.fresh in
          absurd (both_ways (is_known type && stands_among earlier type) fresh (and_from _ _ known before))
      | inr other ↦ rw other (none_of type known (earlier ++ spot ∷ []) later hold.1 (still_stands earlier spot type before))
    ]

module _ (type : List ℕ) (tag : ℕ) (known : is_known type ≡ true) (told : (spot : Spot) → values_fault type spot ≡ None → one_fault tag spot ≡ None) where
  -- of a known type that stands now and not before, one stands, with one value
  one_of : (earlier spots : List Spot) → EachHolds earlier spots → stands_among spots type ≡ true →
      HasOne type tag (unwrap_or (value_among spots type) []) (map attribute_at spots)
  unfolding stands_among value_among value_at
  one_of earlier [] hold now = absurd cc
  one_of earlier (spot ∷ later) hold now =
      elim (cases_Bool (bytes_eq (type_at spot) type)) [
        | inl is ↦
            let values = inside (values_spot spot) in
            let none = ap (λ (t : List ℕ). values_fault t values) (sym (same_bytes (type_at spot) type is)) ∙ hold.0.value in
            let value = one_value tag values hold.0.octets (told values none) in
            let no_other = none_of type known (earlier ++ spot ∷ []) later hold.1 (now_stands earlier spot type is) in
            rw is (
              content_at (values_spot spot),
              ap (λ (xs : List (List ℕ)). content_at (values_spot spot) ∷ xs) no_other,
              subst (λ (x : List ℕ). Der tag (content_at values) x) (inside-left (values_spot spot)) value,
            )
        | inr other ↦ rw other (one_of (earlier ++ spot ∷ []) later hold.1 (rw other at now))
      ]

attribute_shows : (earlier : List Spot) (spot : Spot) → AreOctets spot.left → attribute_fault earlier spot ≡ None →
    IsAttribute (attribute_at spot) (whole_at spot) × Behind spot
attribute_shows earlier spot fits n =
    let here = holds_here earlier spot fits n in
    (here.is_attribute, here.behind)

known_from_none : (spot : Spot) → Found spot context_constructed → known_fault spot ≡ None → HasAttributes context_constructed (known_at spot)
unfolding known_fault known_at value_in has_both
known_from_none spot here n =
    let list = inside spot in
    let a = parts_of_none _ _ n in
    let b = parts_of_none _ _ a.1 in
    let stand = and_parts _ _ (holds_from_rule (has_both (spots_from list)) kinds.Attribute (after spot) b.0) in
    let each = each_holds (length list.left) [] list (omega arith) here.inside a.0 in
    let written = are_written attribute_fault IsAttribute attribute_at attribute_shows (length list.left) [] list (omega arith) here.inside a.0 in
    record {
      each = map attribute_at (spots_from list);
      content = content_at spot;
      are_attributes = subst (λ (x : List ℕ). AreEach IsAttribute (map attribute_at (spots_from list)) x) (inside-left spot) written;
      one_content_type = one_of content_type_oid object_identifier_tag refl told_type [] (spots_from list) each stand.0;
      one_digest = one_of message_digest_oid octet_string_tag refl told_digest [] (spots_from list) each stand.1;
      is_set = here.is_item;
    }

pub attributes_from_none : (spot : Spot) → AreOctets spot.left → attributes_fault spot ≡ None →
    Optional spot context_constructed (IsAttributesField (attributes_at spot))
unfolding attributes_fault attributes_at known_at
attributes_from_none spot fits n =
    elim (cases_Bool (is_next context_constructed spot)) [
      | inl next ↦
          let a = parts_of_none _ _ (rw next at n) in
          let b = parts_of_none _ _ a.1 in
          let here = found_next _ context_constructed spot fits next a.0 in
          present spot context_constructed (IsAttributesField (attributes_at spot)) here next (rw next (known_from_none spot here b.0, refl))
      | inr other ↦ absent spot context_constructed (IsAttributesField (attributes_at spot)) fits other (rw other refl)
    ]

-- ---- and the way back

-- what has still to stand after the attributes at the earlier spots: one of the type, with one value, or none where one
-- stood
abbrev RoomOf : List ℕ → ℕ → List Spot → List Attribute → Type 0
RoomOf type tag earlier attributes =
    ((stands_among earlier type ≡ true) × (values_of type attributes ≡ []))
    ⊎ ((stands_among earlier type ≡ false) × ((content : List ℕ) × HasOne type tag content attributes))

record RoomFor (earlier : List Spot) (attributes : List Attribute) : Type 0 where
  pub content_type : RoomOf content_type_oid object_identifier_tag earlier attributes
  pub digest : RoomOf message_digest_oid octet_string_tag earlier attributes

-- the first attribute is of the type: none was before, none follows, and it has one value
record First (type : List ℕ) (tag : ℕ) (earlier : List Spot) (values : List ℕ) (attributes : List Attribute) : Type 0 where
  pub before : stands_among earlier type ≡ false
  pub content : List ℕ
  pub is_value : Der tag content values
  pub no_other : values_of type attributes ≡ []

module _ (type : List ℕ) (tag : ℕ) (earlier : List Spot) (spot : Spot) (attribute : Attribute) (attributes : List Attribute)
    (same : type_at spot ≡ attribute.type) where
  first_here : bytes_eq attribute.type type ≡ true → RoomOf type tag earlier (attribute ∷ attributes) → First type tag earlier attribute.values attributes
  first_here is (inl none) =
      let e : attribute.values ∷ values_of type attributes ≡ [] = rw is at none.1 in
      absurd (cc e)
  first_here is (inr one) =
      let e : attribute.values ∷ values_of type attributes ≡ one.1.1.0 ∷ [] = rw is at one.1.1.1 in
      let head : attribute.values ≡ one.1.1.0 = cc e in
      record {
        before = one.0;
        content = one.1.0;
        is_value = subst (λ (x : List ℕ). Der tag one.1.0 x) (sym head) one.1.1.2;
        no_other = cc e;
      }

  room_kept : bytes_eq attribute.type type ≡ false → RoomOf type tag earlier (attribute ∷ attributes) → RoomOf type tag (earlier ++ spot ∷ []) attributes
  room_kept other (inl none) = inl (still_stands earlier spot type none.0, rw other at none.1)
  room_kept other (inr one) =
      inr (
        still_absent earlier spot type one.0 (ap (λ (t : List ℕ). bytes_eq t type) same ∙ other),
        (one.1.0, (one.1.1.0, rw other at one.1.1.1, one.1.1.2)),
      )

  room_next : RoomOf type tag earlier (attribute ∷ attributes) → RoomOf type tag (earlier ++ spot ∷ []) attributes
  room_next room =
      elim (cases_Bool (bytes_eq attribute.type type)) [
        | inl is ↦ inl (now_stands earlier spot type (ap (λ (t : List ℕ). bytes_eq t type) same ∙ is), (first_here is room).no_other)
        | inr other ↦ room_kept other room
      ]

  -- where the type is this one, none was before, and the value has no fault
  fits_here : RoomOf type tag earlier (attribute ∷ attributes) → (values : Spot) → values.left ≡ attribute.values → bytes_eq (type_at spot) type ≡ true →
      (stands_among earlier type ≡ false) × (one_fault tag values ≡ None)
  fits_here room values left is =
      let first = first_here (ap (λ (t : List ℕ). bytes_eq t type) (sym same) ∙ is) room in
      (first.before, (one_clear tag values first.content attribute.values first.is_value left).0)

-- a type that has to stand once does not stand before
is_fresh : (type : List ℕ) (earlier : List Spot) → (bytes_eq type content_type_oid ≡ true → stands_among earlier content_type_oid ≡ false) →
    (bytes_eq type message_digest_oid ≡ true → stands_among earlier message_digest_oid ≡ false) → (is_known type && stands_among earlier type) ≡ false
is_fresh type earlier a b =
    elim (cases_Bool (bytes_eq type content_type_oid)) [
      | inl is ↦ and_right (is_known type) (stands_among earlier type) (ap (stands_among earlier) (same_bytes type content_type_oid is) ∙ a is)
      | inr other ↦ elim (cases_Bool (bytes_eq type message_digest_oid)) [
        | inl is ↦ and_right (is_known type) (stands_among earlier type) (ap (stands_among earlier) (same_bytes type message_digest_oid is) ∙ b is)
        | inr neither ↦ rw (other, neither) refl
      ]
    ]

same_attribute : (type values : List ℕ) (attribute : Attribute) → type ≡ attribute.type → values ≡ attribute.values →
    ◌≡◌ {A = Attribute} (record { type = type; values = values }) attribute
same_attribute type values attribute a b = rw (a, b) refl

attribute_clear : (earlier : List Spot) (spot : Spot) (attribute : Attribute) (attributes : List Attribute) (whole rest : List ℕ) →
    RoomFor earlier (attribute ∷ attributes) → IsAttribute attribute whole → spot.left ≡ whole ++ rest →
    IsClear attribute_fault attribute_at RoomFor earlier spot attribute attributes rest
unfolding attribute_fault
attribute_clear earlier spot attribute attributes whole rest room is joined =
    let sequence = stands spot sequence_tag (concat (is.identifier ∷ is.set ∷ [])) whole rest is.is_sequence joined in
    let identifier = stands (inside spot) object_identifier_tag attribute.type is.identifier (concat (is.set ∷ [])) is.is_identifier sequence.inside_is in
    let set = stands (values_spot spot) set_tag attribute.values is.set [] is.is_set identifier.after_is in
    let values = inside (values_spot spot) in
    let type = fits_here content_type_oid object_identifier_tag earlier spot attribute attributes identifier.content_is room.content_type values set.inside_is in
    let digest = fits_here message_digest_oid octet_string_tag earlier spot attribute attributes identifier.content_is room.digest values set.inside_is in
    let known = is_known (type_at spot) && stands_among earlier (type_at spot) in
    let fresh = is_fresh (type_at spot) earlier (λ this. (type this).0) (λ this. (digest this).0) in
    record {
      no_fault = rw (
        no_part-stands kinds.Der kinds.Shape spot sequence_tag (concat (is.identifier ∷ is.set ∷ [])) whole rest sequence,
        no_part-stands kinds.Der kinds.Shape (inside spot) object_identifier_tag attribute.type is.identifier (concat (is.set ∷ [])) identifier,
        rule_from_holds (not known) kinds.Attribute (inside spot) (not_from_false known fresh),
        no_part-stands kinds.Der kinds.Shape (values_spot spot) set_tag attribute.values is.set [] set,
        values_fit (type_at spot) values (λ this. (type this).1) (λ this. (digest this).1),
        end_from_nothing kinds.Der kinds.Shape (after (values_spot spot)) set.after_is,
      ) refl;
      value_is = same_attribute (type_at spot) (content_at (values_spot spot)) attribute identifier.content_is set.content_is;
      after_is = sequence.after_is;
      some = sequence.is_some;
      room = record {
        content_type = room_next content_type_oid object_identifier_tag earlier spot attribute attributes identifier.content_is room.content_type;
        digest = room_next message_digest_oid octet_string_tag earlier spot attribute attributes identifier.content_is room.digest;
      };
    }

-- the value of a type of which one stands is the one that is found
found_value : (type : List ℕ) (tag : ℕ) (spots : List Spot) (content : List ℕ) → HasOne type tag content (map attribute_at spots) →
    (stands_among spots type ≡ true) × (unwrap_or (value_among spots type) [] ≡ content)
unfolding stands_among value_among value_at
found_value type tag [] content one = absurd (cc one.1)
found_value type tag (spot ∷ later) content one =
    elim (cases_Bool (bytes_eq (type_at spot) type)) [
      | inl is ↦
          let e : content_at (values_spot spot) ∷ values_of type (map attribute_at later) ≡ one.0 ∷ [] = rw is at one.1 in
          let head : content_at (values_spot spot) ≡ one.0 = cc e in
          let value = one_clear tag (inside (values_spot spot)) content one.0 one.2 (inside-left (values_spot spot) ∙ head) in
          (rw is refl, rw is value.1)
      | inr other ↦
          let rest = found_value type tag later content (one.0, rw other at one.1, one.2) in
          (rw other rest.0, rw other rest.1)
    ]

same_known : (whole type digest : List ℕ) (attributes : SignedAttributes) → whole ≡ attributes.whole → type ≡ attributes.content_type →
    digest ≡ attributes.digest → ◌≡◌ {A = SignedAttributes} (record { whole = whole; content_type = type; digest = digest }) attributes
same_known whole type digest attributes a b c = rw (a, b, c) refl

known_clear : (spot : Spot) (attributes : SignedAttributes) (has : HasAttributes context_constructed attributes) (rest : List ℕ) →
    Stands spot context_constructed has.content attributes.whole rest → (known_fault spot ≡ None) × (known_at spot ≡ attributes)
unfolding known_fault known_at value_in has_both
known_clear spot attributes has rest here =
    let list = inside spot in
    let room : RoomFor [] has.each = record {
      content_type = inr (nothing_stands content_type_oid, (attributes.content_type, has.one_content_type));
      digest = inr (nothing_stands message_digest_oid, (attributes.digest, has.one_digest));
    } in
    let each = clear_each attribute_fault IsAttribute attribute_at RoomFor attribute_clear (length list.left) [] list has.each (omega arith)
    (rw here.inside_is has.are_attributes) room in
    let type = found_value content_type_oid object_identifier_tag (spots_from list) attributes.content_type (rw each.1 has.one_content_type) in
    let digest = found_value message_digest_oid octet_string_tag (spots_from list) attributes.digest (rw each.1 has.one_digest) in (
      rw (each.0, type.0, digest.0) refl,
      same_known (whole_at spot) (unwrap_or (value_among (spots_from list) content_type_oid) [])
          (unwrap_or (value_among (spots_from list) message_digest_oid) [])
          attributes here.whole_is type.1 digest.1,
    )

pub attributes_clear : (spot : Spot) (attributes : Option SignedAttributes) (piece rest : List ℕ) → IsAttributesField attributes piece →
    BeginsWithout context_constructed rest → spot.left ≡ piece ++ rest →
    FieldClear (attributes_fault spot) (attributes_at spot) attributes spot context_constructed rest
unfolding attributes_fault attributes_at
attributes_clear spot None piece rest nothing without joined =
    let left = after_nothing piece joined nothing in
    let other = without spot left in
    record { no_fault = rw other refl; value_is = rw other refl; after_is = rw (after_other context_constructed spot other) left }
attributes_clear spot (Some attributes) piece rest is without joined =
    let whole = joined ∙ ap (λ (x : List ℕ). x ++ rest) is.1 in
    let here = stands spot context_constructed is.0.content attributes.whole rest is.0.is_set whole in
    let next = next_stands spot context_constructed is.0.content attributes.whole rest here in
    let known = known_clear spot attributes is.0 rest here in
    record {
      no_fault = rw (next, no_item-stands kinds.Der here, known.0) refl;
      value_is = rw next (ap (λ (x : SignedAttributes). Some x) known.1);
      after_is = rw (after_next context_constructed spot next) here.after_is;
    }
