-- Steps of a reader, by the spots before and after them.
use Rattle.std.specs.Prelude.{◌==◌, bytes_eq, IfErr, IsErrAnd, slice_get}
use Rattle.std.proofs.Common.{◌≡◌, ℕ, ◌-◌, Bool, true, false, List, [], ◌∷◌, length, Option, Some, None, Result, Ok, Err, refl, sym, ap, ◌∙◌, arith, length-append}
use Rattle.std.proofs.lemmas.Bool.{false_from_ne_true, ne_eqb, eq-eqb, eqb-true, true≢false}
use Rattle.sz_der.specs.Reader.{IsFrontFault, TakesItem}
use Rattle.sz_der.specs.Spots.{after, at, content_at, front, inside, is_at_end, is_next, IsItemAt, no_item, no_part, place_at, Spot, spot_of, tag_at}
use Rattle.sz_der.specs.declared.fault.DerFault.{DerFault}
use Rattle.sz_der.specs.declared.item.Item.{Item}
use Rattle.sz_der.specs.declared.reader.DerReader.{DerReader}
use Rattle.sz_der.specs.declared.parts.PartFault.{PartFault}
use Rattle.sz_der.proofs.Spots.{item_of_part, Stands, stands}

-- a step that hands a fault on
pub exit : {K T : Type 0} (result : Result T (PartFault K)) (found : Option (K × ℕ)) (fault : PartFault K) → IsErrAnd result (λ e. e ≡ fault) →
    found ≡ Some (at fault) → IfErr result (λ e. found ≡ Some (at e))
exit (Ok value) found fault is h = absurd is
exit (Err e) found fault is h = rw is h

-- a fault that is answered at the item is the one that was found
pub found_is : {K : Type 0} {fault : PartFault K} {found : K × ℕ} → at fault ≡ found → Some found ≡ Some (at fault)
found_is {K} is = ap (λ (x : K × ℕ). Some x) (sym is)

-- ---- an item that a reader takes

module _ (old new : DerReader) (tag : ℕ) (content whole : List ℕ) (end : ℕ) (taken : TakesItem old.end old.left.now new.left.now tag content whole end)
    (stays : new.end ≡ old.end) where
  pub here : Stands (spot_of old) tag content whole new.left.now
  unfolding spot_of
  here = stands (spot_of old) tag content whole new.left.now taken.item.is_item taken.item.joined

  pub next_spot : spot_of new ≡ after (spot_of old)
  unfolding spot_of after
  next_spot = rw (stays, here.after_is) refl

  pub place_after : end ≡ place_at (after (spot_of old))
  unfolding spot_of after place_at
  place_after = rw here.after_is taken.ends

  pub place_before : end - length whole ≡ place_at (spot_of old)
  unfolding spot_of place_at
  place_before = omega (arith, taken.ends, ap length taken.item.joined, length-append whole new.left.now)

pub item_there : (old new : DerReader) (item : Item) → TakesItem old.end old.left.now new.left.now item.tag item.content.now item.whole.now item.after →
    new.end ≡ old.end → IsItemAt (spot_of old) item
item_there old new item taken stays =
    let is = here old new item.tag item.content.now item.whole.now item.after taken stays in
    record {
      tag = sym is.tag_is;
      content = sym is.content_is;
      whole = sym is.whole_is;
      ends = place_after old new item.tag item.content.now item.whole.now item.after taken stays;
      begins = place_before old new item.tag item.content.now item.whole.now item.after taken stays;
    }

pub fault_there : {K : Type 0} (broken : K) (reader : DerReader) (fault : DerFault) → IsFrontFault reader.end reader.left.now fault →
    no_item broken (spot_of reader) ≡ Some (broken, fault.place)
unfolding no_item spot_of place_at
fault_there broken reader fault is = rw (is.kind, is.place) refl

-- what is left inside an item
pub reader_inside : (spot : Spot) (item : Item) (reader : DerReader) → IsItemAt spot item → reader.left.now ≡ item.content.now → reader.end ≡ item.after →
    spot_of reader ≡ inside spot
unfolding spot_of inside
reader_inside spot item reader is left end = rw (left, end, is.content, is.ends) refl

-- ---- parts

pub part_no_item : {K : Type 0} (broken other : K) (tag : ℕ) (spot : Spot) (fault : K × ℕ) → no_item broken spot ≡ Some fault →
    no_part broken other tag spot ≡ Some fault
unfolding no_part
part_no_item broken other tag spot fault h = rw h refl

pub part_is : {K : Type 0} (broken other : K) (tag : ℕ) (spot : Spot) (item : Item) → no_item broken spot ≡ None → IsItemAt spot item →
    item.tag ≡ tag → no_part broken other tag spot ≡ None
unfolding no_part
part_is broken other tag spot item h is same = rw (h, eq-eqb (tag_at spot) tag (sym is.tag ∙ same)) refl

pub part_is_not : {K : Type 0} (broken other : K) (tag : ℕ) (spot : Spot) (item : Item) → no_item broken spot ≡ None → IsItemAt spot item →
    (item.tag ≡ tag → ⊥) → no_part broken other tag spot ≡ Some (other, place_at spot)
unfolding no_part
part_is_not broken other tag spot item h is differs = rw (h, ne_eqb (tag_at spot) tag (λ e. differs (is.tag ∙ e))) refl

-- the tag of a part
pub part_tag : {K : Type 0} (broken other : K) (tag : ℕ) (spot : Spot) (item : Item) → no_part broken other tag spot ≡ None → IsItemAt spot item →
    item.tag ≡ tag
part_tag broken other tag spot item h is = is.tag ∙ (item_of_part broken other tag spot h).1

-- a test of the content that the reader's item fails or passes
pub fails : (test : List ℕ → Bool) (spot : Spot) (item : Item) → IsItemAt spot item → (test item.content.now ≡ true → ⊥) → test (content_at spot) ≡ false
fails test spot item is refused = false_from_ne_true (test (content_at spot)) (λ e. refused (ap test is.content ∙ e))

pub passes : (test : List ℕ → Bool) (spot : Spot) (item : Item) → IsItemAt spot item → test item.content.now ≡ true → test (content_at spot) ≡ true
passes test spot item is h = sym (ap test is.content) ∙ h

-- ---- the end

empty_end : (bytes : List ℕ) (spot : Spot) → spot.left ≡ bytes → is_at_end spot ≡ true → bytes ≡ []
unfolding is_at_end
empty_end [] spot left e = refl
empty_end (byte ∷ bytes) spot left e = absurd (omega (arith, ap length left, eqb-true (length spot.left) 0 e))

-- a reader that is not at its end
pub not_at_end : (reader : DerReader) (answer : Bool) → ((answer ≡ true → reader.left.now ≡ []) × (reader.left.now ≡ [] → answer ≡ true)) →
    answer ≡ false → is_at_end (spot_of reader) ≡ false
unfolding spot_of
not_at_end reader answer iff more =
    false_from_ne_true (is_at_end (spot_of reader)) (λ e. true≢false (sym (iff.1 (empty_end reader.left.now (spot_of reader) refl e)) ∙ more))

pub at_end_is : (reader : DerReader) → reader.left.now ≡ [] → is_at_end (spot_of reader) ≡ true
unfolding spot_of is_at_end
at_end_is reader nothing = rw nothing refl

-- whether the first byte that is left is this tag
first_byte : (bytes : List ℕ) (spot : Spot) (tag first : ℕ) → spot.left ≡ bytes → Some first ≡ slice_get bytes 0 → (first == tag) ≡ is_next tag spot
unfolding is_next is_at_end tag_at
first_byte [] spot tag first left e = absurd cc
first_byte (byte ∷ bytes) spot tag first left e =
    let same : first ≡ byte = cc in
    let some : length spot.left ≡ 0 → ⊥ = λ none. omega (arith, ap length left) in
    rw (ne_eqb (length spot.left) 0 some, left, same) refl

pub next_byte : (reader : DerReader) (tag first : ℕ) → Some first ≡ slice_get reader.left.now 0 → (first == tag) ≡ is_next tag (spot_of reader)
unfolding spot_of
next_byte reader tag first e = first_byte reader.left.now (spot_of reader) tag first refl e

no_byte : (bytes : List ℕ) (spot : Spot) (tag : ℕ) → spot.left ≡ bytes → ◌≡◌ {A = Option ℕ} None (slice_get bytes 0) → false ≡ is_next tag spot
unfolding is_next is_at_end
no_byte [] spot tag left e = rw left refl
no_byte (byte ∷ bytes) spot tag left e = absurd cc

pub no_next_byte : (reader : DerReader) (tag : ℕ) → ◌≡◌ {A = Option ℕ} None (slice_get reader.left.now 0) → false ≡ is_next tag (spot_of reader)
unfolding spot_of
no_next_byte reader tag e = no_byte reader.left.now (spot_of reader) tag refl e

-- a content that the reader compares with a constant
pub same_content : (spot : Spot) (item : Item) (other given : List ℕ) → IsItemAt spot item → given ≡ other →
    bytes_eq (content_at spot) other ≡ bytes_eq item.content.now given
same_content spot item other given is same = rw (same, is.content) refl

-- a reader over all bytes
pub outer_at : (bytes : List ℕ) (reader : DerReader) → reader.left.now ≡ bytes → reader.end ≡ length bytes → spot_of reader ≡ front bytes
unfolding spot_of front
outer_at bytes reader left end = rw (left, end) refl
