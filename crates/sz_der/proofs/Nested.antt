-- Parts of the bytes, and items at their front.
use Rattle.std.proofs.Common.{◌≡◌, ℕ, suc, ◌+◌, ◌-◌, ◌≤◌, ◌↔◌, List, ◌∷◌, length, take, drop, refl, sym, ap, subst, ◌∙◌, arith, length-append}
use Rattle.std.proofs.lemmas.List.{take-take, drop-take, drop-drop, take_at, drop_at}
use Rattle.sz_der.specs.Der.{StandsAt}
use Rattle.sz_der.specs.Fault.{fault_at, fault_of}
use Rattle.sz_der.specs.Items.{BeginsWith}
use Rattle.sz_der.specs.Nested.{EndsAt}
use Rattle.sz_der.proofs.Places.{BeginsWith_from_StandsAt, StandsAt_from_BeginsWith}

-- a part is what follows its start in the bytes up to its end
part_is : (bytes : List ℕ) (after : ℕ) (part : List ℕ) → EndsAt bytes after part → drop (after - length part) (take after bytes) ≡ part
part_is bytes after part ends =
    let start = after - length part in
    let long : after - (after - length part) ≡ length part = omega (arith, ends.fits) in
    let sum : after ≡ after - length part + length part = omega (arith, ends.fits) in
    let from : ℕ → List ℕ = λ n. drop (after - length part) (take n bytes) in
    ap from sum ∙ drop-take (after - length part) (length part) bytes ∙ rw long at ends.there

part_from : (bytes : List ℕ) (after : ℕ) (part : List ℕ) → length part ≤ after → after ≤ length bytes →
    drop (after - length part) (take after bytes) ≡ part → EndsAt bytes after part
part_from bytes after part fits within is =
    let long : after - (after - length part) ≡ length part = omega arith in
    let sum : after ≡ after - length part + length part = omega arith in
    let from : ℕ → List ℕ = λ n. drop (after - length part) (take n bytes) in
    record {
      fits = fits;
      within = within;
      there = rw long (sym (drop-take (after - length part) (length part) bytes) ∙ sym (ap from sum) ∙ is);
    }

-- what follows a place of the part is what follows its place in the bytes
from_place : (bytes : List ℕ) (after : ℕ) (part : List ℕ) (place : ℕ) → EndsAt bytes after part →
    drop place part ≡ drop (after - length part + place) (take after bytes)
from_place bytes after part place ends =
    ap (λ (x : List ℕ). drop place x) (sym (part_is bytes after part ends)) ∙ drop-drop place (after - length part) (take after bytes)

pub faults_of_part : (bytes part : List ℕ) (after place : ℕ) → EndsAt bytes after part →
    fault_at part place ≡ fault_at (take after bytes) (after - length part + place)
faults_of_part bytes part after place ends = ap fault_of (from_place bytes after part place ends)

-- an item that stands where the same follows
moved : (bytes other : List ℕ) (place there tag : ℕ) (content whole : List ℕ) → drop place bytes ≡ drop there other →
    StandsAt bytes place tag content whole → StandsAt other there tag content whole
moved bytes other place there tag content whole same stands =
    let front = BeginsWith_from_StandsAt bytes place tag content whole stands in
    let fronts : List ℕ → Type 0 = λ (x : List ℕ). BeginsWith x tag content whole (drop (length whole) (drop place bytes)) in
    StandsAt_from_BeginsWith other there tag content whole (drop (length whole) (drop place bytes)) (subst fronts same front)

pub items_of_part : (bytes part : List ℕ) (after place tag : ℕ) (content whole : List ℕ) → EndsAt bytes after part →
    StandsAt part place tag content whole ↔ StandsAt (take after bytes) (after - length part + place) tag content whole
items_of_part bytes part after place tag content whole ends =
    let same = from_place bytes after part place ends in (
      moved part (take after bytes) place (after - length part + place) tag content whole same,
      moved (take after bytes) part (after - length part + place) place tag content whole (sym same),
    )

module _ (bytes part rest : List ℕ) (after tag : ℕ) (content whole : List ℕ) (ends : EndsAt bytes after part)
    (front : BeginsWith part tag content whole rest) where
  lengths : length part ≡ length whole + length rest
  lengths = ap length front.joined ∙ length-append whole rest

  -- the bytes of the part at their place, without an end
  whole_there : take (length whole) (drop (after - length part) bytes) ≡ whole
  whole_there =
      let long : after - (after - length part) ≡ length part = omega (arith, ends.fits) in
      let there : take (length part) (drop (after - length part) bytes) ≡ part = rw long at ends.there in
      let short : length whole ≤ length part = omega (arith, lengths) in
      sym (take-take (length whole) (length part) (drop (after - length part) bytes) short)
      ∙ ap (λ (x : List ℕ). take (length whole) x) (there ∙ front.joined) ∙ take_at whole rest (length whole) refl

  pub front_of_part : StandsAt bytes (after - length part) tag content whole
  front_of_part =
      let long : after - length part + length whole - (after - length part) ≡ length whole = omega arith in
      record { is_item = front.is_item; there = rw long whole_there }

  pub rest_of_part : EndsAt bytes after rest
  rest_of_part =
      let place : after - length rest ≡ after - length part + length whole = omega (arith, lengths, ends.fits) in
      let follows : drop (length whole) part ≡ rest = ap (λ (x : List ℕ). drop (length whole) x) front.joined ∙ drop_at whole rest (length whole) refl in
      let from : ℕ → List ℕ = λ n. drop n (take after bytes) in
      part_from bytes after rest (omega (arith, lengths, ends.fits)) ends.within (ap from place
      ∙ sym (from_place bytes after part (length whole) ends) ∙ follows)

  pub inner_of_part : EndsAt bytes (after - length rest) content
  inner_of_part =
      let size = front.is_item.size in
      let spelled = front.is_item.spelled in
      let long : length whole ≡ suc (length size) + length content = ap length spelled ∙ omega (arith, length-append size content) in
      let end : after - length rest ≡ after - length part + length whole = omega (arith, lengths, ends.fits) in
      let start : after - length rest - length content ≡ after - length part + suc (length size) = omega (arith, long, lengths, ends.fits) in
      let whole_is : drop (after - length part) (take (after - length rest) bytes) ≡ whole =
      rw end (drop-take (after - length part) (length whole) bytes ∙ whole_there) in
      let last : drop (suc (length size)) whole ≡ content = ap (λ (x : List ℕ). drop (suc (length size)) x) spelled
      ∙ drop_at (tag ∷ size) content (suc (length size)) refl in
      let from : ℕ → List ℕ = λ n. drop n (take (after - length rest) bytes) in
      part_from bytes (after - length rest) content (omega (arith, long, lengths, ends.fits)) (omega (arith, ends.within))
      (ap from start ∙ sym (drop-drop (suc (length size)) (after - length part) (take (after - length rest) bytes))
      ∙ ap (λ (x : List ℕ). drop (suc (length size)) x) whole_is ∙ last)
