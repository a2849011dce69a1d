-- An item at a place of the bytes.
use Rattle.std.proofs.Common.{◌≡◌, ℕ, ◌+◌, ◌-◌, ◌≤◌, List, ◌++◌, length, get_or, take, drop, Some, None, refl, sym, ap, subst, ◌∙◌, arith, length-take, length-drop}
use Rattle.std.specs.Prelude.{slice_range}
use Rattle.std.proofs.lemmas.List.{take-append-drop, take_at, take-take, drop-take, drop-drop, get_or-take, length-take-le}
use Rattle.sz_der.specs.Der.{StandsAt}
use Rattle.sz_der.specs.Items.{BeginsWith}
use Rattle.sz_der.specs.Nested.{Extends}
use Rattle.sz_der.specs.declared.fault.DerKind.{DerKind}
use Rattle.sz_der.specs.Fault.{fault_of, header_size, content_size}
use Rattle.sz_der.proofs.Octets.{IsBytes, IsBytes-drop}
use Rattle.sz_der.proofs.Front.{Front, Clear_from_none, none_from_Clear, Der_from_Clear, Front_from_Der}

-- the bytes of a slice at its place
there : (bytes : List ℕ) (place n : ℕ) → n ≤ length (drop place bytes) →
    slice_range bytes place (place + length (take n (drop place bytes))) ≡ take n (drop place bytes)
there bytes place n within =
    let long : place + length (take n (drop place bytes)) - place ≡ n = omega (arith, length-take n (drop place bytes)) in
    rw long refl

-- what follows the place begins with the item that stands there
pub begins : (bytes : List ℕ) (place : ℕ) (whole : List ℕ) → slice_range bytes place (place + length whole) ≡ whole →
    whole ++ drop (length whole) (drop place bytes) ≡ drop place bytes
begins bytes place whole e =
    let long : place + length whole - place ≡ length whole = omega arith in
    let front : take (length whole) (drop place bytes) ≡ whole = rw long at e in
    ap (λ (x : List ℕ). x ++ drop (length whole) (drop place bytes)) (sym front) ∙ take-append-drop (length whole) (drop place bytes)

pub Front_from_StandsAt : (bytes : List ℕ) (place tag : ℕ) (content whole : List ℕ) → StandsAt bytes place tag content whole →
    Front (drop place bytes) tag content whole
Front_from_StandsAt bytes place tag content whole stands =
    let fronts : List ℕ → Type 0 = λ (rest : List ℕ). Front rest tag content whole in
    subst fronts (begins bytes place whole stands.there) (Front_from_Der tag content whole (drop (length whole) (drop place bytes)) stands.is_item)

-- what stands at a place is what the bytes from there on begin with
pub BeginsWith_from_StandsAt : (bytes : List ℕ) (place tag : ℕ) (content whole : List ℕ) →
    StandsAt bytes place tag content whole →
    BeginsWith (drop place bytes) tag content whole (drop (length whole) (drop place bytes))
BeginsWith_from_StandsAt bytes place tag content whole stands =
    record { is_item = stands.is_item; joined = sym (begins bytes place whole stands.there) }

pub StandsAt_from_BeginsWith : (bytes : List ℕ) (place tag : ℕ) (content whole rest : List ℕ) →
    BeginsWith (drop place bytes) tag content whole rest → StandsAt bytes place tag content whole
StandsAt_from_BeginsWith bytes place tag content whole rest front =
    let long : place + length whole - place ≡ length whole = omega arith in
    record {
      is_item = front.is_item;
      there = rw (long, front.joined, take_at whole rest (length whole) refl) refl;
    }

-- What the reader answers, from the rest of the bytes and the extent of the item at their front.
abbrev pub whole_of : List ℕ → ℕ → ℕ → List ℕ
whole_of rest header size = take (header + size) rest

abbrev pub content_of : List ℕ → ℕ → ℕ → List ℕ
content_of rest header size = take (length (whole_of rest header size) - header) (drop header (whole_of rest header size))

pub content_of-is : (rest : List ℕ) (header size : ℕ) → header + size ≤ length rest → content_of rest header size ≡ take size (drop header rest)
content_of-is rest header size within =
    let long : length (take (header + size) rest) - header ≡ size = omega (arith, length-take (header + size) rest) in
    rw (long, drop-take header size rest, take-take size size (drop header rest) (omega arith)) refl

pub tag_of-is : (rest : List ℕ) (header size : ℕ) → 2 ≤ header → get_or (whole_of rest header size) 0 0 ≡ get_or rest 0 0
tag_of-is rest header size some = get_or-take (header + size) rest 0 0 (omega arith)

module _ (bytes : List ℕ) (place : ℕ) (rest : List ℕ) (header size : ℕ) (fits : IsBytes bytes) (rest-is : rest ≡ drop place bytes)
    (header-is : header ≡ header_size rest) (size-is : size ≡ content_size rest) (within : header + size ≤ length rest) where
  pub found : fault_of rest ≡ None → StandsAt bytes place (get_or (whole_of rest header size) 0 0) (content_of rest header size) (whole_of rest header size)
  found none =
      let clear = Clear_from_none rest none in
      let octets : IsBytes rest = rw rest-is (IsBytes-drop place bytes fits) in
      let some : 2 ≤ header = omega arith in
      let within_there : header + size ≤ length (drop place bytes) = rw (← rest-is) within in
      record {
        is_item = rw (tag_of-is rest header size some, content_of-is rest header size within, header-is, size-is) (Der_from_Clear rest octets clear);
        there = rw rest-is (there bytes place (header + size) within_there);
      }

  content_there : slice_range bytes (place + length (whole_of rest header size) - length (content_of rest header size))
      (place + length (whole_of rest header size)) ≡ content_of rest header size
  content_there =
      let long : length (whole_of rest header size) ≡ header + size = length-take-le (header + size) rest within in
      let short : length (content_of rest header size) ≡ size = ap length (content_of-is rest header size within)
      ∙ omega (arith, length-take size (drop header rest), length-drop header rest) in
      let from : place + length (whole_of rest header size) - length (content_of rest header size) ≡ place + header = omega arith in
      let count : place + length (whole_of rest header size) - (place + header) ≡ size = omega arith in
      let part : ℕ → List ℕ = λ start. slice_range bytes start (place + length (whole_of rest header size)) in
      let same : take size (drop (place + header) bytes) ≡ take size (drop header rest) = rw (rest-is, drop-drop header place bytes) refl in
      ap part from ∙ rw count same ∙ sym (content_of-is rest header size within)

  pub extends : Extends bytes place (content_of rest header size) (whole_of rest header size) (place + length (whole_of rest header size))
  extends =
      let long : length (whole_of rest header size) ≡ header + size = length-take-le (header + size) rest within in
      let short : length (content_of rest header size) ≡ size = ap length (content_of-is rest header size within)
      ∙ omega (arith, length-take size (drop header rest), length-drop header rest) in
      let left : length rest ≡ length bytes - place = rw rest-is (length-drop place bytes) in
      record {
        ends = refl;
        holds = record { fits = omega arith; within = omega arith; there = content_there };
      }

  pub only : (tag : ℕ) (content whole : List ℕ) → StandsAt bytes place tag content whole →
      (get_or (whole_of rest header size) 0 0 ≡ tag) × (content_of rest header size ≡ content) × (whole_of rest header size ≡ whole)
  only tag content whole stands =
      let front : Front rest tag content whole = rw rest-is (Front_from_StandsAt bytes place tag content whole stands) in
      let some : 2 ≤ header = omega arith in (
        tag_of-is rest header size some ∙ front.tag_is,
        content_of-is rest header size within ∙ rw (header-is, size-is) front.content_is,
        rw (header-is, size-is) front.whole_is,
      )

pub none_there : (bytes : List ℕ) (place : ℕ) (rest : List ℕ) (kind : DerKind) → rest ≡ drop place bytes → fault_of rest ≡ Some kind →
    (tag : ℕ) (content whole : List ℕ) → StandsAt bytes place tag content whole → ⊥
none_there bytes place rest kind rest-is fault tag content whole stands =
    let none : fault_of rest ≡ None = rw rest-is (none_from_Clear (drop place bytes) (Front_from_StandsAt bytes place tag content whole stands).clear) in
    absurd cc
