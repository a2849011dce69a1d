-- How many marks are left of a text, a byte at a time.
use Rattle.std.proofs.Common.{◌≡◌, ℕ, ◌+◌, ◌<◌, ◌≤◌, ◌==◌, Bool, true, false, cond, if◌then◌else◌, List, [], ◌∷◌, length, drop, get_or, count_by, refl, inl, inr, arith}
use Rattle.std.proofs.lemmas.Bool.{cases_Bool}
use Rattle.std.proofs.lemmas.List.{at_drop_more, at_drop_all}
use Rattle.std.proofs.lemmas.List.Sums.{sum_by-append}
use Rattle.std.specs.List.{list_any}
use Rattle.sz_json.specs.Bounded.{behind, is_mark, left_of, marks_in, without_strings}
use Rattle.sz_json.specs.declared.bounded.Place.{Place}
use Rattle.sz_json.specs.declared.bounded.Place.TheVariants.{Outside, Inside, Escaped}

-- a byte is a mark or none
abbrev pub marks_at : Place → ℕ → ℕ
marks_at place byte = cond (list_any is_mark (left_of place byte)) 1 0

-- how many marks the text has from a place on
abbrev pub marks_from : Place → List ℕ → ℕ
marks_from place [] = 0
marks_from place (byte ∷ text) = marks_at place byte + marks_from (behind place byte) text

left_counted : (quote : Bool) (byte : ℕ) → let left = if quote then [] else byte ∷ [] in count_by is_mark left ≡ cond (list_any is_mark left) 1 0
left_counted true byte = refl
left_counted false byte = elim (cases_Bool (is_mark byte)) [ inl t ↦ rw t | inr f ↦ rw f ]

byte_counted : (place : Place) (byte : ℕ) → count_by is_mark (left_of place byte) ≡ marks_at place byte
byte_counted Outside byte = left_counted (byte == 34) byte
byte_counted Inside byte = refl
byte_counted Escaped byte = refl

counted_from : (place : Place) (text : List ℕ) → count_by is_mark (without_strings place text) ≡ marks_from place text
counted_from place [] = refl
counted_from place (byte ∷ text) =
    let parts = sum_by-append (λ b. cond (is_mark b) 1 0) (left_of place byte) (without_strings (behind place byte) text) in
    omega (arith, parts, byte_counted place byte, counted_from (behind place byte) text)

pub marks_in-from : (text : List ℕ) → marks_in text ≡ marks_from Outside text
unfolding marks_in
marks_in-from text = counted_from Outside text

pub marks_from-drop : (place : Place) (text : List ℕ) (i d : ℕ) → i < length text
    → marks_from place (drop i text) ≡ marks_at place (get_or text i d) + marks_from (behind place (get_or text i d)) (drop (i + 1) text)
marks_from-drop place text i d h = at_drop_more (marks_from place) text i d h

pub marks_from-end : (place : Place) (text : List ℕ) (i : ℕ) → length text ≤ i → marks_from place (drop i text) ≡ 0
marks_from-end place text i h = at_drop_all (marks_from place) text i h

-- one byte on
pub one_more : (place next : Place) (text : List ℕ) (i total marks : ℕ) (is : Bool) → i < length text → total ≡ marks + marks_from place (drop i text)
    → is ≡ list_any is_mark (left_of place (get_or text i 0)) → next ≡ behind place (get_or text i 0)
    → total ≡ marks + cond is 1 0 + marks_from next (drop (i + 1) text)
one_more place next text i total marks is h counted told there =
    let step = marks_from-drop place text i 0 h in
    rw (there, told) (omega (arith, step, counted))
