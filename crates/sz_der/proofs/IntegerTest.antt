-- The test of an INTEGER says what the definition of its type says.
use Rattle.std.specs.Prelude.{◌==◌, nat_lt, nat_le}
use Rattle.std.proofs.Common.{◌≡◌, ℕ, inl, inr, ◌<◌, ◌≤◌, true, false, ◌&&◌, List, [], ◌∷◌, refl, arith}
use Rattle.std.proofs.lemmas.Bool.{eq-eqb, ne_eqb, lt-ltb, le-ltb, le-leb, lt-leb, cases_lt, cases_eq, or_left, or_right, or_from, and_from, and_left, and_right, not-true, not_from_false, both_ways}
use Rattle.sz_der.specs.Integer.{is_integer, is_redundant, IsInteger}

not_redundant : (first second : ℕ) → is_redundant first second ≡ false → (first ≡ 0 → 128 ≤ second) × (first ≡ 255 → second < 128)
not_redundant first second e = (
  (λ is. elim (cases_lt second 128) [
    | inl low ↦ absurd (both_ways _ e (or_left _ _ (and_from _ _ (eq-eqb first 0 is) (lt-ltb second 128 low))))
    | inr high ↦ high
  ]),
  (λ is. elim (cases_lt second 128) [
    | inl low ↦ low
    | inr high ↦ absurd (both_ways _ e (or_right _ _ (and_from _ _ (eq-eqb first 255 is) (le-leb 128 second high))))
  ]),
)

pub IsInteger_from_test : (content : List ℕ) → is_integer content ≡ true → IsInteger content
IsInteger_from_test [] e = absurd cc
IsInteger_from_test (first ∷ []) e = record {
  some = omega arith;
  not_all_clear = λ long. absurd (omega arith);
  not_all_set = λ long. absurd (omega arith);
}
IsInteger_from_test (first ∷ second ∷ octets) e =
    let told = not_redundant first second (not-true (is_redundant first second) e) in
    record { some = omega arith; not_all_clear = λ long. told.0; not_all_set = λ long. told.1 }

redundant_not : (first second : ℕ) → (first ≡ 0 → 128 ≤ second) → (first ≡ 255 → second < 128) → is_redundant first second ≡ false
redundant_not first second clear set =
    or_from (first == 0 && nat_lt second 128) (first == 255 && nat_le 128 second) (elim (cases_eq first 0) [
      | inl is ↦ and_right (first == 0) (nat_lt second 128) (le-ltb second 128 (clear is))
      | inr not_is ↦ and_left (first == 0) (nat_lt second 128) (ne_eqb first 0 not_is)
    ]) (elim (cases_eq first 255) [
      | inl is ↦ and_right (first == 255) (nat_le 128 second) (lt-leb 128 second (set is))
      | inr not_is ↦ and_left (first == 255) (nat_le 128 second) (ne_eqb first 255 not_is)
    ])

pub integer_test : (content : List ℕ) → IsInteger content → is_integer content ≡ true
integer_test [] is = absurd (omega (arith, is.some))
integer_test (first ∷ []) is = refl
integer_test (first ∷ second ∷ octets) is =
    not_from_false (is_redundant first second)
    (redundant_not first second (is.not_all_clear (omega arith)) (is.not_all_set (omega arith)))
