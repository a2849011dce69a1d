-- Bits of a number as places of a set.
use Rattle.std.proofs.Common.{◌≡◌, ◌<◌, ◌≤◌, ◌*◌, ◌/◌, ◌%◌, ◌^◌, ◌||◌, ◌==◌, ℕ, zero, suc, max, Bool, true, false, MatchBool, nat_eq, bit_or, w64, refl, sym, ap, ◌∙◌, subst, inl, inr, arith, eq-eqb, ne_eqb}
use Rattle.std.proofs.lemmas.Bool.{cases_eq, or_left}
use Rattle.std.proofs.lemmas.Nat.Bits.{bit_at-lt, bit_at-suc, bit_at-zero, bit_at_lowest, bit_at_or, bit_at_set_other, bit_at_set_same}
use Rattle.std.specs.Int.{bit_at}

pub with_bit : (bits place other : ℕ) → place < 64 →
    (bit_at (bit_or bits (1 * 2 ^ place % 18446744073709551616)) other == 1) ≡ (other == place || (bit_at bits other == 1))
with_bit bits place other within =
    elim (cases_eq other place) [
      | inl eq ↦
          subst (λ (k : ℕ). (bit_at (bit_or bits (1 * 2 ^ place % 18446744073709551616)) k == 1) ≡ (k == place || (bit_at bits k == 1))) (sym eq)
          (ap (λ (n : ℕ). n == 1) (bit_at_set_same w64 bits place within) ∙ sym (or_left (place == place) (bit_at bits place == 1) (eq-eqb place place refl)))
      | inr ne ↦
          ap (λ (n : ℕ). n == 1) (bit_at_set_other w64 bits place within other ne)
          ∙ sym (ap (λ (b : Bool). b || (bit_at bits other == 1)) (ne_eqb other place ne))
    ]

either_bit : (x y : ℕ) → x < 2 → y < 2 → (max x y == 1) ≡ (x == 1 || y == 1)
either_bit x y p q =
    elim (cases_eq x 1) [
      | inl eq ↦
          let m : max x y ≡ 1 = omega arith in
          eq-eqb (max x y) 1 m ∙ sym (or_left (x == 1) (y == 1) (eq-eqb x 1 eq))
      | inr ne ↦
          let m : max x y ≡ y = omega arith in
          ap (λ (n : ℕ). n == 1) m ∙ sym (ap (λ (b : Bool). b || (y == 1)) (ne_eqb x 1 ne))
    ]

pub or_bits : (one other place : ℕ) → (bit_at (bit_or one other) place == 1) ≡ (bit_at one place == 1 || bit_at other place == 1)
or_bits one other place =
    ap (λ (n : ℕ). n == 1) (bit_at_or one other place) ∙ either_bit (bit_at one place) (bit_at other place) (bit_at-lt one place) (bit_at-lt other place)

some_bit : (fuel n : ℕ) → n ≤ fuel → 0 < n → (place : ℕ) × (bit_at n place ≡ 1)
some_bit zero n few some = absurd (omega arith)
some_bit (suc fuel) n few some =
    elim (cases_eq (n % 2) 1) [
      | inl odd ↦ (0, bit_at_lowest n ∙ odd)
      | inr even ↦
          let rest = some_bit fuel (n / 2) (omega arith) (omega arith) in
          (suc rest.0, bit_at-suc n rest.0 ∙ rest.1)
    ]

pub empty_bits : (bits : ℕ) → MatchBool (nat_eq bits 0) ((place : ℕ) → (bit_at bits place == 1) ≡ false) ((place : ℕ) × ((bit_at bits place == 1) ≡ true))
empty_bits bits =
    elim (cases_eq bits 0) [
      | inl none ↦ rw (eq-eqb bits 0 none) (λ place. ap (λ (n : ℕ). bit_at n place == 1) none ∙ ap (λ (n : ℕ). n == 1) (bit_at-zero place))
      | inr some ↦
          let bit = some_bit bits bits (omega arith) (omega arith) in
          rw (ne_eqb bits 0 some) (bit.0, eq-eqb (bit_at bits bit.0) 1 bit.1)
    ]
