-- Pairs of hexadecimal digits, as `hex` reads them one by one.
use Rattle.std.proofs.Common.{◌≡◌, ◌≢◌, inl, inr, ℕ, ◌+◌, ◌*◌, ◌<◌, List, [], ◌∷◌, Option, Some, None, Result, Ok, length, slice_index, refl, sym, ap, ◌∙◌, arith}
use Rattle.std.proofs.lemmas.Bool.{cases_lt}
use Rattle.std.proofs.lemmas.List.{get_or-set_other, get_or-set_same, length-set}
use Rattle.std.specs.Prelude.{slice_set as set}
use Rattle.hex.specs.Hex.{decode_pairs, decode_sized, digit_or_error, hex_digit_value, ◌>>=◌}
use Rattle.hex.specs.declared.error.FromHexError.{FromHexError}
use Rattle.sz_base.specs.Encoding.{IsPair}

-- the pairs below n are read, with the colons after them
pub record AreReadUpTo (text bytes : List ℕ) (n : ℕ) : Type 0 where
  pub size : length text ≡ 95
  pub count : length bytes ≡ 32
  pub pairs : (k : ℕ) → k < n
      → IsPair (slice_index text (3 * k)) (slice_index text (3 * k + 1)) (slice_index bytes k)
  pub colons : (k : ℕ) → k < n → k < 31 → slice_index text (3 * k + 2) ≡ 58

-- what two digits decode to, from what each of them stands for
abbrev read_of : ℕ → ℕ → Option ℕ → Option ℕ → Result (List ℕ) FromHexError
read_of a b x y = do
  byte ← do
    h ← digit_or_error a 0 x
    l ← digit_or_error b 1 y
    Ok (h * 16 + l)
  Ok (byte ∷ [])

read_ok : (a b : ℕ) (x y : Option ℕ) (bytes : List ℕ) → read_of a b x y ≡ Ok bytes
    → (h : ℕ) × (l : ℕ) × (x ≡ Some h) × (y ≡ Some l) × ((h * 16 + l) ∷ [] ≡ bytes)
read_ok a b (Some h) (Some l) bytes e = (h, l, refl, refl, cc e)
read_ok a b (Some h) None bytes e = cc e
read_ok a b None y bytes e = cc e

read_some : (a b h l : ℕ) (x y : Option ℕ) → x ≡ Some h → y ≡ Some l → read_of a b x y ≡ Ok ((h * 16 + l) ∷ [])
read_some a b h l x y p q = rw (p, q) refl

two_digits : (a b : ℕ) → decode_sized (a ∷ b ∷ []) 1 ≡ read_of a b (hex_digit_value a) (hex_digit_value b)
unfolding decode_pairs
two_digits a b = refl

abbrev ok_of : List ℕ → Result (List ℕ) FromHexError
ok_of bytes = Ok bytes

-- the pair of what decodes
pub pair_some : (a b : ℕ) (bytes : List ℕ) → decode_sized (a ∷ b ∷ []) 1 ≡ Ok bytes → IsPair a b (slice_index bytes 0)
pair_some a b bytes e =
    let p = read_ok a b (hex_digit_value a) (hex_digit_value b) bytes (sym (two_digits a b) ∙ e) in
    let value : slice_index bytes 0 ≡ p.0 * 16 + p.1 = ap (λ (xs : List ℕ). slice_index xs 0) (sym p.4) in
    record { high_value = p.0; low_value = p.1; high_digit = p.2; low_digit = p.3; value = omega (arith, value) }

-- a pair decodes
pub pair_decodes : (a b byte : ℕ) → IsPair a b byte → decode_sized (a ∷ b ∷ []) 1 ≡ Ok (byte ∷ [])
pair_decodes a b byte p =
    let value : p.high_value * 16 + p.low_value ≡ byte = omega (arith, p.value) in
    two_digits a b
    ∙ read_some a b p.high_value p.low_value (hex_digit_value a) (hex_digit_value b) p.high_digit p.low_digit
    ∙ ap (λ (n : ℕ). ok_of (n ∷ [])) value

-- one pair more
pub AreReadUpTo-more : (text bytes : List ℕ) (n byte : ℕ) → n < 32 → AreReadUpTo text bytes n
    → IsPair (slice_index text (3 * n)) (slice_index text (3 * n + 1)) byte
    → (n < 31 → slice_index text (3 * n + 2) ≡ 58)
    → AreReadUpTo text (set bytes n byte) (n + 1)
AreReadUpTo-more text bytes n byte low h pair colon = record {
  size = h.size;
  count = length-set bytes n byte ∙ h.count;
  pairs = λ k at. elim (cases_lt k n) [
    | inl below ↦
        let other : k ≢ n = omega arith in
        rw (get_or-set_other bytes n k byte 0 other) (h.pairs k below)
    | inr top ↦
        let same : k ≡ n = omega arith in
        let inside : n < length bytes = omega (arith, h.count) in
        rw (same, get_or-set_same bytes n byte 0 inside) pair
  ];
  colons = λ k at more. elim (cases_lt k n) [
    | inl below ↦ h.colons k below more
    | inr top ↦
        let same : k ≡ n = omega arith in
        rw same (colon (omega arith))
  ];
}
