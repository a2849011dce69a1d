-- Pairs joined by colons, one after another and by place.
use Rattle.std.proofs.Common.{◌≡◌, ℕ, zero, suc, ◌+◌, ◌*◌, ◌<◌, ◌==◌, Bool, true, false, if◌then◌else◌, List, [], ◌∷◌, length, Option, Some, None, IfSome, IsNone, option_and_then, option_map, refl, sym, ap, arith, eq-eqb}
use Rattle.std.proofs.lemmas.Bool.{eqb-true}
use Rattle.std.specs.Prelude.{slice_index}
use Rattle.hex.specs.Hex.{hex_digit_value}
use Rattle.sz_base.specs.Encoding.{IsColonHex, IsPair}
use Rattle.sz_artifacts.specs.Hash.{hash_of_text, pair_of, pairs_of}

-- n pairs, joined by colons, by place
record ArePairs (n : ℕ) (text bytes : List ℕ) : Type 0 where
  size : length text + 1 ≡ 3 * n
  count : length bytes ≡ n
  pairs : (k : ℕ) → k < n → IsPair (slice_index text (3 * k)) (slice_index text (3 * k + 1)) (slice_index bytes k)
  colons : (k : ℕ) → k + 1 < n → slice_index text (3 * k + 2) ≡ 58

pair_of-IsPair : (high low byte : ℕ) → IsPair high low byte → pair_of high low ≡ Some byte
pair_of-IsPair high low byte h = rw (h.high_digit, h.low_digit) (ap Some (sym h.value))

IsPair-pair_of : (high low byte : ℕ) (h l : Option ℕ) → hex_digit_value high ≡ h → hex_digit_value low ≡ l
    → option_and_then (λ a. option_map (λ b. 16 * a + b) l) h ≡ Some byte → IsPair high low byte
IsPair-pair_of high low byte None l eh el e = cc
IsPair-pair_of high low byte (Some a) None eh el e = cc
IsPair-pair_of high low byte (Some a) (Some b) eh el e = record { high_value = a; low_value = b; high_digit = eh; low_digit = el; value = cc }

-- without the first pair and its colon
tail_pairs : (n : ℕ) (high low colon : ℕ) (rest : List ℕ) (byte : ℕ) (bytes : List ℕ) → ArePairs (suc n) (high ∷ low ∷ colon ∷ rest) (byte ∷ bytes)
    → 0 < n → ArePairs n rest bytes
tail_pairs n high low colon rest byte bytes h some = record {
  size = omega (arith, h.size);
  count = omega (arith, h.count);
  pairs = λ k below.
      let one : 3 * suc k + 1 ≡ suc (suc (suc (3 * k + 1))) = omega arith in
      let at : 3 * suc k ≡ suc (suc (suc (3 * k))) = omega arith in
      rw (one, at) at (h.pairs (suc k) (omega arith));
  colons = λ k below.
      let two : 3 * suc k + 2 ≡ suc (suc (suc (3 * k + 2))) = omega arith in
      rw two at (h.colons (suc k) (omega arith));
}

forward : (bytes text : List ℕ) → 0 < length bytes → ArePairs (length bytes) text bytes → pairs_of text ≡ Some bytes
unfolding pairs_of
forward [] text some h = absurd (omega arith)
forward (byte ∷ bytes) [] some h = absurd (omega (arith, h.size))
forward (byte ∷ bytes) (high ∷ []) some h = absurd (omega (arith, h.size))
forward (byte ∷ []) (high ∷ low ∷ []) some h = rw (pair_of-IsPair high low byte (h.pairs 0 (omega arith)))
forward (byte ∷ next ∷ bytes) (high ∷ low ∷ []) some h = absurd (omega (arith, h.size))
forward (byte ∷ []) (high ∷ low ∷ colon ∷ rest) some h = absurd (omega (arith, h.size))
forward (byte ∷ next ∷ bytes) (high ∷ low ∷ colon ∷ rest) some h =
    let mark : colon ≡ 58 = h.colons 0 (omega arith) in
    let first = pair_of-IsPair high low byte (h.pairs 0 (omega arith)) in
    let later = forward (next ∷ bytes) rest (omega arith) (tail_pairs (length (next ∷ bytes)) high low colon rest byte (next ∷ bytes) h (omega arith)) in
    rw (mark, first, later)

-- the text of 32 pairs has the form, for their bytes
pub hash_of_text-pairs : (text bytes : List ℕ) → IsColonHex text bytes → hash_of_text text ≡ Some bytes
unfolding hash_of_text
hash_of_text-pairs text bytes h =
    let size : (length text == 95) ≡ true = eq-eqb (length text) 95 h.size in
    let all : ArePairs (length bytes) text bytes = rw h.count (record {
      size = omega (arith, h.size);
      count = h.count;
      pairs = h.pairs;
      colons = λ k below. h.colons k (omega arith);
    }) in
    rw size (forward bytes text (omega (arith, h.count)) all)

back_at : (colon : Bool) (first : Option ℕ) (later : Option (List ℕ)) (bytes : List ℕ)
    → (if colon then option_and_then (λ byte. option_map (λ more. byte ∷ more) later) first else None) ≡ Some bytes
    → (byte : ℕ) × (more : List ℕ) × (colon ≡ true) × (first ≡ Some byte) × (later ≡ Some more) × (bytes ≡ byte ∷ more)
back_at false first later bytes h = cc
back_at true None later bytes h = cc
back_at true (Some byte) None bytes h = cc
back_at true (Some byte) (Some more) bytes h = (byte, more, refl, refl, refl, cc)

cons_pairs : (n high low colon : ℕ) (rest : List ℕ) (byte : ℕ) (bytes : List ℕ) → IsPair high low byte → colon ≡ 58 → ArePairs n rest bytes
    → ArePairs (suc n) (high ∷ low ∷ colon ∷ rest) (byte ∷ bytes)
cons_pairs n high low colon rest byte bytes first mark h = record {
  size = omega (arith, h.size);
  count = ap suc h.count;
  pairs = pairs_at;
  colons = colons_at;
}
  where
    pairs_at : (k : ℕ) → k < suc n
        → IsPair (slice_index (high ∷ low ∷ colon ∷ rest) (3 * k)) (slice_index (high ∷ low ∷ colon ∷ rest) (3 * k + 1)) (slice_index (byte ∷ bytes) k)
    pairs_at zero below = first
    pairs_at (suc k) below =
        let one : 3 * suc k + 1 ≡ suc (suc (suc (3 * k + 1))) = omega arith in
        let at : 3 * suc k ≡ suc (suc (suc (3 * k))) = omega arith in
        rw (one, at) (h.pairs k (omega arith))

    colons_at : (k : ℕ) → k + 1 < suc n → slice_index (high ∷ low ∷ colon ∷ rest) (3 * k + 2) ≡ 58
    colons_at zero below = mark
    colons_at (suc k) below =
        let two : 3 * suc k + 2 ≡ suc (suc (suc (3 * k + 2))) = omega arith in
        rw two (h.colons k (omega arith))

one_pair : (high low byte : ℕ) → IsPair high low byte → ArePairs 1 (high ∷ low ∷ []) (byte ∷ [])
one_pair high low byte first = record { size = refl; count = refl; pairs = pairs_at; colons = λ k below. absurd (omega arith) }
  where
    pairs_at : (k : ℕ) → k < 1 → IsPair (slice_index (high ∷ low ∷ []) (3 * k)) (slice_index (high ∷ low ∷ []) (3 * k + 1)) (slice_index (byte ∷ []) k)
    pairs_at zero below = first
    pairs_at (suc k) below = absurd (omega arith)

last_at : (first : Option ℕ) (bytes : List ℕ) → option_map (λ byte. byte ∷ []) first ≡ Some bytes → (byte : ℕ) × (first ≡ Some byte) × (bytes ≡ byte ∷ [])
last_at None bytes h = cc
last_at (Some byte) bytes h = (byte, refl, cc)

backward : (text bytes : List ℕ) → pairs_of text ≡ Some bytes → ArePairs (length bytes) text bytes
unfolding pairs_of
backward [] bytes h = cc
backward (high ∷ []) bytes h = cc
backward (high ∷ low ∷ []) bytes h =
    let last = last_at (pair_of high low) bytes h in
    let first = IsPair-pair_of high low last.0 (hex_digit_value high) (hex_digit_value low) refl refl last.1 in
    rw last.2 (one_pair high low last.0 first)
backward (high ∷ low ∷ colon ∷ rest) bytes h =
    let parts = back_at (colon == 58) (pair_of high low) (pairs_of rest) bytes h in
    let mark : colon ≡ 58 = eqb-true colon 58 parts.2 in
    let first = IsPair-pair_of high low parts.0 (hex_digit_value high) (hex_digit_value low) refl refl parts.3 in
    rw parts.5 (cons_pairs (length parts.1) high low colon rest parts.0 parts.1 first mark (backward rest parts.1 parts.4))

sized : (test : Bool) (o : Option (List ℕ)) (bytes : List ℕ) → (if test then o else None) ≡ Some bytes → (test ≡ true) × (o ≡ Some bytes)
sized true o bytes h = (refl, h)
sized false o bytes h = cc

-- a text that has the form is that of 32 pairs, for their bytes
pub IsColonHex-hash_of_text : (text bytes : List ℕ) → hash_of_text text ≡ Some bytes → IsColonHex text bytes
unfolding hash_of_text
IsColonHex-hash_of_text text bytes h =
    let parts = sized (length text == 95) (pairs_of text) bytes h in
    let size : length text ≡ 95 = eqb-true (length text) 95 parts.0 in
    let all = backward text bytes parts.1 in
    let count : length bytes ≡ 32 = omega (arith, all.size) in
    record {
      size = size;
      count = count;
      pairs = λ k below. all.pairs k (omega arith);
      colons = λ k below. all.colons k (omega arith);
    }

none_from : {A : Type 0} (o : Option A) → ((x : A) → o ≡ Some x → ⊥) → o ≡ None
none_from None h = refl
none_from (Some x) h = absurd (h x refl)

-- any other text has it not
pub hash_of_text-none : (text : List ℕ) → ((bytes : List ℕ) → IsColonHex text bytes → ⊥) → hash_of_text text ≡ None
hash_of_text-none text h = none_from (hash_of_text text) (λ bytes e. h bytes (IsColonHex-hash_of_text text bytes e))

-- what `colon_hex` answers
pub answer-hash_of_text : (text : List ℕ) (answer : Option (List ℕ)) → IfSome answer (IsColonHex text)
    → (IsNone answer → (bytes : List ℕ) → IsColonHex text bytes → ⊥) → answer ≡ hash_of_text text
answer-hash_of_text text None some none = sym (hash_of_text-none text (none refl))
answer-hash_of_text text (Some bytes) some none = sym (hash_of_text-pairs text bytes some)
