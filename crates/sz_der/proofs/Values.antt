-- INTEGER values.
use Rattle.std.proofs.Common.{◌≡◌, ℕ, zero, suc, inl, inr, ◌-◌, ◌*◌, ◌^◌, ◌<◌, ◌≤◌, List, [], ◌∷◌, length, get_or, drop, refl, sym, ◌∙◌, arith, pos, ◌-ℤ◌}
use Rattle.std.proofs.Math.Nat.{pow-suc, mul-le-mul_right, pow-le-pow_right}
use Rattle.std.proofs.lemmas.Bool.{lt-ltb, le-ltb, cases_lt, cases_order}
use Rattle.std.proofs.lemmas.Int.{ints}
use Rattle.std.proofs.lemmas.Nat.{mul-add-lt}
use Rattle.sz_der.specs.Der.{number_of, AreOctets}
use Rattle.sz_der.specs.Integer.{integer_of, IsIntegerOf}
use Rattle.sz_der.proofs.Numbers.{number_of-bound, number_of-injective, number_of-lead}

-- a leading zero adds nothing
pub number_of-drop : (octets : List ℕ) → get_or octets 0 0 ≡ 0 → number_of (drop 1 octets) ≡ number_of octets
number_of-drop [] lead = refl
number_of-drop (first ∷ octets) lead = rw lead (omega arith)

pub integer_of-positive : (octets : List ℕ) → get_or octets 0 0 < 128 → integer_of octets ≡ pos (number_of octets)
integer_of-positive octets low = rw (lt-ltb (get_or octets 0 0) 128 low) refl

below_zero : (number power n : ℕ) → number < power → pos number -ℤ pos power ≡ pos n → ⊥
below_zero number power n below same = omega (arith, ints)

-- a first octet from 128 on is that of a number below 0
pub integer_of-negative : (octets : List ℕ) → AreOctets octets → 128 ≤ get_or octets 0 0 → (n : ℕ) → integer_of octets ≡ pos n → ⊥
integer_of-negative octets fits high n same =
    let is = rw (le-ltb (get_or octets 0 0) 128 high) at same in
    below_zero (number_of octets) (256 ^ length octets) n (number_of-bound octets fits) is

-- more than four octets, none of them a leading zero, write more than 32 bits
pub number_of-long : (octets : List ℕ) → 0 < get_or octets 0 0 → 4 < length octets → 4294967296 ≤ number_of octets
number_of-long octets lead long =
    let grows : 256 ^ 4 ≤ 256 ^ (length octets - 1) = pow-le-pow_right {n = 256} (omega arith) {i = 4} {j = length octets - 1} (omega arith) in
    omega (arith, number_of-lead octets lead)

-- and at most four fit
pub number-short : (number count : ℕ) → number < 256 ^ count → count ≤ 4 → number < 4294967296
number-short number count below short =
    let grows : 256 ^ count ≤ 256 ^ 4 = pow-le-pow_right {n = 256} (omega arith) {i = count} {j = 4} (omega arith) in
    omega arith

-- a value from 0 on is what the octets write
pub one_number : (octets : List ℕ) (n : ℕ) → get_or octets 0 0 < 128 → integer_of octets ≡ pos n → number_of octets ≡ n
one_number octets n low same =
    let is : pos (number_of octets) ≡ pos n = sym (integer_of-positive octets low) ∙ same in
    omega (arith, ints)

-- ---- one content

-- a first bit that is clear bounds the number
number_of-below : (octets : List ℕ) → AreOctets octets → 0 < length octets → get_or octets 0 0 < 128 → number_of octets < 128 * 256 ^ (length octets - 1)
number_of-below [] fits some low = absurd (omega arith)
number_of-below (first ∷ octets) fits some low =
    let rest : suc (length octets) - 1 ≡ length octets = omega arith in
    rw rest (omega (arith, mul-add-lt first (256 ^ length octets) (number_of octets) 128 low (number_of-bound octets fits.1)))

-- and so do first nine bits that are not all clear
number_of-from : (octets : List ℕ) → 1 < length octets → (get_or octets 0 0 ≡ 0 → 128 ≤ get_or octets 1 0) → 128 * 256 ^ (length octets - 2) ≤ number_of octets
number_of-from [] some lead = absurd (omega arith)
number_of-from (only ∷ []) some lead = absurd (omega arith)
number_of-from (zero ∷ second ∷ octets) some lead =
    let rest : suc (suc (length octets)) - 2 ≡ length octets = omega arith in
    rw rest (omega (arith, mul-le-mul_right (256 ^ length octets) (lead refl)))
number_of-from (suc first ∷ second ∷ octets) some lead =
    let rest : suc (suc (length octets)) - 2 ≡ length octets = omega arith in
    let one : 1 ≤ suc first = omega arith in
    rw (rest, pow-suc) (omega (arith, mul-le-mul_right (256 ^ suc (length octets)) one, pow-suc 256 (length octets)))

-- a shorter one writes less
shorter_less : (octets other : List ℕ) → AreOctets octets → 0 < length octets → get_or octets 0 0 < 128 →
    (get_or other 0 0 ≡ 0 → 128 ≤ get_or other 1 0) → length octets < length other → number_of octets < number_of other
shorter_less octets other fits some low lead less =
    let grows : 256 ^ (length octets - 1) ≤ 256 ^ (length other - 2) =
    pow-le-pow_right {n = 256} (omega arith) {i = length octets - 1} {j = length other - 2} (omega arith) in
    omega (arith, number_of-below octets fits some low, number_of-from other (omega arith) lead)

-- the first bit of a number from 0 on is clear
first_bit : (n : ℕ) (content : List ℕ) → IsIntegerOf (pos n) content → get_or content 0 0 < 128
first_bit n content is =
    elim (cases_lt (get_or content 0 0) 128) [
      | inl low ↦ low
      | inr high ↦ absurd (integer_of-negative content is.octets high n is.writes)
    ]

pub one_content : (n : ℕ) (content other : List ℕ) → IsIntegerOf (pos n) content → IsIntegerOf (pos n) other → content ≡ other
one_content n content other a b =
    let low = first_bit n content a in
    let other_low = first_bit n other b in
    let same : number_of content ≡ number_of other = one_number content n low a.writes ∙ sym (one_number other n other_low b.writes) in
    elim (cases_order (length content) (length other)) [
      | inl long ↦ number_of-injective content other a.octets b.octets long same
      | inr (inl less) ↦ absurd
          (omega (arith, same, shorter_less content other a.octets a.minimal.some low (b.minimal.not_all_clear (omega (arith, a.minimal.some))) less))
      | inr (inr more) ↦ absurd
          (omega (
            arith,
            same,
            shorter_less other content b.octets b.minimal.some other_low (a.minimal.not_all_clear (omega (arith, b.minimal.some)))
                more,
          ))
    ]
