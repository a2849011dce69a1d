-- Numbers that octets write.
use Rattle.std.proofs.Common.{◌≡◌, true, false, ltb, ℕ, zero, suc, ◌+◌, ◌-◌, ◌*◌, ◌^◌, ◌<◌, ◌≤◌, inl, inr, List, [], ◌∷◌, ◌++◌, length, get_or, take, refl, sym, ap, ◌∙◌, arith, length-append, add-one}
use Rattle.std.proofs.Math.Bool.{or-true}
use Rattle.std.proofs.Math.Nat.{pow-suc, mul-le-mul_right, pow-le-pow_right}
use Rattle.std.proofs.lemmas.Bool.{lt-ltb, le-ltb, cases_order}
use Rattle.std.proofs.lemmas.Nat.{mul-add-lt}
use Rattle.std.proofs.lemmas.List.{take_more}
use Rattle.sz_der.specs.Der.{number_of, AreOctets}
use Rattle.sz_der.specs.Fault.{is_padded}

number_of-push : (octets : List ℕ) (octet : ℕ) → number_of (octets ++ octet ∷ []) ≡ number_of octets * 256 + octet
number_of-push [] octet = omega arith
number_of-push (first ∷ octets) octet =
    let longer : length (octets ++ octet ∷ []) ≡ suc (length octets) = omega (arith, length-append octets (octet ∷ [])) in
    rw (longer, pow-suc, number_of-push octets octet) (omega arith)

-- one octet more of a list
pub number_of_more : (octets : List ℕ) (i : ℕ) → i < length octets → number_of (take (i + 1) octets) ≡ number_of (take i octets) * 256 + get_or octets i 0
number_of_more octets i here = ap number_of (take_more octets i 0 here) ∙ number_of-push (take i octets) (get_or octets i 0)

pub number_of-bound : (octets : List ℕ) → AreOctets octets → number_of octets < 256 ^ length octets
number_of-bound [] octets = omega arith
number_of-bound (first ∷ octets) (small, others) =
    rw pow-suc (mul-add-lt first (256 ^ length octets) (number_of octets) 256 small (number_of-bound octets others))

rest_same : (first second power rest other : ℕ) → first ≡ second → first * power + rest ≡ second * power + other → rest ≡ other
rest_same first second power rest other leads sums =
    let same : second * power + rest ≡ second * power + other = rw leads at sums in
    omega arith

-- as many octets that write one number are the same
pub number_of-injective : (octets other : List ℕ) → AreOctets octets → AreOctets other → length octets ≡ length other →
    number_of octets ≡ number_of other → octets ≡ other
number_of-injective [] [] fits other_fits long same = refl
number_of-injective [] (second ∷ other) fits other_fits long same = absurd (omega arith)
number_of-injective (first ∷ octets) [] fits other_fits long same = absurd (omega arith)
number_of-injective (first ∷ octets) (second ∷ other) fits other_fits long same =
    let as_long : length octets ≡ length other = omega arith in
    let power : 256 ^ length octets ≡ 256 ^ length other = ap (λ n. 256 ^ n) as_long in
    let bound = number_of-bound octets fits.1 in
    let other_bound = number_of-bound other other_fits.1 in
    let here : number_of other < 256 ^ length octets = omega arith in
    let sums : first * 256 ^ length octets + number_of octets ≡ second * 256 ^ length octets + number_of other = same
    ∙ ap (λ n. second * n + number_of other) (sym power) in
    elim (cases_order first second) [
      | inl leads ↦
          let rest : number_of octets ≡ number_of other = rest_same first second (256 ^ length octets) (number_of octets) (number_of other) leads sums in
          ap (λ (x : ℕ). x ∷ octets) leads ∙ ap (λ (x : List ℕ). second ∷ x) (number_of-injective octets other fits.1 other_fits.1 as_long rest)
      | inr (inl less) ↦ absurd (omega (arith, mul-add-lt first (256 ^ length octets) (number_of octets) second less bound))
      | inr (inr more) ↦ absurd (omega (arith, mul-add-lt second (256 ^ length octets) (number_of other) first more here))
    ]

-- four octets fit a word of 64 bits
pub step_fits : (i number : ℕ) → i ≤ 3 → number < 256 ^ i → number * 256 < 4294967296
step_fits zero number h below = omega arith
step_fits (suc zero) number h below = omega arith
step_fits (suc (suc zero)) number h below = omega arith
step_fits (suc (suc (suc zero))) number h below = omega arith
step_fits (suc (suc (suc (suc i)))) number h below = absurd (omega arith)

pub step_below : (i number octet : ℕ) → octet < 256 → number < 256 ^ i → number * 256 + octet < 256 ^ (i + 1)
step_below i number octet small below =
    rw (add-one, pow-suc) (omega (arith, mul-add-lt number 256 octet (256 ^ i) below small))

-- a leading zero could be left out
number_of-padded : (octets : List ℕ) → AreOctets octets → 0 < length octets → get_or octets 0 0 ≡ 0 → number_of octets < 256 ^ (length octets - 1)
number_of-padded [] fits some lead = absurd (omega arith)
number_of-padded (first ∷ octets) (small, others) some lead =
    let rest : suc (length octets) - 1 ≡ length octets = omega arith in
    rw (rest, lead) (omega (arith, number_of-bound octets others))

-- and any other leading octet is needed
pub number_of-lead : (octets : List ℕ) → 0 < get_or octets 0 0 → 256 ^ (length octets - 1) ≤ number_of octets
number_of-lead [] lead = absurd (omega arith)
number_of-lead (first ∷ octets) lead =
    let rest : suc (length octets) - 1 ≡ length octets = omega arith in
    rw rest (omega (arith, mul-le-mul_right (256 ^ length octets) lead))

pub is_padded-zero : (octets : List ℕ) → AreOctets octets → 0 < length octets → get_or octets 0 0 ≡ 0 → is_padded octets ≡ true
is_padded-zero octets fits some lead =
    rw (lt-ltb (number_of octets) (256 ^ (length octets - 1)) (number_of-padded octets fits some lead)) (or-true (ltb (number_of octets) 128))

number_of-needed : (octets : List ℕ) → 0 < get_or octets 0 0 → (length octets ≡ 1 → 128 ≤ get_or octets 0 0) → 128 ≤ number_of octets
number_of-needed [] lead one = absurd (omega arith)
number_of-needed (only ∷ []) lead one = omega (arith, one refl)
number_of-needed (first ∷ second ∷ octets) lead one =
    let rest : suc (suc (length octets)) - 1 ≡ suc (length octets) = omega arith in
    let low : 256 ^ suc (length octets) ≤ number_of (first ∷ second ∷ octets) = rw rest at (number_of-lead (first ∷ second ∷ octets) lead) in
    let high : 256 ≤ 256 ^ suc (length octets) = pow-le-pow_right {n = 256} (omega arith) {i = 1} {j = suc (length octets)} (omega arith) in
    omega arith

pub is_padded-not : (octets : List ℕ) → 0 < get_or octets 0 0 → (length octets ≡ 1 → 128 ≤ get_or octets 0 0) → is_padded octets ≡ false
is_padded-not octets lead one =
    rw (
      le-ltb (number_of octets) 128 (number_of-needed octets lead one),
      le-ltb (number_of octets) (256 ^ (length octets - 1)) (number_of-lead octets lead),
    ) refl
