-- Where the nodes of a tree stand.
use Rattle.std.proofs.Common.{◌≡◌, ℕ, zero, suc, ◌+◌, ◌-◌, ◌*◌, ◌^◌, ◌<◌, ◌≤◌, arith, refl, sym, ap, pow-suc, pow_pos, pow_mono, ◌∙◌, pow-add, mul_comm, mul_assoc, ◌/◌, ◌%◌, inl, inr, bit_xor}
use Rattle.std.proofs.lemmas.Bool.{cases_eq, eq-eqb, ne_eqb}
use Rattle.std.proofs.lemmas.Nat.{le-div, div_below, xor_block}
use Rattle.std.specs.Int.Bits.{xor_zero_r}
use Rattle.sz_lms_tree.specs.Tree.{sibling}
use Rattle.sz_lms_tree.specs.Places.{IsNodeAt}

twice : (height n : ℕ) → suc n ≤ height → 2 ^ (height - n) ≡ 2 * 2 ^ (height - suc n)
twice height n le =
    let e : height - n ≡ suc (height - suc n) = omega arith in
    rw (e, pow-suc) (omega arith)

pub IsNodeAt-left : (height n r : ℕ) → IsNodeAt height (suc n) r → IsNodeAt height n (2 * r)
IsNodeAt-left height n r at =
    let e = twice height n at.below in
    record { below = omega (arith, at.below); first = omega (arith, e, at.first); last = omega (arith, e, at.last) }

pub IsNodeAt-right : (height n r : ℕ) → IsNodeAt height (suc n) r → IsNodeAt height n (2 * r + 1)
IsNodeAt-right height n r at =
    let e = twice height n at.below in
    record { below = omega (arith, at.below); first = omega (arith, e, at.first); last = omega (arith, e, at.last) }

-- no node's number is past the last leaf's
pub IsNodeAt-small : (height n r : ℕ) → IsNodeAt height n r → r < 2 * 2 ^ height
IsNodeAt-small height n r at =
    let few : height - n ≤ height = omega arith in
    let least : 2 ^ (height - n) ≤ 2 ^ height = pow_mono few in
    omega (arith, least, at.last)

-- a node as far to the right as the leaves is a leaf
pub IsNodeAt-leaf : (height n r : ℕ) → IsNodeAt height n r → 2 ^ height ≤ r → n ≡ 0
IsNodeAt-leaf height zero r at far = refl
IsNodeAt-leaf height (suc n) r at far =
    let e = twice height n at.below in
    let few : height - n ≤ height = omega arith in
    let least : 2 ^ (height - n) ≤ 2 ^ height = pow_mono few in
    absurd (omega (arith, e, least, at.last))

-- the node on the way up from a leaf
IsNodeAt-above : (height q n : ℕ) → n ≤ height → q < 2 ^ height → IsNodeAt height n ((2 ^ height + q) / 2 ^ n)
IsNodeAt-above height q n le leaf =
    let whole : n + (height - n) ≡ height = omega arith in
    let parts : 2 ^ height ≡ 2 ^ (height - n) * 2 ^ n = sym (ap (λ (k : ℕ). 2 ^ k) whole) ∙ pow-add 2 n (height - n) ∙ mul_comm (2 ^ n) (2 ^ (height - n)) in
    let twice : 2 * 2 ^ (height - n) * 2 ^ n ≡ 2 * (2 ^ (height - n) * 2 ^ n) = mul_assoc 2 (2 ^ (height - n)) (2 ^ n) in
    record {
      below = le;
      first = le-div _ _ (2 ^ n) (pow_pos n) (omega (arith, parts));
      last = div_below _ (2 ^ n) _ (pow_pos n) (omega (arith, parts, twice));
    }

-- the sibling of a node on the way up
pub IsNodeAt-sibling : (height q n : ℕ) → n < height → q < 2 ^ height → IsNodeAt height n (sibling ((2 ^ height + q) / 2 ^ n))
IsNodeAt-sibling height q n lt leaf =
    let r = (2 ^ height + q) / 2 ^ n in
    let at = IsNodeAt-above height q n (omega arith) leaf in
    let even = twice height n lt in
    elim (cases_eq (r % 2) 0) [
      | inl is ↦ rw (eq-eqb _ _ is) (record { below = at.below; first = omega (arith, at.first); last = omega (arith, at.last, even) })
      | inr odd ↦ rw (ne_eqb _ _ odd) (record { below = at.below; first = omega (arith, at.first, even); last = omega (arith, at.last) })
    ]

pub bit_xor-one : (r : ℕ) → bit_xor r 1 ≡ sibling r
bit_xor-one r =
    let parts : r ≡ r / 2 * 2 ^ 1 + r % 2 = omega arith in
    let split : bit_xor (r / 2 * 2 ^ 1 + r % 2) 1 ≡ bit_xor (r / 2) 0 * 2 ^ 1 + bit_xor (r % 2) 1 =
    xor_block 1 (r / 2) 0 (r % 2) 1 (omega arith) (omega arith) in
    let high : bit_xor (r / 2) 0 ≡ r / 2 = xor_zero_r (r / 2) in
    let all = ap (λ (k : ℕ). bit_xor k 1) parts ∙ split in
    elim (cases_eq (r % 2) 0) [
      | inl is ↦
          let low : bit_xor (r % 2) 1 ≡ 1 = ap (λ (k : ℕ). bit_xor k 1) is in
          rw (eq-eqb _ _ is) (omega (arith, all, high, low))
      | inr odd ↦
          let one : r % 2 ≡ 1 = omega arith in
          let low : bit_xor (r % 2) 1 ≡ 0 = ap (λ (k : ℕ). bit_xor k 1) one in
          rw (ne_eqb _ _ odd) (omega (arith, all, high, low))
    ]
