-- Steps along a chain, one at a time.
use Rattle.std.proofs.Common.{◌≡◌, ℕ, zero, suc, ◌+◌, ◌-◌, ◌*◌, ◌^◌, ◌<◌, ◌≤◌, List, [], ◌∷◌, ◌++◌, length, take, drop, refl, sym, ◌∙◌, ap, append_assoc, arith}
use Rattle.std.proofs.lemmas.List.{append-nil, drop-drop}
use Rattle.std.proofs.Math.Seq.{take-append_seam, drop-append-add}
use Rattle.std.specs.List.{concat}
use Rattle.sz_lms.specs.Bits.{digit, values_of}
use Rattle.sz_lms.specs.Ots.{chain, chain_ends, chain_step}

pub chain-done : (id : List ℕ) (q i j n : ℕ) (value : List ℕ) → n ≡ 0 → chain id q i j n value ≡ value
unfolding chain
chain-done id q i j zero value e = refl
chain-done id q i j (suc n) value e = cc

pub chain-more : (id : List ℕ) (q i j n m : ℕ) (value : List ℕ) → n ≡ suc m →
    chain id q i j n value ≡ chain id q i (j + 1) m (chain_step id q i j value)
unfolding chain
chain-more id q i j zero m value e = cc
chain-more id q i j (suc n) m value e = let h : n ≡ m = omega arith in rw h refl

-- the parts of what a step hashes
pub take-input : (head value : List ℕ) (x n : ℕ) → length head ≡ n → take n (head ++ x ∷ value) ≡ head
take-input head value x n e = rw (← e) (take-append_seam head (x ∷ value))

pub drop-input : (head value : List ℕ) (x n : ℕ) → length head + 1 ≡ n → drop n (head ++ x ∷ value) ≡ value
drop-input head value x n e = rw (← e) (drop-append-add head (x ∷ value) 1)

-- the ends of n chains whose values stand in these bytes, one after another
pub ends-done : (id : List ℕ) (q w : ℕ) (signed : List ℕ) (i n : ℕ) (bytes : List ℕ) → n ≡ 0 →
    concat (chain_ends id q w signed i (values_of n bytes)) ≡ []
unfolding chain_ends values_of
ends-done id q w signed i zero bytes e = refl
ends-done id q w signed i (suc n) bytes e = cc

pub ends-more : (id : List ℕ) (q w : ℕ) (signed : List ℕ) (i n m : ℕ) (bytes : List ℕ) → n ≡ suc m →
    concat (chain_ends id q w signed i (values_of n bytes))
    ≡ chain id q i (digit w signed i) (2 ^ w - 1 - digit w signed i) (take 32 bytes)
    ++ concat (chain_ends id q w signed (i + 1) (values_of m (drop 32 bytes)))
unfolding chain_ends values_of
ends-more id q w signed i zero m bytes e = cc
ends-more id q w signed i (suc n) m bytes e = let h : n ≡ m = omega arith in rw h refl

-- one end more
pub ends-step : (id : List ℕ) (q w : ℕ) (signed : List ℕ) (i p : ℕ) (values ends all : List ℕ) → i < p →
    ends ++ concat (chain_ends id q w signed i (values_of (p - i) (drop (32 * i) values))) ≡ all →
    (ends ++ chain id q i (digit w signed i) (2 ^ w - 1 - digit w signed i) (take 32 (drop (32 * i) values)))
    ++ concat (chain_ends id q w signed (i + 1) (values_of (p - (i + 1)) (drop (32 * (i + 1)) values))) ≡ all
ends-step id q w signed i p values ends all h e =
    let more : p - i ≡ suc (p - (i + 1)) = omega arith in
    let on : 32 * (i + 1) ≡ 32 * i + 32 = omega arith in
    rw (append_assoc, on, ← (drop-drop 32 (32 * i) values))
    (ap (λ rest. ends ++ rest) (sym (ends-more id q w signed i (p - i) (p - (i + 1)) (drop (32 * i) values) more)) ∙ e)

-- no end more
pub ends-end : (id : List ℕ) (q w : ℕ) (signed : List ℕ) (i p : ℕ) (values ends all : List ℕ) → p ≤ i →
    ends ++ concat (chain_ends id q w signed i (values_of (p - i) (drop (32 * i) values))) ≡ all → ends ≡ all
ends-end id q w signed i p values ends all h e =
    let none : p - i ≡ 0 = omega arith in
    sym (append-nil ends) ∙ ap (λ rest. ends ++ rest) (sym (ends-done id q w signed i (p - i) (drop (32 * i) values) none)) ∙ e
