-- Chains in two parts, and the digits that say where the parts meet.
use Rattle.std.proofs.Common.{◌≡◌, ℕ, zero, suc, ◌+◌, ◌-◌, ◌*◌, ◌/◌, ◌%◌, ◌^◌, ◌<◌, ◌≤◌, List, [], ◌∷◌, length, take, drop, map, fold, refl, sym, ap₂, arith, All, suc-add, add-zero, zero-add, pow_mono, length-take, mul-le-mul_right, pow-suc}
use Rattle.std.specs.List.{flat_map, range_with_len, AllByRecursion}
use Rattle.std.proofs.lemmas.List.Elements.{All-from_recursion, recursion_from_All, All-take, All-drop, All-map}
use Rattle.std.proofs.lemmas.List.FromFn.{length-map-range_with_len}
use Rattle.sha2.proofs.Facts256.{length-sha256}
use Rattle.sz_lms.specs.Bits.{bits_of_byte, digit}
use Rattle.sz_lms.specs.Ots.{chain, chain_step, chain_ends, AreValues}

-- steps after steps are one run of steps
pub chain-add : (id : List ℕ) (q i a b j : ℕ) (value : List ℕ) → chain id q i j (a + b) value ≡ chain id q i (j + a) b (chain id q i j a value)
unfolding chain
chain-add id q i zero b j value = rw (zero-add b, add-zero j) refl
chain-add id q i (suc a) b j value =
    let later : j + suc a ≡ j + 1 + a = omega arith in
    rw (suc-add a b, later) (chain-add id q i a b (j + 1) (chain_step id q i j value))

pub length-chain : (id : List ℕ) (q i n j : ℕ) (value : List ℕ) → length value ≡ 32 → length (chain id q i j n value) ≡ 32
unfolding chain
length-chain id q i zero j value len = len
length-chain id q i (suc n) j value len = length-chain id q i n (j + 1) (chain_step id q i j value) (length-sha256 _)

-- ---- digits

abbrev IsBit : ℕ → Type 0
IsBit bit = bit < 2

AreBits-of_bytes : (bytes : List ℕ) → AllByRecursion IsBit (flat_map bits_of_byte bytes)
AreBits-of_bytes [] = tt
AreBits-of_bytes (byte ∷ bytes) =
    let bit : (n : ℕ) → n % 2 < 2 = λ n. omega arith in (
      bit (byte / 128),
      (
        bit (byte / 64),
        (
          bit (byte / 32),
          (
            bit (byte / 16),
            (bit (byte / 8), (bit (byte / 4), (bit (byte / 2), (bit byte, AreBits-of_bytes bytes)))),
          ),
        ),
      ),
    )

number-below : (bits : List ℕ) (before : ℕ) → AllByRecursion IsBit bits → fold (λ number bit. 2 * number + bit) before bits + 1 ≤ (before + 1) * 2 ^ length bits
number-below [] before small = omega arith
number-below (bit ∷ bits) before small =
    let rest = number-below bits (2 * before + bit) small.1 in
    let here : bit < 2 = small.0 in
    let more = mul-le-mul_right (2 ^ length bits) (let le : 2 * before + bit + 1 ≤ (before + 1) * 2 = omega arith in le) in
    rw pow-suc (omega (arith, rest, more))

-- a digit of w bits is below 2 ^ w
pub digit-below : (w : ℕ) (bytes : List ℕ) (i : ℕ) → digit w bytes i < 2 ^ w
unfolding digit
digit-below w bytes i =
    let bits = take w (drop (w * i) (flat_map bits_of_byte bytes)) in
    let all : All IsBit bits = All-take IsBit w _ (All-drop IsBit (w * i) _ (All-from_recursion IsBit _ (AreBits-of_bytes bytes))) in
    let below = number-below bits 0 (recursion_from_All IsBit bits all) in
    let few : length bits ≤ w = omega (arith, length-take w (drop (w * i) (flat_map bits_of_byte bytes))) in
    let least : 2 ^ length bits ≤ 2 ^ w = pow_mono few in
    omega (arith, below, least)

-- ---- the chains of a signature

-- n chains from chain a on, each after some steps from its start
abbrev pub values_at : List ℕ → ℕ → (ℕ → List ℕ) → (ℕ → ℕ) → ℕ → ℕ → List (List ℕ)
values_at id q start steps a n = map (λ i. chain id q i 0 (steps i) (start i)) (range_with_len a n)

pub AreValues-at : (id : List ℕ) (q : ℕ) (start : ℕ → List ℕ) (steps : ℕ → ℕ) (a n : ℕ)
    → ((i : ℕ) → length (start i) ≡ 32) → AreValues n (values_at id q start steps a n)
AreValues-at id q start steps a n long =
    (length-map-range_with_len _ a n, All-map (λ value. length value ≡ 32) _ (range_with_len a n) (λ k d at. length-chain id q _ _ 0 _ (long _)))

-- what is taken up at its digit ends where the chain ends
pub chain_ends-at : (id : List ℕ) (q w : ℕ) (signed : List ℕ) (start : ℕ → List ℕ) (n a : ℕ)
    → chain_ends id q w signed a (values_at id q start (digit w signed) a n)
    ≡ values_at id q start (λ i. 2 ^ w - 1) a n
unfolding chain_ends
chain_ends-at id q w signed start zero a = refl
chain_ends-at id q w signed start (suc n) a =
    let d = digit w signed a in
    let all : d + (2 ^ w - 1 - d) ≡ 2 ^ w - 1 = omega (arith, digit-below w signed a) in
    let parts = chain-add id q a d (2 ^ w - 1 - d) 0 (start a) in
    let whole : chain id q a d (2 ^ w - 1 - d) (chain id q a 0 d (start a)) ≡ chain id q a 0 (2 ^ w - 1) (start a) = (rw (all, zero-add) at (sym parts)) in
    ap₂ (λ (x : List ℕ) (xs : List (List ℕ)). x ∷ xs) whole (chain_ends-at id q w signed start n (a + 1))
