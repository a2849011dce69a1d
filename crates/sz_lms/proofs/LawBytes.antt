-- Lists of bytes cut at places: a number in four bytes, and values of 32 bytes.
use Rattle.std.proofs.Common.{◌≡◌, ℕ, zero, suc, ◌+◌, ◌*◌, ◌^◌, ◌<◌, ◌≤◌, ◌⊎◌, inl, inr, List, [], ◌∷◌, ◌++◌, length, get_or, take, drop, All, sym, refl, ap, ◌∙◌, arith, take-add, length-take-le, length-take, length-drop, length-append, take_at, drop_at, drop-drop, get_or-take, get_or-drop, append_assoc}
use Rattle.std.proofs.lemmas.Bool.{cases_lt}
use Rattle.std.proofs.lemmas.List.{get_or_past}
use Rattle.std.proofs.lemmas.List.Elements.{All-nil, All-cons, All-head, All-tail}
use Rattle.std.proofs.lemmas.Nat.{be_bytes_4, from_be_bytes-to_be_bytes_4}
use Rattle.std.specs.List.{concat}
use Rattle.std.specs.Int.{w32, to_be_bytes, from_be_bytes}
use Rattle.sz_lms.specs.Bits.{AreBytes, u32_at, values_of}
use Rattle.sz_lms.specs.Ots.{AreValues}

pub drop_bytes : (n : ℕ) (bytes : List ℕ) → AreBytes bytes → AreBytes (drop n bytes)
drop_bytes n bytes h i = rw get_or-drop (h (n + i))

byte_of_take : (n i : ℕ) (bytes : List ℕ) → AreBytes bytes → (i < n) ⊎ (n ≤ i) → get_or (take n bytes) i 0 < 256
byte_of_take n i bytes h (inl l) = rw get_or-take (h i)
byte_of_take n i bytes h (inr l) =
    let short : length (take n bytes) ≤ i = simp length-take (omega arith) in
    rw get_or_past (omega arith)

pub take_bytes : (n : ℕ) (bytes : List ℕ) → AreBytes bytes → AreBytes (take n bytes)
take_bytes n bytes h i = byte_of_take n i bytes h (cases_lt i n)

-- ---- numbers

pub number_spelled : (bytes : List ℕ) (at : ℕ) → AreBytes bytes → at + 4 ≤ length bytes
    → to_be_bytes w32 (u32_at bytes at) ≡ take 4 (drop at bytes)
number_spelled bytes at h l =
    be_bytes_4 (take 4 (drop at bytes)) (u32_at bytes at)
    (length-take-le 4 (drop at bytes) (rw length-drop (omega arith)))
    (take_bytes 4 (drop at bytes) (drop_bytes at bytes h)) refl

-- the bytes of a number below 256 are bytes
bytes_of_small : (xs : List ℕ) → length xs ≡ 4 → from_be_bytes w32 xs < 256 → AreBytes xs
bytes_of_small xs l h zero = omega (arith, h)
bytes_of_small xs l h (suc zero) = omega (arith, h)
bytes_of_small xs l h (suc (suc zero)) = omega (arith, h)
bytes_of_small xs l h (suc (suc (suc zero))) = omega (arith, h)
bytes_of_small xs l h (suc (suc (suc (suc i)))) =
    let past : length xs ≤ suc (suc (suc (suc i))) = omega (arith, l) in
    rw get_or_past (omega arith)

pub small_number_spelled : (bytes : List ℕ) (at : ℕ) → u32_at bytes at < 256 → at + 4 ≤ length bytes
    → to_be_bytes w32 (u32_at bytes at) ≡ take 4 (drop at bytes)
small_number_spelled bytes at h l =
    let four : length (take 4 (drop at bytes)) ≡ 4 = length-take-le 4 (drop at bytes) (rw length-drop (omega arith)) in
    be_bytes_4 (take 4 (drop at bytes)) (u32_at bytes at) four (bytes_of_small (take 4 (drop at bytes)) four h) refl

pub number_at : (bytes back : List ℕ) (at n : ℕ) → drop at bytes ≡ to_be_bytes w32 n ++ back → n < 2 ^ 32
    → u32_at bytes at ≡ n
number_at bytes back at n e h = ap (λ (ys : List ℕ). from_be_bytes w32 (take 4 ys)) e ∙ from_be_bytes-to_be_bytes_4 n h

-- ---- cuts

-- what stands behind a part that stands at a place
pub behind : (xs front back : List ℕ) (m n : ℕ) → drop m xs ≡ front ++ back → length front ≡ n → drop (m + n) xs ≡ back
behind xs front back m n e l = sym (drop-drop n m xs) ∙ ap (drop n) e ∙ drop_at front back n l

pub part_at : (xs front back : List ℕ) (m n : ℕ) → drop m xs ≡ front ++ back → length front ≡ n → take n (drop m xs) ≡ front
part_at xs front back m n e l = ap (take n) e ∙ take_at front back n l

-- three or four parts, one behind the other
pub three_parts : (a b c xs : List ℕ) (m n k : ℕ) → a ≡ take m xs → b ≡ take n (drop m xs) → c ≡ take k (drop (m + n) xs)
    → a ++ b ++ c ≡ take (m + n + k) xs
three_parts a b c xs m n k p q r = cc (take-add (m + n) k xs, take-add m n xs)

pub four_parts : (a b c d xs : List ℕ) (m n k l : ℕ) → a ≡ take m xs → b ≡ take n (drop m xs)
    → c ≡ take k (drop (m + n) xs) → d ≡ take l (drop (m + n + k) xs) → a ++ b ++ c ++ d ≡ take (m + n + k + l) xs
four_parts a b c d xs m n k l p q r s = cc (take-add (m + n + k) l xs, take-add (m + n) k xs, take-add m n xs)

-- ---- values of 32 bytes

abbrev pub Is32 : List ℕ → Type 0
Is32 value = length value ≡ 32

pub values_are : (n : ℕ) (bytes : List ℕ) → 32 * n ≤ length bytes → AreValues n (values_of n bytes)
unfolding values_of
values_are zero bytes h = (refl, All-nil Is32)
values_are (suc n) bytes h =
    let rest = values_are n (drop 32 bytes) (simp length-drop (omega arith)) in
    (ap suc rest.0, All-cons Is32 (take 32 bytes) (values_of n (drop 32 bytes)) (length-take-le 32 bytes (omega arith)) rest.1)

pub concat-values_of : (n : ℕ) (bytes : List ℕ) → concat (values_of n bytes) ≡ take (32 * n) bytes
unfolding values_of
concat-values_of zero bytes = refl
concat-values_of (suc n) bytes =
    let size : 32 * suc n ≡ 32 + 32 * n = omega arith in
    rw size (rw (concat-values_of n (drop 32 bytes)) (sym (take-add 32 (32 * n) bytes)))

pub length-concat : (values : List (List ℕ)) → All Is32 values → length (concat values) ≡ 32 * length values
length-concat [] h = refl
length-concat (value ∷ values) h =
    let head : length value ≡ 32 = All-head Is32 value values h in
    let rest = length-concat values (All-tail Is32 value values h) in
    rw length-append (omega (arith, head, rest))

pub values_of-concat : (values : List (List ℕ)) (rest : List ℕ) → All Is32 values
    → values_of (length values) (concat values ++ rest) ≡ values
unfolding values_of
values_of-concat [] rest h = refl
values_of-concat (value ∷ values) rest h =
    let head : length value ≡ 32 = All-head Is32 value values h in
    let more = values_of-concat values rest (All-tail Is32 value values h) in
    rw (append_assoc, take_at, drop_at, more)

pub values_at : (n : ℕ) (bytes rest : List ℕ) (values : List (List ℕ)) → bytes ≡ concat values ++ rest → AreValues n values
    → values_of n bytes ≡ values
values_at n bytes rest values e v = rw (e, ← v.0) (values_of-concat values rest v.1)

pub length-values : (n : ℕ) (values : List (List ℕ)) → AreValues n values → length (concat values) ≡ 32 * n
length-values n values v = length-concat values v.1 ∙ ap (λ (m : ℕ). 32 * m) v.0
