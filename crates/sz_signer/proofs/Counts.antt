-- How often a number stands in a list, and in the leaf numbers of signatures.
use Rattle.std.proofs.Common.{◌≡◌, ℕ, zero, suc, ◌+◌, ◌<◌, ◌≤◌, cond, eqb, List, [], ◌∷◌, ◌++◌, length, get_or, refl, sym, ⊎_elim, arith}
use Rattle.std.specs.List.{range_with_len}
use Rattle.std.proofs.lemmas.Bool.{cases_eq, eq-eqb, ne_eqb}
use Rattle.sz_hss.specs.Used.{AreSound, Release}

unfoldable pub one-if : ℕ → ℕ → ℕ
one-if n m = cond (eqb n m) 1 0

abbrev pub count : ℕ → List ℕ → ℕ
count n [] = 0
count n (m ∷ ms) = one-if n m + count n ms

one-same : (n m : ℕ) → n ≡ m → one-if n m ≡ 1
unfolding one-if
one-same n m same = rw (eq-eqb n m same) refl

one-other : (n m : ℕ) → (n ≡ m → ⊥) → one-if n m ≡ 0
unfolding one-if
one-other n m other = rw (ne_eqb n m other) refl

one-most : (n m : ℕ) → one-if n m ≤ 1
one-most n m = ⊎_elim (λ same. let e = one-same n m same in omega arith) (λ other. let e = one-other n m other in omega arith) (cases_eq n m)

pub count-append : (n : ℕ) (xs ys : List ℕ) → count n (xs ++ ys) ≡ count n xs + count n ys
count-append n [] ys = omega arith
count-append n (x ∷ xs) ys = let rest = count-append n xs ys in omega arith

-- numbers in a row: none before the first
pub count-range-before : (n from k : ℕ) → n < from → count n (range_with_len from k) ≡ 0
count-range-before n from zero lt = refl
count-range-before n from (suc k) lt =
    let none = one-other n from (λ same. omega arith) in
    let rest = count-range-before n (from + 1) k (omega arith) in
    omega arith

-- none from the end on
pub count-range-after : (n from k : ℕ) → from + k ≤ n → count n (range_with_len from k) ≡ 0
count-range-after n from zero le = refl
count-range-after n from (suc k) le =
    let none = one-other n from (λ same. omega arith) in
    let rest = count-range-after n (from + 1) k (omega arith) in
    omega arith

-- and each at most once
pub count-range-most : (n from k : ℕ) → count n (range_with_len from k) ≤ 1
count-range-most n from zero = omega arith
count-range-most n from (suc k) =
    ⊎_elim
    (λ same. let one = one-same n from same in let rest = count-range-before n (from + 1) k (omega arith) in omega arith)
    (λ other. let none = one-other n from other in let rest = count-range-most n (from + 1) k in omega arith)
    (cases_eq n from)

-- a number taken out
pub count-without : (n leaf : ℕ) (front back : List ℕ) → count n (front ++ leaf ∷ back) ≡ one-if n leaf + count n (front ++ back)
count-without n leaf front back =
    let whole = count-append n front (leaf ∷ back) in let parts = count-append n front back in omega arith

-- ---- the leaf numbers of signatures

abbrev pub leaves : List Release → List ℕ
leaves [] = []
leaves (release ∷ releases) = release.leaf ∷ leaves releases

count-member : (releases : List Release) (j : ℕ) (d : Release) → j < length releases
    → 1 ≤ count (get_or releases j d).leaf (leaves releases)
count-member [] j d lt = absurd (omega arith)
count-member (release ∷ releases) zero d lt = let one = one-same release.leaf release.leaf refl in omega arith
count-member (release ∷ releases) (suc j) d lt = let rest = count-member releases j d (omega arith) in omega arith

pub sound-counts : (releases : List Release) → ((n : ℕ) → count n (leaves releases) ≤ 1) → AreSound releases
sound-counts [] most i j d lt inside = absurd (omega arith)
sound-counts (release ∷ releases) most zero zero d lt inside = absurd (omega arith)
sound-counts (release ∷ releases) most zero (suc j) d lt inside = λ same.
    let member = count-member releases j d (omega arith) in
    let one = one-same (get_or releases j d).leaf release.leaf (sym same) in
    let limit = most (get_or releases j d).leaf in
    omega arith
sound-counts (release ∷ releases) most (suc i) zero d lt inside = absurd (omega arith)
sound-counts (release ∷ releases) most (suc i) (suc j) d lt inside =
    sound-counts releases (λ n. let m = most n in omega arith) i j d (omega arith) (omega arith)
