-- Lists of values, one more at their end.
use Rattle.std.proofs.Common.{◌≡◌, ℕ, ◌+◌, List, [], ◌∷◌, ◌++◌, map, sym, ap, ◌∙◌, append_assoc, append-nil, zero-add, Result, Ok, Err, OnOk, length, take, drop, length-append, length-take, length-drop, arith, ◌≤◌}
use borrow.Rule.Slice.PartMut.{put_mid}
use Rattle.std.specs.List.{concat, range_with_len}
use Rattle.std.proofs.lemmas.List.FromFn.{map-range_with_len_more}
use Rattle.std.proofs.lemmas.List.{take_at, take_all}
use Rattle.std.proofs.lemmas.Slice.{take-put_mid}

concat-push : (values : List (List ℕ)) (value : List ℕ) → concat (values ++ value ∷ []) ≡ concat values ++ value
concat-push [] value = append-nil value
concat-push (x ∷ values) value = ap (λ (rest : List ℕ). x ++ rest) (concat-push values value) ∙ sym (append_assoc x (concat values) value)

-- the first n values of a function of the place, joined
abbrev pub joined : (ℕ → List ℕ) → ℕ → List ℕ
joined value n = concat (map value (range_with_len 0 n))

pub joined-more : (value : ℕ → List ℕ) (front : List ℕ) (n : ℕ) → (front ++ joined value n) ++ value n ≡ front ++ joined value (n + 1)
joined-more value front n =
    append_assoc front (joined value n) (value n)
    ∙ ap (λ (rest : List ℕ). front ++ rest)
    (sym (ap concat (map-range_with_len_more value 0 n n (zero-add n)) ∙ concat-push (map value (range_with_len 0 n)) (value n)))

-- what three steps put last, one after another
pub put_three : (before first second third a b c : List ℕ) → first ≡ before ++ a → second ≡ first ++ b → third ≡ second ++ c → third ≡ before ++ (a ++ b ++ c)
put_three before first second third a b c p q r = r ∙ ap (λ (x : List ℕ). x ++ c) (q ∙ ap (λ (x : List ℕ). x ++ b) p) ∙ simp append_assoc

-- and four steps from nothing
pub put_four : (first second third fourth a b c d : List ℕ) → first ≡ [] ++ a → second ≡ first ++ b
    → third ≡ second ++ c → fourth ≡ third ++ d → fourth ≡ a ++ b ++ c ++ d
put_four first second third fourth a b c d p q r s =
    s ∙ ap (λ (x : List ℕ). x ++ d) (r ∙ ap (λ (x : List ℕ). x ++ c) (q ∙ ap (λ (x : List ℕ). x ++ b) p))

-- what follows from what holds on success
pub OnOk-then : {T E : Type 0} (r : Result T E) (P Q : Type 0) → (P → Q) → OnOk r P → OnOk r Q
OnOk-then (Ok x) P Q f p = f p
OnOk-then (Err e) P Q f p = tt

-- a part that is written over keeps the length
length-put_mid_within : (at n : ℕ) (xs ys : List ℕ) → length ys ≡ n → at + n ≤ length xs → length (put_mid at n xs ys) ≡ length xs
length-put_mid_within at n xs ys same within =
    let whole = length-append (take at xs) (ys ++ drop n (drop at xs)) in
    let behind = length-append ys (drop n (drop at xs)) in
    omega (arith, length-take at xs, length-drop n (drop at xs), length-drop at xs)

-- an array of 56 bytes that is written over in four parts, from its front on
pub four_parts : (a b c d rest : List ℕ) → length a ≡ 4 → length b ≡ 4 → length c ≡ 16 → length d ≡ 32 → length rest ≡ 52
    → put_mid 24 32 (put_mid 8 16 (put_mid 4 4 (a ++ rest) b) c) d ≡ a ++ b ++ c ++ d
four_parts a b c d rest la lb lc ld lr =
    let one = a ++ rest in
    let two = put_mid 4 4 one b in
    let three = put_mid 8 16 two c in
    let four = put_mid 24 32 three d in
    let first : take 4 one ≡ a = take_at a rest 4 la in
    let l1 : length one ≡ 56 = omega (arith, length-append a rest) in
    let l2 : length two ≡ 56 = length-put_mid_within 4 4 one b lb (omega arith) ∙ l1 in
    let l3 : length three ≡ 56 = length-put_mid_within 8 16 two c lc (omega arith) ∙ l2 in
    let l4 : length four ≡ 56 = length-put_mid_within 24 32 three d ld (omega arith) ∙ l3 in
    let second : take 8 two ≡ take 4 one ++ b = take-put_mid 4 4 one b 8 (omega arith) (omega arith) in
    let third : take 24 three ≡ take 8 two ++ c = take-put_mid 8 16 two c 24 (omega arith) (omega arith) in
    let fourth : take 56 four ≡ take 24 three ++ d = take-put_mid 24 32 three d 56 (omega arith) (omega arith) in
    let whole : take 56 four ≡ four = take_all 56 four (omega arith) in
    sym whole ∙ fourth
    ∙ ap (λ (x : List ℕ). x ++ d) (third ∙ ap (λ (x : List ℕ). x ++ c) (second ∙ ap (λ (x : List ℕ). x ++ b) first))
