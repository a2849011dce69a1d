-- Sums of sizes, each of them a number of 64 bits, and the lengths of what is spelled.
use Rattle.std.proofs.Common.{◌≡◌, ℕ, ◌+◌, ◌-◌, ◌<◌, ◌≤◌, List, [], ◌∷◌, ◌++◌, length, map, take, get_or, sum, Option, Some, None, refl, ap, ◌∙◌, arith, length-append}
use Rattle.std.proofs.lemmas.Grind.{flat_map-append}
use Rattle.std.proofs.lemmas.List.{take_all, take_more, append-nil}
use Rattle.std.proofs.lemmas.List.Sums.{sum_by-append}
use Rattle.std.specs.List.{concat, flat_map}
use Rattle.sz_base.specs.declared.moment.Moment.{Moment}
use Rattle.sz_record.specs.Size.{capped, size_of}
use Rattle.sz_record.specs.Spelling.{anchors_bytes, long_bytes, moment_bytes, new_version, nonce_bytes, optional_bytes, text_bytes, time_bytes}

pub capped_sum : (m n : ℕ) → capped (capped m + capped n) ≡ capped (m + n)
capped_sum m n = omega arith

pub sum-cons : (x : ℕ) (xs : List ℕ) → sum (x ∷ xs) ≡ x + sum xs
sum-cons x xs =
    let both : sum ((x ∷ []) ++ xs) ≡ sum (x ∷ []) + sum xs = sum_by-append (λ y. y) (x ∷ []) xs in
    let one : sum (x ∷ []) ≡ 0 + x = refl in
    both ∙ omega (arith, one)

pub size_of-concat : (parts : List (List ℕ)) → capped (sum (map size_of parts)) ≡ size_of (concat parts)
size_of-concat [] = refl
size_of-concat (part ∷ parts) =
    let rest = size_of-concat parts in
    let total : sum (map size_of (part ∷ parts)) ≡ size_of part + sum (map size_of parts) =
    sum-cons (size_of part) (map size_of parts) in
    let whole : length (concat (part ∷ parts)) ≡ length part + length (concat parts) =
    length-append part (concat parts) in
    omega (arith, rest, total, whole)

pub total_is : (total : ℕ) (sizes : List ℕ) (parts : List (List ℕ)) → total ≡ capped (sum sizes)
    → sizes ≡ map size_of parts → total ≡ size_of (concat parts)
total_is total sizes parts is same = is ∙ ap (λ (s : List ℕ). capped (sum s)) same ∙ size_of-concat parts

sum-last : (xs : List ℕ) (x : ℕ) → sum (xs ++ x ∷ []) ≡ sum xs + x
sum-last xs x =
    let both : sum (xs ++ x ∷ []) ≡ sum xs + sum (x ∷ []) = sum_by-append (λ y. y) xs (x ∷ []) in
    let one : sum (x ∷ []) ≡ 0 + x = refl in
    both ∙ omega (arith, one)

pub sum_more : (xs : List ℕ) (i d : ℕ) → i < length xs → sum (take (i + 1) xs) ≡ sum (take i xs) + get_or xs i d
sum_more xs i d inside =
    ap (λ (s : List ℕ). sum s) (take_more xs i d inside) ∙ sum-last (take i xs) (get_or xs i d)

pub flat_map_more : {X : Type 0} (f : X → List ℕ) (xs : List X) (i : ℕ) (d : X) → i < length xs
    → flat_map f (take (i + 1) xs) ≡ flat_map f (take i xs) ++ f (get_or xs i d)
flat_map_more f xs i d inside =
    ap (λ s. flat_map f s) (take_more xs i d inside)
    ∙ flat_map-append f (take i xs) (get_or xs i d ∷ [])
    ∙ ap (λ s. flat_map f (take i xs) ++ s) (append-nil (f (get_or xs i d)))

pub text_length : (text : List ℕ) → length (text_bytes text) ≡ length text + 2
unfolding text_bytes
text_length text = omega arith

pub long_length : (long : List ℕ) → length (long_bytes long) ≡ length long + 4
unfolding long_bytes
long_length long = omega arith

pub optional_length : {T : Type 0} (spelled : T → List ℕ) (value : T)
    → length (optional_bytes spelled (Some value)) ≡ length (spelled value) + 1
unfolding optional_bytes
optional_length spelled value = omega arith

pub absent_length : {T : Type 0} (spelled : T → List ℕ) → length (optional_bytes spelled None) ≡ 1
unfolding optional_bytes
absent_length spelled = refl

pub absent_moment_length : (moment : Moment) → moment.nonce ≡ None → length (moment_bytes new_version moment) ≡ 9
unfolding moment_bytes nonce_bytes optional_bytes time_bytes
absent_moment_length moment is =
    ap (λ (n : Option (List ℕ)). length (concat (time_bytes moment.time.0 ∷ nonce_bytes new_version n ∷ []))) is

pub moment_length : (moment : Moment) (nonce : List ℕ) → moment.nonce ≡ Some nonce
    → length (moment_bytes new_version moment) ≡ length nonce + 9
unfolding moment_bytes nonce_bytes optional_bytes time_bytes
moment_length moment nonce is =
    ap (λ (n : Option (List ℕ)). length (concat (time_bytes moment.time.0 ∷ nonce_bytes new_version n ∷ []))) is
    ∙ omega (arith, length-append nonce [])

pub anchors_length : (anchors : List (List ℕ)) (i : ℕ) → length anchors ≤ i
    → length (anchors_bytes anchors) ≡ 1 + length (flat_map long_bytes (take i anchors))
unfolding anchors_bytes
anchors_length anchors i all =
    let same : length (flat_map long_bytes (take i anchors)) ≡ length (flat_map long_bytes anchors) =
    ap (λ s. length (flat_map long_bytes s)) (take_all i anchors all) in
    omega (arith, same)
