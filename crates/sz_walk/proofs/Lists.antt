-- Lists: what holds of each element, and the other way round.
use Rattle.std.proofs.Common.{◌≡◌, Bool, true, false, cond, List, [], ◌∷◌, ◌++◌, length, map, reverse, refl, sym, ap, ◌∙◌, arith, append-nil, length-append}
use Rattle.std.proofs.lemmas.List.{reverse-append}
use Rattle.std.proofs.lemmas.List.Elements.{filter-append}
use Rattle.std.specs.List.{AllByRecursion, filter}

pub all_weaker : {A : Type 0} (P Q : A → Type 0) (xs : List A) → ((x : A) → P x → Q x) → AllByRecursion P xs → AllByRecursion Q xs
all_weaker P Q [] weaker all = tt
all_weaker P Q (x ∷ xs) weaker all = (weaker x all.0, all_weaker P Q xs weaker all.1)

pub all_append : {A : Type 0} (P : A → Type 0) (xs ys : List A) → AllByRecursion P xs → AllByRecursion P ys → AllByRecursion P (xs ++ ys)
all_append P [] ys first second = second
all_append P (x ∷ xs) ys first second = (first.0, all_append P xs ys first.1 second)

pub all_map : {A B : Type 0} (P : B → Type 0) (f : A → B) (xs : List A) → ((x : A) → P (f x)) → AllByRecursion P (map f xs)
all_map P f [] each = tt
all_map P f (x ∷ xs) each = (each x, all_map P f xs each)

filter_head : {A : Type 0} (P : A → Type 0) (test : A → Bool) (x : A) (kept : List A) (b : Bool) → (test x ≡ b) → (test x ≡ true → P x)
    → AllByRecursion P kept → AllByRecursion P (cond b (x ∷ kept) kept)
filter_head P test x kept true is each all = (each is, all)
filter_head P test x kept false is each all = all

-- what is kept has what the test shows, too
pub all_filter : {A : Type 0} (P Q : A → Type 0) (test : A → Bool) (xs : List A) → ((x : A) → test x ≡ true → P x → Q x)
    → AllByRecursion P xs → AllByRecursion Q (filter test xs)
all_filter P Q test [] each all = tt
all_filter P Q test (x ∷ xs) each all =
    filter_head Q test x (filter test xs) (test x) refl (λ is. each x is all.0) (all_filter P Q test xs each all.1)

-- ---- the last element, and the other way round

pub reverse-cons : {A : Type 0} (x : A) (xs : List A) → reverse (x ∷ xs) ≡ reverse xs ++ x ∷ []
reverse-cons x xs = reverse-append (x ∷ []) xs

last_kept : {A : Type 0} (test : A → Bool) (x : A) (b : Bool) (kept : List A) → reverse kept ++ cond b (x ∷ []) [] ≡ reverse (cond b (x ∷ kept) kept)
last_kept test x true kept = sym (reverse-cons x kept)
last_kept test x false kept = append-nil (reverse kept)

pub filter-reverse : {A : Type 0} (test : A → Bool) (xs : List A) → filter test (reverse xs) ≡ reverse (filter test xs)
filter-reverse test [] = refl
filter-reverse test (x ∷ xs) =
    ap (λ l. filter test l) (reverse-cons x xs) ∙ filter-append test (reverse xs) (x ∷ [])
    ∙ ap (λ l. l ++ cond (test x) (x ∷ []) []) (filter-reverse test xs) ∙ last_kept test x (test x) (filter test xs)

pub same_last : {A : Type 0} (xs ys : List A) (a b : A) → xs ++ a ∷ [] ≡ ys ++ b ∷ [] → a ≡ b
same_last [] [] a b same = cc
same_last [] (y ∷ ys) a b same = absurd (omega (arith, ap length same, length-append ys (b ∷ [])))
same_last (x ∷ xs) [] a b same = absurd (omega (arith, ap length same, length-append xs (a ∷ [])))
same_last (x ∷ xs) (y ∷ ys) a b same = let tail : xs ++ a ∷ [] ≡ ys ++ b ∷ [] = cc in same_last xs ys a b tail
