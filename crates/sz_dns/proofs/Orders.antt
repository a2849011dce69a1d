-- A list has one stable order by a number.
use Rattle.std.proofs.Common.{◌≡◌, ℕ, suc, ◌<◌, ◌≤◌, Bool, true, false, cond, eqb, ltb, inl, inr, List, [], ◌∷◌, length, get_or, refl, sym, ap, ◌∙◌, arith}
use Rattle.std.proofs.lemmas.Bool.{cases_Bool, cases_order, le-ltb, lt-ltb}
use Rattle.std.specs.Ordering.{is_lt, nat_cmp}
use Rattle.std.specs.declared.cmp.Ordering.TheVariants.{Less, Equal, Greater}
use Rattle.std.specs.List.{filter}
use Rattle.std.specs.List.Sorted.{IsNonDecreasingBy, ties}
use Rattle.sz_dns.specs.Order.{AreByPriority}
use Rattle.sz_dns.specs.declared.service.Candidate.{Candidate}

less_of : (b c : Bool) → is_lt (cond b Less (cond c Equal Greater)) ≡ b
less_of true c = refl
less_of false true = refl
less_of false false = refl

less : (m n : ℕ) → is_lt (nat_cmp m n) ≡ ltb m n
less m n = less_of (ltb m n) (eqb m n)

-- two items have one number
abbrev tie : {X : Type 0} → (X → ℕ) → X → X → Bool
tie key = ties (λ x y. is_lt (nat_cmp (key x) (key y)))

tie_same : {X : Type 0} (key : X → ℕ) (x y : X) → key x ≡ key y → tie key x y ≡ true
tie_same key x y same =
    rw (less (key x) (key y), less (key y) (key x), le-ltb (key x) (key y) (omega arith), le-ltb (key y) (key x) (omega arith)) refl

tie_below : {X : Type 0} (key : X → ℕ) (x y : X) → key x < key y → tie key x y ≡ false
tie_below key x y below = rw (less (key x) (key y), lt-ltb (key x) (key y) below) refl

-- no item of a greater number ties
none_ties : {X : Type 0} (key : X → ℕ) (x : X) (items : List X)
    → ((j : ℕ) (d : X) → j < length items → key x < key (get_or items j d)) → filter (tie key x) items ≡ []
none_ties key x [] above = refl
none_ties key x (y ∷ items) above =
    let first : tie key x y ≡ false = tie_below key x y (above 0 y (omega arith)) in
    rw first (none_ties key x items (λ j d inside. above (suc j) d (omega arith)))

-- the items behind the first of a list in order
tail_in_order : {X : Type 0} (key : X → ℕ) (x : X) (items : List X) → IsNonDecreasingBy key (x ∷ items) → IsNonDecreasingBy key items
tail_in_order key x items order = λ i j d least inside. order (suc i) (suc j) d (omega arith) (omega arith)

-- where the first item of a list in order is above a number, none ties with it
none_below : {X : Type 0} (key : X → ℕ) (x y : X) (items : List X) → IsNonDecreasingBy key (y ∷ items) → key x < key y
    → filter (tie key x) (y ∷ items) ≡ []
none_below key x y items order below =
    none_ties key x (y ∷ items)
    (λ j d inside. let least : key y ≤ key (get_or (y ∷ items) j d) = order 0 j d (omega arith) inside in omega arith)

first_ties : {X : Type 0} (key : X → ℕ) (x y : X) (items : List X) → key x ≡ key y
    → filter (tie key x) (y ∷ items) ≡ y ∷ filter (tie key x) items
first_ties key x y items same = rw (tie_same key x y same) refl

-- the numbers of the first items are equal
first_is_least : {X : Type 0} (key : X → ℕ) (x y : X) (items others : List X) → IsNonDecreasingBy key (y ∷ others)
    → filter (tie key x) (x ∷ items) ≡ filter (tie key x) (y ∷ others) → key x < key y → ⊥
first_is_least key x y items others order same below =
    let e = sym (first_ties key x x items refl) ∙ same ∙ none_below key x y others order below in
    cc e

-- lists that tie alike tie alike behind a common first item
behind_first : {X : Type 0} (test : X → Bool) (x : X) (items others : List X) → filter test (x ∷ items) ≡ filter test (x ∷ others)
    → filter test items ≡ filter test others
behind_first test x items others same =
    elim (cases_Bool (test x)) [
      | inl taken ↦ let e = rw taken at same in cc e
      | inr left ↦ rw left at same
    ]

same_order : {X : Type 0} (key : X → ℕ) (items others : List X) → IsNonDecreasingBy key items → IsNonDecreasingBy key others
    → ((x : X) → filter (tie key x) items ≡ filter (tie key x) others) → items ≡ others
same_order key [] [] order second same = refl
same_order key [] (y ∷ others) order second same = let e = same y ∙ first_ties key y y others refl in cc e
same_order key (x ∷ items) [] order second same = let e = sym (same x) ∙ first_ties key x x items refl in cc e
same_order {X} key (x ∷ items) (y ∷ others) order second same =
    elim (cases_order (key x) (key y)) [
      | inl equal ↦
          let e = sym (first_ties key x x items refl) ∙ same x ∙ first_ties key x y others equal in
          let firsts : x ≡ y = cc e in
          let again : (z : X) → filter (tie key z) (x ∷ items) ≡ filter (tie key z) (x ∷ others) =
          λ z. same z ∙ ap (λ (w : X). filter (tie key z) (w ∷ others)) (sym firsts) in
          let tails = same_order key items others (tail_in_order key x items order) (tail_in_order key y others second)
          (λ z. behind_first (tie key z) x items others (again z)) in
          ap (λ (w : X). w ∷ items) firsts ∙ ap (λ (ws : List X). y ∷ ws) tails
      | inr (inl below) ↦ absurd (first_is_least key x y items others second (same x) below)
      | inr (inr above) ↦ absurd (first_is_least key y x others items order (sym (same y)) above)
    ]

pub one_order : (candidates ordered others : List Candidate) → AreByPriority candidates ordered → AreByPriority candidates others
    → ordered ≡ others
one_order candidates ordered others a b =
    same_order (λ (candidate : Candidate). candidate.priority) ordered others a.ascending b.ascending
    (λ x. a.stable x ∙ sym (b.stable x))
