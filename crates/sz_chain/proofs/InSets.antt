-- Sets of places that grow with a loop over a list.
use Rattle.std.proofs.Common.{◌≡◌, ◌⊎◌, ◌||◌, ◌==◌, ◌+◌, ◌<◌, ℕ, false, true≢false, List, length, get_or, sym, ◌∙◌, inl, inr, arith, subst, eqb-true, eq-eqb}
use Rattle.std.proofs.lemmas.Bool.{cases_eq, or_cases, or_left, or_right}
use Rattle.sz_chain.specs.Sets.{AreAt, AreFirst, At, has}
use Rattle.sz_chain.specs.declared.set.PlaceSet.{PlaceSet}
use Rattle.sz_chain.proofs.Elements.{at_default, at_one, at_some, at_within}

module _ {A : Type 0} (xs : List A) (Is : ℕ → A → Type 0) where
  pub first_none : (set : PlaceSet) → ((place : ℕ) → has set place ≡ false) → AreFirst 0 xs Is set
  first_none set none place =
      (λ e. absurd (true≢false (sym e ∙ none place)), λ p. absurd (omega (arith, p.0)))

  -- the element at the next place is so, and the place is put in
  pub first_in : (n : ℕ) (x : A) (set new : PlaceSet) → AreFirst n xs Is set → At xs n x → Is n x →
      ((place : ℕ) → has new place ≡ (place == n || has set place)) → AreFirst (n + 1) xs Is new
  first_in n x set new are at is put place = (
    λ e. elim (or_cases (place == n) (has set place) (sym (put place) ∙ e)) [
      | inl same ↦
          let eq : place ≡ n = eqb-true place n same in
          (omega arith, (x, subst (λ (k : ℕ). At xs k x) (sym eq) at, subst (λ (k : ℕ). Is k x) (sym eq) is))
      | inr earlier ↦ let told = (are place).0 earlier in (omega (arith, told.0), told.1)
    ],
    λ told. put place ∙ elim (cases_eq place n) [
      | inl eq ↦ or_left (place == n) (has set place) (eq-eqb place n eq)
      | inr ne ↦ or_right (place == n) (has set place) ((are place).1 (omega (arith, told.0, ne), told.1))
    ],
  )

  -- the element at the next place isn't so, and the set stays
  pub first_out : (n : ℕ) (x : A) (set : PlaceSet) → AreFirst n xs Is set → At xs n x → (Is n x → ⊥) →
      AreFirst (n + 1) xs Is set
  first_out n x set are at isnt place = (
    λ e. let told = (are place).0 e in (omega (arith, told.0), told.1),
    λ told. elim (cases_eq place n) [
      | inl eq ↦
          let at_n : At xs n told.1.0 = subst (λ (k : ℕ). At xs k told.1.0) eq told.1.1 in
          let is_n : Is n told.1.0 = subst (λ (k : ℕ). Is k told.1.0) eq told.1.2 in
          absurd (isnt (subst (λ (y : A). Is n y) (at_one xs n told.1.0 x at_n at) is_n))
      | inr ne ↦ (are place).1 (omega (arith, told.0, ne), told.1)
    ],
  )

  -- the same of the element at a place of a loop
  pub first_in_loop : (n : ℕ) (d : A) (set new next : PlaceSet) → n < length xs → AreFirst n xs Is set → Is n (get_or xs n d) →
      ((place : ℕ) → has new place ≡ (place == n || has set place)) → next ≡ new → AreFirst (n + 1) xs Is next
  first_in_loop n d set new next within are is put e =
      subst (λ (s : PlaceSet). AreFirst (n + 1) xs Is s) (sym e) (first_in n (get_or xs n d) set new are (at_default xs n d within) is put)

  pub first_out_loop : (n : ℕ) (d : A) (set next : PlaceSet) → n < length xs → AreFirst n xs Is set → (Is n (get_or xs n d) → ⊥) → next ≡ set →
      AreFirst (n + 1) xs Is next
  first_out_loop n d set next within are isnt e =
      subst (λ (s : PlaceSet). AreFirst (n + 1) xs Is s) (sym e) (first_out n (get_or xs n d) set are (at_default xs n d within) isnt)

  pub first_all : (set : PlaceSet) → AreFirst (length xs) xs Is set → AreAt xs Is set
  first_all set are place = (
    λ e. ((are place).0 e).1,
    λ told. (are place).1 (at_within xs place told.0 told.1, told),
  )

  -- no element is so at the place
  pub first_out_any : (n : ℕ) (set next : PlaceSet) → n < length xs → AreFirst n xs Is set → ((x : A) → Is n x → ⊥) → next ≡ set →
      AreFirst (n + 1) xs Is next
  first_out_any n set next within are isnt e =
      let some = at_some xs n within in
      subst (λ (s : PlaceSet). AreFirst (n + 1) xs Is s) (sym e) (first_out n some.0 set are some.1 (isnt some.0))

  pub first_all_loop : (n : ℕ) (set : PlaceSet) → n ≡ length xs → AreFirst n xs Is set → AreAt xs Is set
  first_all_loop n set e are = first_all set (subst (λ (k : ℕ). AreFirst k xs Is set) e are)

-- what is so where something else is so
pub same_at : {A : Type 0} (xs : List A) (Is Other : ℕ → A → Type 0) (set : PlaceSet) →
    ((place : ℕ) (x : A) → At xs place x → Is place x → Other place x) →
    ((place : ℕ) (x : A) → At xs place x → Other place x → Is place x) → AreAt xs Is set → AreAt xs Other set
same_at xs Is Other set there back are place = (
  λ e. let told = (are place).0 e in (told.0, told.1, there place told.0 told.1 told.2),
  λ told. (are place).1 (told.0, told.1, back place told.0 told.1 told.2),
)

-- no element is so, and the set is empty
pub none_at : {A : Type 0} (xs : List A) (Is : ℕ → A → Type 0) (set : PlaceSet) →
    ((place : ℕ) → has set place ≡ false) → ((place : ℕ) (x : A) → At xs place x → Is place x → ⊥) → AreAt xs Is set
none_at xs Is set none isnt place =
    (λ e. absurd (true≢false (sym e ∙ none place)), λ told. absurd (isnt place told.0 told.1 told.2))

-- the places of two sets
pub either_at : {A : Type 0} (xs : List A) (Is Other Both : ℕ → A → Type 0) (one two new : PlaceSet) →
    ((place : ℕ) → has new place ≡ (has one place || has two place)) → AreAt xs Is one → AreAt xs Other two →
    ((place : ℕ) (x : A) → Is place x ⊎ Other place x → Both place x) → ((place : ℕ) (x : A) → Both place x → Is place x ⊎ Other place x) →
    AreAt xs Both new
either_at xs Is Other Both one two new put left right there back place = (
  λ e. elim (or_cases (has one place) (has two place) (sym (put place) ∙ e)) [
    | inl l ↦ let told = (left place).0 l in (told.0, told.1, there place told.0 (inl told.2))
    | inr r ↦ let told = (right place).0 r in (told.0, told.1, there place told.0 (inr told.2))
  ],
  λ told. put place ∙ elim (back place told.0 told.2) [
    | inl l ↦ or_left (has one place) (has two place) ((left place).1 (told.0, told.1, l))
    | inr r ↦ or_right (has one place) (has two place) ((right place).1 (told.0, told.1, r))
  ],
)
