-- The element at a place of a list.
use Rattle.std.proofs.Common.{◌≡◌, ◌<◌, ◌⊎◌, ℕ, zero, suc, List, [], ◌∷◌, ◌++◌, length, get_or, Contains, refl, sym, ap, ◌∙◌, subst, inl, inr, not-suc-le-zero, le_of_suc-le-suc}
use Rattle.std.proofs.lemmas.Option.{get_or_from_slice_get, none-some, same_Some, slice_get-get_or, slice_get_read, slice_get_within}
use Rattle.sz_chain.specs.Sets.{At}

module _ {A : Type 0} where
  pub at_left : (xs ys : List A) (k : ℕ) (x : A) → At xs k x → At (xs ++ ys) k x
  at_left [] ys k x h = absurd (none-some x h)
  at_left (z ∷ xs) ys zero x h = h
  at_left (z ∷ xs) ys (suc k) x h = at_left xs ys k x h

  pub at_last : (xs : List A) (y : A) → At (xs ++ y ∷ []) (length xs) y
  at_last [] y = refl
  at_last (z ∷ xs) y = at_last xs y

  -- what stands in a list with one more stands in the list or is the one
  pub at_cases : (xs : List A) (y : A) (k : ℕ) (x : A) → At (xs ++ y ∷ []) k x → At xs k x ⊎ ((k ≡ length xs) × (y ≡ x))
  at_cases [] y zero x h = inr (refl, same_Some y x h)
  at_cases [] y (suc k) x h = absurd (none-some x h)
  at_cases (z ∷ xs) y zero x h = inl h
  at_cases (z ∷ xs) y (suc k) x h =
      elim (at_cases xs y k x h) [ inl left ↦ inl left | inr last ↦ inr (ap suc last.0, last.1) ]

  -- what stands in two lists stands in one of them
  pub at_either : (xs ys : List A) (k : ℕ) (x : A) → At (xs ++ ys) k x → At xs k x ⊎ ((j : ℕ) × At ys j x)
  at_either [] ys k x h = inr (k, h)
  at_either (z ∷ xs) ys zero x h = inl h
  at_either (z ∷ xs) ys (suc k) x h = at_either xs ys k x h

  pub at_right : (xs ys : List A) (k : ℕ) (x : A) → At ys k x → (j : ℕ) × At (xs ++ ys) j x
  at_right [] ys k x h = (k, h)
  at_right (z ∷ xs) ys k x h =
      let right = at_right xs ys k x h in (suc right.0, right.1)

  pub at_one : (xs : List A) (k : ℕ) (x y : A) → At xs k x → At xs k y → x ≡ y
  at_one xs k x y h g = same_Some x y (sym h ∙ g)

  pub at_within : (xs : List A) (k : ℕ) (x : A) → At xs k x → k < length xs
  at_within xs k x h = slice_get_within xs k x h

  pub at_read : (xs : List A) (k : ℕ) (x : A) → k < length xs → x ≡ get_or xs k x → At xs k x
  at_read xs k x within is = slice_get_read xs (length xs) k x refl within is

  pub contains_at : (xs : List A) (k : ℕ) (x : A) → At xs k x → Contains xs x
  contains_at xs k x h = (k, slice_get_within xs k x h, get_or_from_slice_get xs k x x h)

  pub at_contains : (xs : List A) (x : A) → Contains xs x → (k : ℕ) × At xs k x
  at_contains xs x h = (h.0, slice_get_read xs (length xs) h.0 x refl h.1 (sym h.2))

  -- some element stands at each place below the length
  pub at_some : (xs : List A) (k : ℕ) → k < length xs → (x : A) × At xs k x
  at_some [] k within = absurd (not-suc-le-zero within)
  at_some (x ∷ xs) zero within = (x, refl)
  at_some (x ∷ xs) (suc k) within = at_some xs k (le_of_suc-le-suc within)

  pub at_default : (xs : List A) (k : ℕ) (d : A) → k < length xs → At xs k (get_or xs k d)
  at_default xs k d within = slice_get-get_or xs k d within

  -- what holds of each element holds of each once one more is put last, of which it holds
  pub grows : (P : ℕ → A → Type 0) (xs new : List A) (n : ℕ) (x : A) → new ≡ xs ++ x ∷ [] → length xs ≡ n →
      ((at : ℕ) (y : A) → At xs at y → P at y) → P n x → (at : ℕ) (y : A) → At new at y → P at y
  grows P xs new n x is len each this at y here =
      elim (at_cases xs x at y (subst (λ (r : List A). At r at y) is here)) [
        | inl earlier ↦ each at y earlier
        | inr last ↦
            let place : n ≡ at = sym len ∙ sym last.0 in
            subst (λ (i : ℕ). P i y) place (subst (P n) last.1 this)
      ]
