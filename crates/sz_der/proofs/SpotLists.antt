-- The spots of items one after another.
use Rattle.std.proofs.Common.{◌≡◌, ℕ, zero, suc, inl, inr, ◌<◌, ◌≤◌, true, false, List, [], ◌∷◌, length, refl, sym, ap, arith, length-drop}
use Rattle.std.proofs.lemmas.Bool.{cases_Bool, eqb-true, eqb-false}
use Rattle.sz_der.specs.Spots.{after, is_at_end, size_at, Spot, spots_from, spots_upto}

pub some_left : (spot : Spot) → is_at_end spot ≡ false → length spot.left ≡ 0 → ⊥
unfolding is_at_end
some_left spot more = eqb-false (length spot.left) 0 more

none_left : (spot : Spot) → is_at_end spot ≡ true → length spot.left ≡ 0
unfolding is_at_end
none_left spot end = eqb-true (length spot.left) 0 end

-- what is left after an item is less
pub less_is_left : (spot : Spot) → is_at_end spot ≡ false → length (after spot).left < length spot.left
unfolding after
less_is_left spot more = omega (arith, length-drop (size_at spot) spot.left, some_left spot more)

pub less_after : (spot : Spot) (n : ℕ) → length spot.left ≤ suc n → length (after spot).left ≤ n
unfolding after
less_after spot n few = omega (arith, length-drop (size_at spot) spot.left)

-- more steps than bytes give the same spots
upto_enough : (n m : ℕ) (spot : Spot) → length spot.left ≤ n → length spot.left ≤ m → spots_upto n spot ≡ spots_upto m spot
unfolding spots_upto is_at_end
upto_enough zero zero spot a b = refl
upto_enough zero (suc m) spot a b = let none : length spot.left ≡ 0 = omega arith in rw none refl
upto_enough (suc n) zero spot a b = let none : length spot.left ≡ 0 = omega arith in rw none refl
upto_enough (suc n) (suc m) spot a b =
    elim (cases_Bool (is_at_end spot)) [
      | inl end ↦ rw end refl
      | inr more ↦ rw more (ap (λ (spots : List Spot). spot ∷ spots)
          (upto_enough n m (after spot) (less_after spot n a) (less_after spot m b)))
    ]

pub spots_end : (spot : Spot) → is_at_end spot ≡ true → spots_from spot ≡ []
unfolding spots_upto
spots_end spot end = let none = none_left spot end in rw none refl

upto_step : (n : ℕ) (spot : Spot) → is_at_end spot ≡ false → n ≡ length spot.left → spots_upto n spot ≡ spot ∷ spots_from (after spot)
unfolding spots_upto
upto_step zero spot more is = absurd (some_left spot more (sym is))
upto_step (suc n) spot more is =
    let shorter : length (after spot).left ≤ n = less_after spot n (omega arith) in
    rw more (ap (λ (spots : List Spot). spot ∷ spots) (upto_enough n (length (after spot).left) (after spot) shorter (omega arith)))

pub spots_step : (spot : Spot) → is_at_end spot ≡ false → spots_from spot ≡ spot ∷ spots_from (after spot)
spots_step spot more = upto_step (length spot.left) spot more refl
