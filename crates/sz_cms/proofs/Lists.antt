-- Values written one after another: what has no fault is written as its relation says, and what is written so has none.
use Rattle.std.specs.Prelude.{map}
use Rattle.std.proofs.Common.{◌≡◌, ℕ, zero, suc, inl, inr, ◌≤◌, true, false, List, [], ◌∷◌, ◌++◌, length, Option, None, refl, ap, ◌∙◌, arith}
use Rattle.std.proofs.lemmas.Bool.{cases_Bool}
use Rattle.sz_der.specs.Der.{AreOctets}
use Rattle.sz_der.specs.Spots.{after, AreEach, is_at_end, Spot, spots_upto, whole_at}
use Rattle.sz_der.proofs.Spots.{Behind, nil_from_end, no_bytes, parts_of_none}
use Rattle.sz_der.proofs.SpotLists.{less_after, some_left}
use Rattle.sz_cms.specs.MessageFault.{each_after, Fault}

-- a value that is written at a spot has no fault, and is what is kept of it; then there is room for the others
pub record IsClear {A : Type 0} (fault : List Spot → Spot → Option Fault) (at : Spot → A) (Room : List Spot → List A → Type 0)
    (earlier : List Spot) (spot : Spot) (value : A) (values : List A) (rest : List ℕ) : Type 0 where
  pub no_fault : fault earlier spot ≡ None
  pub value_is : at spot ≡ value
  pub after_is : (after spot).left ≡ rest
  pub some : is_at_end spot ≡ false
  pub room : Room (earlier ++ spot ∷ []) values

module _ {A : Type 0} (fault : List Spot → Spot → Option Fault) (Is : A → List ℕ → Type 0) (at : Spot → A) where
  pub are_written : ((earlier : List Spot) (spot : Spot) → AreOctets spot.left → fault earlier spot ≡ None → Is (at spot) (whole_at spot) × Behind spot) →
      (n : ℕ) (earlier : List Spot) (spot : Spot) → length spot.left ≤ n → AreOctets spot.left →
      each_after fault earlier (spots_upto n spot) ≡ None → AreEach Is (map at (spots_upto n spot)) spot.left
  unfolding spots_upto
  are_written shows zero earlier spot few fits e = no_bytes spot.left few
  are_written shows (suc n) earlier spot few fits e =
      elim (cases_Bool (is_at_end spot)) [
        | inl at_end ↦ rw at_end (nil_from_end spot true at_end refl)
        | inr more ↦
            let parts = parts_of_none _ _ (rw more at e) in
            let others = parts_of_none _ _ parts.1 in
            let good = shows earlier spot fits parts.0 in
            let rest = are_written shows n (earlier ++ spot ∷ []) (after spot) (less_after spot n few) good.1.after others.0 in
            rw more (whole_at spot, (after spot).left, good.0, good.1.joined, rest)
      ]

  pub clear_each : (Room : List Spot → List A → Type 0) →
      ((earlier : List Spot) (spot : Spot) (value : A) (values : List A) (whole rest : List ℕ) → Room earlier (value ∷ values) → Is value whole →
      spot.left ≡ whole ++ rest → IsClear fault at Room earlier spot value values rest) →
      (n : ℕ) (earlier : List Spot) (spot : Spot) (values : List A) → length spot.left ≤ n → AreEach Is values spot.left → Room earlier values →
      (each_after fault earlier (spots_upto n spot) ≡ None) × (map at (spots_upto n spot) ≡ values)
  unfolding spots_upto is_at_end
  clear_each Room step zero earlier spot [] few are room = (refl, refl)
  clear_each Room step zero earlier spot (value ∷ values) few are room =
      let here = step earlier spot value values are.0 are.1 room are.2 are.3 in
      absurd (some_left spot here.some (omega arith))
  clear_each Room step (suc n) earlier spot [] few are room = rw are (refl, refl)
  clear_each Room step (suc n) earlier spot (value ∷ values) few are room =
      let here = step earlier spot value values are.0 are.1 room are.2 are.3 in
      let rest = clear_each Room step n (earlier ++ spot ∷ []) (after spot) values (less_after spot n few) (rw here.after_is are.4) here.room in (
        rw (here.some, here.no_fault, rest.0) refl,
        rw here.some (ap (λ (x : A). x ∷ map at (spots_upto n (after spot))) here.value_is ∙ ap (λ (xs : List A). value ∷ xs) rest.1),
      )
