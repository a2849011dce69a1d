-- A walk over the items that another holds: what is left to be walked, and the faults of what was.
use Rattle.std.proofs.Common.{◌≡◌, true, false, List, [], ◌∷◌, ◌++◌, Option, Some, None, refl, sym, ap, ◌∙◌, append_assoc}
use Rattle.std.proofs.lemmas.List.{append-nil}
use Rattle.sz_der.specs.Spots.{after, is_at_end, or_later, Spot, spots_from}
use Rattle.sz_der.proofs.SpotLists.{spots_end, spots_step}
use Rattle.sz_cms.specs.MessageFault.{each_after, Fault}

-- from the start the walk has passed the earlier spots and stands at this one
pub record Walks (fault : List Spot → Spot → Option Fault) (start : Spot) (earlier : List Spot) (now : Spot) : Type 0 where
  pub joined : spots_from start ≡ earlier ++ spots_from now
  pub same_fault : each_after fault [] (spots_from start) ≡ each_after fault earlier (spots_from now)

later_of : (first : Option Fault) (rest : Option Fault) → first ≡ None → or_later first rest ≡ rest
later_of None rest e = refl
later_of (Some fault) rest e = absurd cc

first_is : (first : Option Fault) (rest : Option Fault) (fault : Fault) → first ≡ Some fault → or_later first rest ≡ Some fault
first_is None rest fault e = absurd cc
first_is (Some other) rest fault e = e

alone_is : (one : Option Fault) → or_later one None ≡ one
alone_is None = refl
alone_is (Some fault) = refl

module _ (fault : List Spot → Spot → Option Fault) (start : Spot) where
  pub walks_start : Walks fault start [] start
  walks_start = record { joined = refl; same_fault = refl }

  pub walks_step : (earlier : List Spot) (now : Spot) → Walks fault start earlier now → is_at_end now ≡ false → fault earlier now ≡ None →
      Walks fault start (earlier ++ now ∷ []) (after now)
  walks_step earlier now walks more none =
      let step = spots_step now more in
      let rest = each_after fault (earlier ++ now ∷ []) (spots_from (after now)) in
      let passed : each_after fault earlier (now ∷ spots_from (after now)) ≡ rest =
      later_of (fault earlier now) (or_later rest None) none ∙ alone_is rest in
      record {
        joined = walks.joined ∙ ap (λ (spots : List Spot). earlier ++ spots) step ∙ sym (append_assoc earlier (now ∷ []) (spots_from (after now)));
        same_fault = walks.same_fault ∙ ap (λ (spots : List Spot). each_after fault earlier spots) step ∙ passed;
      }

  pub walks_end : (earlier : List Spot) (now : Spot) → Walks fault start earlier now → is_at_end now ≡ true →
      (each_after fault [] (spots_from start) ≡ None) × (spots_from start ≡ earlier)
  walks_end earlier now walks end =
      let none = spots_end now end in (
        walks.same_fault ∙ ap (λ (spots : List Spot). each_after fault earlier spots) none,
        walks.joined ∙ ap (λ (spots : List Spot). earlier ++ spots) none ∙ append-nil earlier,
      )

  pub walks_fault : (earlier : List Spot) (now : Spot) (found : Fault) → Walks fault start earlier now → is_at_end now ≡ false →
      fault earlier now ≡ Some found → each_after fault [] (spots_from start) ≡ Some found
  walks_fault earlier now found walks more is =
      let step = spots_step now more in
      walks.same_fault ∙ ap (λ (spots : List Spot). each_after fault earlier spots) step
      ∙ first_is (fault earlier now) _ found is
