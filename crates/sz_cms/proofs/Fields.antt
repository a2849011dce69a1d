-- A field that need not be there, and what is kept of it.
use Rattle.std.proofs.Common.{◌≡◌, ℕ, List, Option, None}
use Rattle.sz_der.specs.Spots.{after_optional, Spot}

-- a field where an item with this tag may stand has no fault, and is what is kept of it
pub record FieldClear {A F : Type 0} (fault : Option F) (at value : A) (spot : Spot) (tag : ℕ) (rest : List ℕ) : Type 0 where
  pub no_fault : fault ≡ None
  pub value_is : at ≡ value
  pub after_is : (after_optional tag spot).left ≡ rest
