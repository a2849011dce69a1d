-- What a writer does to the bytes that it adds to.
use Rattle.std.specs.Prelude.{◌≡◌, ℕ, List, ◌++◌}

-- this part now stands behind what there was
pub record Appends (part old new : List ℕ) : Type 0 where
  pub is : new ≡ old ++ part
