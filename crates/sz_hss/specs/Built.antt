-- Where the trees of a key stand that have been built.
use Rattle.std.specs.Prelude.{◌≡◌, ℕ, ◌<◌, List, length, slice_index_or}
use Rattle.sz_lms_tree.specs.Tree.{TreeSecret}

-- the tree at this place is the secret's
pub record IsTreeAt (trees : List TreeSecret) (place : ℕ) (secret : TreeSecret) : Type 0 where
  pub there : place < length trees
  pub is : (d : TreeSecret) → slice_index_or trees place d ≡ secret
