-- Which leaves of which trees a leaf number of a key stands for (this project's own). The lowest level counts fastest.
use Rattle.std.specs.Prelude.{ℕ, ◌+◌, ◌/◌, ◌%◌, ◌^◌, List, [], ◌∷◌}
use Rattle.sz_lms_tree.specs.Tree.{TreeSecret, child_of}
use Rattle.sz_hss.specs.Key.{Shape, HssKey}

-- the heights of levels together
abbrev pub heights_of : List Shape → ℕ
heights_of [] = 0
heights_of (shape ∷ shapes) = shape.height + heights_of shapes

-- how many leaf numbers pass through one leaf above these levels
abbrev pub leaves_below : List Shape → ℕ
leaves_below below = 2 ^ heights_of below

-- how many leaf numbers a key has
abbrev pub leaf_count : HssKey → ℕ
leaf_count key = 2 ^ (key.top.height + heights_of key.below)

-- the leaf of its tree that leaf number n uses on a level of trees of this height above these levels
abbrev pub leaf_at : ℕ → List Shape → ℕ → ℕ
leaf_at height below n = n / leaves_below below % 2 ^ height

-- and that tree's number among those of its level
abbrev pub tree_at : ℕ → List Shape → ℕ → ℕ
tree_at height below n = n / leaves_below below / 2 ^ height

-- the secret of the tree that leaf number n uses on the next level
abbrev pub child_at : TreeSecret → Shape → List Shape → ℕ → TreeSecret
child_at secret shape below n =
    child_of secret (leaf_at secret.height (shape ∷ below) n) shape.height shape.width

-- and of the one that it uses on the lowest level, below a tree above these levels
unfoldable pub lowest_at : TreeSecret → List Shape → ℕ → TreeSecret
lowest_at secret [] n = secret
lowest_at secret (shape ∷ below) n = lowest_at (child_at secret shape below n) below n
