-- Keys of one to three levels of trees, all made from one secret.
use Rattle.std.specs.Prelude.{◌≡◌, ℕ, ◌≤◌, ◌&&◌, Bool, IsTrue, List, ◌∷◌, length, drop, slice_index_or}
use Rattle.std.specs.List.{list_all}
use Rattle.sz_lms_tree.specs.Tree.{TreeSecret, is_height, is_width}

-- the shape of a level's trees: their height, and the bits of a digit of their one-time signatures (w)
pub record Shape : Type 0 where
  pub height : ℕ
  pub width : ℕ

abbrev pub is_shape : Shape → Bool
is_shape shape = is_height shape.height && is_width shape.width

-- how many levels a key may have
abbrev pub most_levels : ℕ
most_levels = 3

-- the levels that a key may have, from the top
pub record AreLevels (shapes : List Shape) : Type 0 where
  pub some : 1 ≤ length shapes
  pub few : length shapes ≤ most_levels
  pub allowed : IsTrue (list_all is_shape shapes)

-- what a key is made from: the secret of its one top tree, and the shapes of the levels below, from the top
pub record HssKey : Type 0 where
  pub top : TreeSecret
  pub below : List Shape

-- the shape of the top tree
abbrev pub top_shape : HssKey → Shape
top_shape key = record { height = key.top.height; width = key.top.width }

-- its levels, from the top
abbrev pub levels_of : HssKey → List Shape
levels_of key = top_shape key ∷ key.below

-- the first of levels that are some
abbrev pub first_of : List Shape → Shape
first_of shapes = slice_index_or shapes 0 (record { height = 0; width = 0 })

-- the key of these levels that is made from SEED and I
abbrev pub key_of : List Shape → List ℕ → List ℕ → HssKey
key_of shapes seed id = record {
  top = record { seed = seed; id = id; height = (first_of shapes).height; width = (first_of shapes).width };
  below = drop 1 shapes;
}

-- a key that exists: its levels are allowed, SEED has 32 bytes and I has 16
pub record IsKey (key : HssKey) : Type 0 where
  pub levels : AreLevels (levels_of key)
  pub seed_length : length key.top.seed ≡ 32
  pub id_length : length key.top.id ≡ 16
