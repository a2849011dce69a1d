-- Levels as a text, as in `10/4,5/8` (this project's own): the height and the width of each level, from the top.
use Rattle.std.specs.Prelude.{◌≡◌, ◌==◌, ℕ, List, [], ◌∷◌, map}
use Rattle.std.specs.Fmt.{decimal}
use Rattle.std.specs.List.{join_with_byte, slice_split}
use Rattle.sz_hss.specs.Key.{Shape, AreLevels}

abbrev pub slash : ℕ
slash = 47

abbrev pub comma : ℕ
comma = 44

-- the height and the width in decimal, with a slash between them
abbrev pub shape_text : Shape → List ℕ
shape_text shape = join_with_byte slash (decimal shape.height ∷ decimal shape.width ∷ [])

-- the texts of the levels, with a comma between two
abbrev pub levels_text : List Shape → List ℕ
levels_text shapes = join_with_byte comma (map shape_text shapes)

-- the text is that of these levels, which a key may have
pub record IsLevelsText (text : List ℕ) (shapes : List Shape) : Type 0 where
  pub levels : AreLevels shapes
  pub spelled : text ≡ levels_text shapes

-- the parts of a text that a mark separates
abbrev pub parts_at : ℕ → List ℕ → List (List ℕ)
parts_at mark text = slice_split (λ byte. byte == mark) text
