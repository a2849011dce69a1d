-- Bytes of texts.
use Rattle.std.specs.Prelude.{◌≡◌, ◌≢◌, ℕ, ◌<◌, ◌==◌, Bool, List, length, slice_index}
use Rattle.std.specs.List.{list_any}

-- the byte is one of these marks
abbrev pub is_one_of : List ℕ → ℕ → Bool
is_one_of marks byte = list_any (λ mark. mark == byte) marks

-- the byte is a colon
abbrev pub is_colon : ℕ → Bool
is_colon byte = byte == 58

-- the last colon of the text stands at this place
pub record IsLastColon (text : List ℕ) (place : ℕ) : Type 0 where
  pub inside : place < length text
  pub colon : slice_index text place ≡ 58
  pub last : (k : ℕ) → place < k → k < length text → slice_index text k ≢ 58
