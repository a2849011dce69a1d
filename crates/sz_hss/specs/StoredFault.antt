-- The first wrong byte of a stored key, as a function of the bytes.
use Rattle.std.specs.Prelude.{◌≡◌, ℕ, zero, suc, ◌+◌, ◌*◌, ◌==◌, ◌||◌, nat_le, if◌then◌else◌, Bool, List, [], ◌∷◌, ◌++◌, length, take, drop, slice_index, Option, Some, None}
use Rattle.std.specs.Int.{w64, from_be_bytes}
use Rattle.sz_lms_tree.specs.Tree.{is_height, is_width}
use Rattle.sz_hss.specs.Key.{Shape}
use Rattle.sz_hss.specs.Leaf.{leaves_below}

-- the place that stands beside the first test that fails
unfoldable pub first_wrong : List (Bool × ℕ) → Option ℕ
first_wrong [] = None
first_wrong (test ∷ tests) = if test.0 then first_wrong tests else Some test.1

abbrev pub is_level_count : ℕ → Bool
is_level_count count = count == 1 || count == 2 || count == 3

-- where the shape of level k stands, the height before the width
abbrev pub shape_place : ℕ → ℕ
shape_place k = 2 + 2 * k

-- on the shapes of n levels from level k on
abbrev pub shape_tests : List ℕ → ℕ → ℕ → List (Bool × ℕ)
shape_tests bytes k zero = []
shape_tests bytes k (suc n) =
    (is_height (slice_index bytes (shape_place k)), shape_place k)
    ∷ (is_width (slice_index bytes (shape_place k + 1)), shape_place k + 1)
    ∷ shape_tests bytes (k + 1) n

-- the shape of level k
abbrev pub shape_at : List ℕ → ℕ → Shape
shape_at bytes k = record { height = slice_index bytes (shape_place k); width = slice_index bytes (shape_place k + 1) }

-- the shapes of n levels from level k on
abbrev pub shapes_in : List ℕ → ℕ → ℕ → List Shape
shapes_in bytes k zero = []
shapes_in bytes k (suc n) = shape_at bytes k ∷ shapes_in bytes (k + 1) n

-- where next and end stand behind the shapes of so many levels, SEED and I, and how long the form is
abbrev pub next_place : ℕ → ℕ
next_place count = shape_place count + 48

abbrev pub end_place : ℕ → ℕ
end_place count = next_place count + 8

abbrev pub stored_size : ℕ → ℕ
stored_size count = end_place count + 8

-- n bytes at a place
abbrev pub part : List ℕ → ℕ → ℕ → List ℕ
part bytes at n = take n (drop at bytes)

-- the number in the eight bytes at a place
abbrev pub u64_at : List ℕ → ℕ → ℕ
u64_at bytes at = from_be_bytes w64 (part bytes at 8)

-- on what stands behind the shapes of so many levels: the bytes are there, next is at most the end, the end is at most
-- the number of leaves, and nothing follows
abbrev pub field_tests : List ℕ → ℕ → List (Bool × ℕ)
field_tests bytes count =
    (nat_le (stored_size count) (length bytes), length bytes)
    ∷ (nat_le (u64_at bytes (next_place count)) (u64_at bytes (end_place count)), next_place count)
    ∷ (nat_le (u64_at bytes (end_place count)) (leaves_below (shapes_in bytes 0 count)), end_place count)
    ∷ (nat_le (length bytes) (stored_size count), stored_size count)
    ∷ []

-- the first test that fails has this place, and this is the byte there
pub record IsWrong (bytes : List ℕ) (tests : List (Bool × ℕ)) (place value : ℕ) : Type 0 where
  pub first : first_wrong tests ≡ Some place
  pub byte : value ≡ slice_index bytes place

-- The tests in their order, each with the place of the byte that is wrong where it fails. A byte past the end reads as
-- 0, which is no version, count, height or width.
unfoldable pub stored_tests : List ℕ → List (Bool × ℕ)
stored_tests bytes =
    (slice_index bytes 0 == 1, 0)
    ∷ (is_level_count (slice_index bytes 1), 1)
    ∷ (shape_tests bytes 0 (slice_index bytes 1) ++ field_tests bytes (slice_index bytes 1))

-- the version, the number of levels and their shapes stand at the front
pub record HasHead (bytes : List ℕ) (shapes : List Shape) : Type 0 where
  pub version : slice_index bytes 0 ≡ 1
  pub count : slice_index bytes 1 ≡ length shapes
  pub there : shapes ≡ shapes_in bytes 0 (length shapes)
