-- What the bytes of a cell's region mean.
use Rattle.std.specs.Prelude.{ℕ, List, Bool, ◌&&◌, ◌||◌, not, ◌==◌, nat_lt, if◌then◌else◌}
use Rattle.sz_cell.specs.Slot.{Slot, is_open, slot_in}

-- no value, a damage, or a value, with the number of its slot
pub data Meaning : Type 0 where
  none : Meaning
  damaged : (slot sequence size : ℕ) → Meaning
  value : (slot sequence : ℕ) (payload : List ℕ) → Meaning

-- an open slot whose length exceeds the capacity, or whose sequence the other one has too and is open
abbrev pub is_damaged : ℕ → Slot → Slot → Bool
is_damaged capacity slot other =
    is_open slot && (nat_lt capacity slot.size || (is_open other && (slot.sequence == other.sequence)))

-- an open slot, where the other one is closed or has a smaller sequence
abbrev pub is_newest : Slot → Slot → Bool
is_newest slot other =
    is_open slot && (not (is_open other) || nat_lt other.sequence slot.sequence)

-- The first damage, or else the value of the open slot with the greater sequence, or none where no gate is open.
unfoldable pub meaning_of : ℕ → Slot → Slot → Meaning
meaning_of capacity first second =
    if is_damaged capacity first second then damaged 0 first.sequence first.size else
    (if is_damaged capacity second first then damaged 1 second.sequence second.size else
    (if is_newest first second then value 0 first.sequence first.payload else
    (if is_newest second first then value 1 second.sequence second.payload else none)))

-- what an image's bytes mean in the region of this capacity from `at` on
unfoldable pub meaning : ℕ → ℕ → List ℕ → Meaning
meaning at capacity image = meaning_of capacity (slot_in at capacity 0 image) (slot_in at capacity 1 image)
