-- A slot: a payload behind a gate.
use Rattle.std.specs.Prelude.{◌≡◌, ℕ, ◌+◌, ◌*◌, List, [], ◌∷◌, ◌++◌, length, slice_index, Bool, ◌==◌, if◌then◌else◌}
use Rattle.std.specs.Int.{w32, w64, from_be_bytes, to_be_bytes}
use Rattle.sz_disk.specs.Image.{part}

-- The fields, by their places in the slot's bytes: the gate at 0, the sequence at 1 to 8 and the length at 9 to
-- 12, high byte first, and the payload from 16 on. The bytes 13 to 15 are written as zeros and mean nothing.
pub record Slot : Type 0 where
  pub gate : ℕ
  pub sequence : ℕ
  pub size : ℕ
  pub payload : List ℕ

-- how many bytes of a slot stand before its payload
abbrev pub header_size : ℕ
header_size = 16

-- how many bytes a slot has
abbrev pub slot_size : ℕ → ℕ
slot_size capacity = header_size + capacity

-- how many bytes a region has: two slots
abbrev pub region_size : ℕ → ℕ
region_size capacity = 2 * slot_size capacity

unfoldable pub slot_of : List ℕ → Slot
slot_of bytes = record {
  gate = slice_index bytes 0;
  sequence = from_be_bytes w64 (part bytes 1 8);
  size = from_be_bytes w32 (part bytes 9 4);
  payload = part bytes header_size (from_be_bytes w32 (part bytes 9 4));
}

-- the gate of an open slot; any other is closed
abbrev pub open_gate : ℕ
open_gate = 165

-- the gate that is written to close a slot
abbrev pub closed_gate : ℕ
closed_gate = 0

abbrev pub is_open : Slot → Bool
is_open slot = slot.gate == open_gate

-- what is written behind the gate
unfoldable pub spelled : ℕ → List ℕ → List ℕ
spelled sequence payload =
    to_be_bytes w64 sequence ++ to_be_bytes w32 (length payload) ++ (0 ∷ 0 ∷ 0 ∷ []) ++ payload

-- the slot has this sequence and this payload behind its gate
pub record IsSpelled (slot : Slot) (sequence : ℕ) (payload : List ℕ) : Type 0 where
  pub sequence_is : slot.sequence ≡ sequence
  pub size_is : slot.size ≡ length payload
  pub payload_is : slot.payload ≡ payload

-- where a slot begins in a region from `at` on
unfoldable pub place : ℕ → ℕ → ℕ → ℕ
place at capacity slot = if slot == 0 then at else at + slot_size capacity

-- a slot of an image
unfoldable pub slot_in : ℕ → ℕ → ℕ → List ℕ → Slot
slot_in at capacity slot image = slot_of (part image (place at capacity slot) (slot_size capacity))
