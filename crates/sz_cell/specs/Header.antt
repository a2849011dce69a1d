-- What the headers of two slots tell.
use Rattle.std.specs.Prelude.{◌≡◌, ◌⊎◌, ◌≤◌, ℕ, List, Option, Some, None, Result, Ok, Err}
use Rattle.sz_cell.specs.Meaning.{none, damaged, value, meaning_of}
use Rattle.sz_cell.specs.Slot.{Slot, slot_in}
use Rattle.sz_cell.specs.declared.fault.AttachFault.{AttachFault}
use Rattle.sz_cell.specs.declared.fault.AttachFault.TheVariants.{Failed, NotFormatted, Damaged}
use Rattle.sz_cell.specs.declared.header.Header.{Header}

-- the slot with this header and this payload
abbrev pub slot_with : Header → List ℕ → Slot
slot_with header payload = record {
  gate = header.gate;
  sequence = header.sequence;
  size = header.size;
  payload = payload;
}

-- what the region means, whatever payloads stand behind the headers of its two slots
abbrev pub Judges : ℕ → Header → Header → Result Header AttachFault → Type 0
Judges capacity first second (Ok found) =
    (p q : List ℕ)
    → ((found ≡ first) × (first.size ≤ capacity)
    × (meaning_of capacity (slot_with first p) (slot_with second q) ≡ value 0 first.sequence p))
    ⊎ ((found ≡ second) × (second.size ≤ capacity)
    × (meaning_of capacity (slot_with first p) (slot_with second q) ≡ value 1 second.sequence q))
Judges capacity first second (Err Failed) = ⊥
Judges capacity first second (Err NotFormatted) =
    (p q : List ℕ) → meaning_of capacity (slot_with first p) (slot_with second q) ≡ none
Judges capacity first second (Err (Damaged slot sequence length)) =
    (p q : List ℕ) → meaning_of capacity (slot_with first p) (slot_with second q) ≡ damaged slot sequence length

-- where the disk tells, this slot has this header as it is read
abbrev pub HeaderRead : ℕ → ℕ → ℕ → Option (List ℕ) → Header → Type 0
HeaderRead at capacity slot None header = Unit {0}
HeaderRead at capacity slot (Some bytes) header =
    slot_in at capacity slot bytes ≡ slot_with header (slot_in at capacity slot bytes).payload

-- where the disk tells, the two slots have these headers as they are read
abbrev pub HeadersRead : ℕ → ℕ → Option (List ℕ) → Header → Header → Type 0
HeadersRead at capacity reads first second =
    HeaderRead at capacity 0 reads first × HeaderRead at capacity 1 reads second
