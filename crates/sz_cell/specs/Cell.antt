-- What the states of a cell say of a disk.
use Rattle.std.specs.Prelude.{◌≡◌, ◌≢◌, ◌⊎◌, ℕ, ◌+◌, ◌-◌, ◌≤◌, ◌<◌, List, length, Option, Some, None}
use Rattle.sz_disk.specs.Disk.{Seen}
use Rattle.sz_disk.specs.Image.{part}
use Rattle.sz_cell.specs.Meaning.{Meaning, value, meaning}
use Rattle.sz_cell.specs.Slot.{Slot, IsSpelled, slot_in, place, open_gate, region_size}

-- What each state keeps: a region, and the slot, the sequence and the length of the value that stands in it.
pub record Kept : Type 0 where
  pub at : ℕ
  pub capacity : ℕ
  pub slot : ℕ
  pub sequence : ℕ
  pub size : ℕ

-- What a filled cell keeps: what a ready one does, and the length of the next payload.
pub record Pending : Type 0 where
  pub kept : Kept
  pub size : ℕ

-- what a new cell keeps
abbrev pub formatted : ℕ → ℕ → ℕ → Kept
formatted at capacity size = record { at = at; capacity = capacity; slot = 0; sequence = 1; size = size }

-- what is kept once the next value is the cell's
abbrev pub next_of : Pending → Kept
next_of pending = record {
  at = pending.kept.at;
  capacity = pending.kept.capacity;
  slot = 1 - pending.kept.slot;
  sequence = pending.kept.sequence + 1;
  size = pending.size;
}

-- the slot in which the value does not stand, and where it begins
abbrev pub spare : Kept → List ℕ → Slot
spare kept image = slot_in kept.at kept.capacity (1 - kept.slot) image

abbrev pub spare_place : Kept → ℕ
spare_place kept = place kept.at kept.capacity (1 - kept.slot)

-- the image means the value that is kept, and this is its payload
abbrev pub Means : Kept → List ℕ → List ℕ → Type 0
Means kept payload image = meaning kept.at kept.capacity image ≡ value kept.slot kept.sequence payload

-- the image means the next value: in the other slot, with the next sequence
abbrev pub MeansNext : Kept → List ℕ → List ℕ → Type 0
MeansNext kept payload image =
    meaning kept.at kept.capacity image ≡ value (1 - kept.slot) (kept.sequence + 1) payload

-- the value from before, or the next one
abbrev pub MeansEither : Kept → List ℕ → List ℕ → List ℕ → Type 0
MeansEither kept before after image = Means kept before image ⊎ MeansNext kept after image

-- the image has in the region the bytes that the disk reads
abbrev pub AsRead : ℕ → ℕ → Option (List ℕ) → List ℕ → Type 0
AsRead at capacity reads image =
    (bytes : List ℕ) × (reads ≡ Some bytes)
    × (part image at (region_size capacity) ≡ part bytes at (region_size capacity))

-- What a ready cell with this payload says: every image that a crash now may leave has in the region the bytes
-- that the disk reads, and means this one value, in the slot and with the sequence and the length that are kept.
pub record IsReady (disk : Seen) (kept : Kept) (payload : List ℕ) : Type 0 where
  pub same : (image : List ℕ) → disk.leaves image → AsRead kept.at kept.capacity disk.reads image
  pub means : (image : List ℕ) → disk.leaves image → Means kept payload image
  pub size : length payload ≡ kept.size

-- What a cleared cell says: it is ready, and the gate of the other slot is closed.
pub record IsCleared (disk : Seen) (kept : Kept) (payload : List ℕ) : Type 0 where
  pub ready : IsReady disk kept payload
  pub closed : (image : List ℕ) → disk.leaves image → (spare kept image).gate ≢ open_gate

-- What a filled cell says: it is cleared, and the other slot has the next sequence and the next payload.
pub record IsFilled (disk : Seen) (pending : Pending) (payload next : List ℕ) : Type 0 where
  pub cleared : IsCleared disk pending.kept payload
  pub spelled : (image : List ℕ) → disk.leaves image
      → IsSpelled (spare pending.kept image) (pending.kept.sequence + 1) next
  pub size : length next ≡ pending.size
  pub fits : pending.size ≤ pending.kept.capacity

-- where the disk tells its bytes, this holds
abbrev pub WhereReadsTold : Option (List ℕ) → Type 0 → Type 0
WhereReadsTold None P = Unit {0}
WhereReadsTold (Some bytes) P = P

-- where the disk tells its bytes, the region means this as the disk reads it
abbrev pub ReadMeans : ℕ → ℕ → Option (List ℕ) → Meaning → Type 0
ReadMeans at capacity None m = Unit {0}
ReadMeans at capacity (Some bytes) m = meaning at capacity bytes ≡ m

-- where the disk tells its bytes, this is the first slot whose gate reads open
abbrev pub IsFirstOpen : ℕ → ℕ → ℕ → Option (List ℕ) → Type 0
IsFirstOpen at capacity slot None = Unit {0}
IsFirstOpen at capacity slot (Some bytes) =
    (slot < 2) × ((slot_in at capacity slot bytes).gate ≡ open_gate)
    × ((k : ℕ) → k < slot → (slot_in at capacity k bytes).gate ≢ open_gate)

-- where the disk tells its bytes, no gate reads open
abbrev pub NoneOpen : ℕ → ℕ → Option (List ℕ) → Type 0
NoneOpen at capacity None = Unit {0}
NoneOpen at capacity (Some bytes) = (slot : ℕ) → slot < 2 → (slot_in at capacity slot bytes).gate ≢ open_gate

-- n bytes from a place on lie outside the region
abbrev pub IsElsewhere : ℕ → ℕ → ℕ → ℕ → Type 0
IsElsewhere at capacity from n = (from + n ≤ at) ⊎ (at + region_size capacity ≤ from)
