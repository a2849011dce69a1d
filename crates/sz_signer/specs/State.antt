-- What contracts see of a signer.
use Rattle.std.specs.Prelude.{◌≡◌, ◌+◌, ◌^◌, ℕ, Option, Some, None}
use Rattle.sz_cell.specs.Cell.{Kept, IsReady}
use Rattle.sz_disk.specs.Disk.{Seen}
use Rattle.sz_hss.specs.Stored.{StoredKey, spelled}
use Rattle.sz_signer.specs.KeyDisk.{key_place, key_capacity}

-- The stored key, and what its cell keeps: nothing once a reservation did not come to its end.
pub record SignerState : Type 0 where
  pub stored : StoredKey
  pub cell : Option Kept

-- the signer once a reservation did not come to its end
abbrev pub spent : SignerState → SignerState
spent signer = record { stored = signer.stored; cell = None }

-- a signer's cell is that of a key disk
abbrev pub IsKeyCell : Option Kept → Type 0
IsKeyCell None = Unit {0}
IsKeyCell (Some kept) = (kept.at ≡ key_place) × (kept.capacity ≡ key_capacity)

-- the cell's value has this sequence, and it is the last that there is
abbrev pub HasLast : Option Kept → ℕ → Type 0
HasLast None sequence = ⊥
HasLast (Some kept) sequence = (sequence ≡ kept.sequence) × (kept.sequence + 1 ≡ 2 ^ 64)

-- The signer's cell is there, and what it says holds of the disk: every image that a crash now may leave has the bytes
-- that the disk reads, and means the signer's key with its next leaf number and its end.
pub record Holds (disk : Seen) (signer : SignerState) : Type 0 where
  pub kept : Kept
  pub cell_is : signer.cell ≡ Some kept
  pub ready : IsReady disk kept (spelled signer.stored)
