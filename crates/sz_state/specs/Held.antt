-- What a device that was found says of its disk.
use Rattle.std.specs.Prelude.{◌≡◌, ◌⊎◌, ℕ, List, Option, Some, None}
use Rattle.sz_disk.specs.Disk.{Seen}
use Rattle.sz_cell.specs.Cell.{IsReady}
use Rattle.sz_record.specs.Fault.{IsBadAt}
use Rattle.sz_record.specs.Stored.{IsStored}
use Rattle.sz_state.specs.Layout.{HasLayout, capacity_of, cell_place, space_of}
use Rattle.sz_state.specs.declared.fault.StateFault.{StateFault}
use Rattle.sz_state.specs.declared.fault.StateFault.TheVariants.{BadRecord, Failed, OutOfMemory}
use Rattle.sz_state.specs.declared.held.Held.{Held}

-- The disk's size has a layout, the cell is ready, and its value is the stored form of the device: each image that a
-- crash now may leave has this record.
pub record IsHeld (disk : Seen) (held : Held) : Type 0 where
  pub layout : HasLayout disk.size
  pub at : held.ready.at ≡ cell_place
  pub capacity : held.ready.capacity ≡ capacity_of disk.size
  pub payload : List ℕ
  pub ready : IsReady disk held.ready payload
  pub stored : IsStored (space_of disk.size) payload held.device

-- where the disk tells its bytes, they are so
abbrev pub ReadHas : Option (List ℕ) → (List ℕ → Type 0) → Type 0
ReadHas None P = Unit {0}
ReadHas (Some bytes) P = P bytes

-- the disk failed, or memory ran out
abbrev pub IsReadFault : StateFault → Type 0
IsReadFault fault = (fault ≡ Failed) ⊎ (fault ≡ OutOfMemory)

-- the first wrong byte of a payload, or memory ran out
abbrev pub IsRecordFault : ℕ → List ℕ → StateFault → Type 0
IsRecordFault space payload fault =
    (fault ≡ OutOfMemory)
    ⊎ ((place : ℕ) × (value : ℕ) × (fault ≡ BadRecord place value) × IsBadAt space payload place value)
