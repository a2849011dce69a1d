-- What the calls do to the device that a disk stands for.
use Rattle.std.specs.Prelude.{◌≡◌, ◌⊎◌, ℕ, List, Result, Ok, Err, IfOk, OnOk}
use Rattle.sz_base.specs.declared.identity.Identity.{Identity}
use Rattle.sz_disk.specs.Disk.{Seen, IsSettled, LeavesOnly, TornIn}
use Rattle.sz_cell.specs.Cell.{IsReady, Kept, MeansEither, ReadMeans}
use Rattle.sz_cell.specs.Meaning.{damaged, meaning, none}
use Rattle.sz_cell.specs.Slot.{region_size}
use Rattle.sz_cell.specs.Transition.{IsInUse}
use Rattle.sz_record.specs.Fault.{IsBadAt}
use Rattle.sz_record.specs.Size.{size_of}
use Rattle.sz_record.specs.Spelling.{new_version, record_bytes}
use Rattle.sz_record.specs.Stored.{IsStored}
use Rattle.sz_record.specs.declared.device.Device.{Device}
use Rattle.sz_state.specs.Fitting.{Fits}
use Rattle.sz_state.specs.Layout.{capacity_of, cell_place}
use Rattle.sz_state.specs.Held.{IsHeld, ReadHas}
use Rattle.sz_state.specs.Stands.{HasBadRecord, HasRecord, Stands, StandsAnew}
use Rattle.sz_state.specs.Step.{factory}
use Rattle.sz_state.specs.declared.fault.StateFault.{StateFault}
use Rattle.sz_state.specs.declared.fault.StateFault.TheVariants.{Failed, NotInitialised, Damaged, BadRecord, InUse, Exhausted, OutOfMemory, TooLarge}
use Rattle.sz_state.specs.declared.held.Held.{Held}

-- every image that a crash now may leave stands for the device
abbrev pub NowStands : Seen → Device → Type 0
NowStands disk device = (image : List ℕ) → disk.leaves image → Stands image device

-- every image that a crash now may leave stands for the device by a record of version 2
abbrev pub NowStandsAnew : Seen → Device → Type 0
NowStandsAnew disk device = (image : List ℕ) → disk.leaves image → StandsAnew image device

-- An image means what one means that a crash might have left before, or it stands for the device by a record of
-- version 2.
abbrev pub AsBeforeOrStands : Seen → Device → List ℕ → Type 0
AsBeforeOrStands old device image =
    ((before : List ℕ) × old.leaves before
    × (meaning cell_place (capacity_of old.size) image ≡ meaning cell_place (capacity_of old.size) before))
    ⊎ StandsAnew image device

-- the stored form of the device has this size, capped, and does not fit
pub record IsTooLarge (capacity : ℕ) (device : Device) (found : ℕ) : Type 0 where
  pub size_is : found ≡ size_of (record_bytes new_version device)
  pub over : ¬ (Fits capacity device)

-- why a device as it is made has no record: it does not fit, or memory ran out
abbrev pub IsNoRecord : ℕ → Device → StateFault → Type 0
IsNoRecord capacity device fault =
    (fault ≡ OutOfMemory) ⊎ ((found : ℕ) × (fault ≡ TooLarge found) × IsTooLarge capacity device found)

-- the answers that come before the disk is called
abbrev pub IsEarly : StateFault → Type 0
IsEarly fault = (fault ≡ OutOfMemory) ⊎ ((found : ℕ) × (fault ≡ TooLarge found))

-- Every image stands for the device as it is made, by a record of version 2 with the first sequence, and everything is
-- synced.
pub record IsInitialised (disk : Seen) (identity : Identity) : Type 0 where
  pub stands : NowStandsAnew disk (factory identity)
  pub first : (image : List ℕ) → disk.leaves image → HasRecord image (factory identity) 1
  pub settled : IsSettled disk

-- What `init` answers: that the disk is made, or the first open gate, or that the record does not fit. Where the disk
-- failed or memory ran out, nothing is said here.
abbrev pub Made : Seen → Seen → Identity → Result (Unit {0}) StateFault → Type 0
Made old new identity (Ok made) = IsInitialised new identity
Made old new identity (Err (InUse slot)) = IsInUse cell_place (capacity_of old.size) slot old new
Made old new identity (Err (TooLarge found)) = IsTooLarge (capacity_of old.size) (factory identity) found
Made old new identity (Err Failed) = Unit {0}
Made old new identity (Err OutOfMemory) = Unit {0}
Made old new identity (Err NotInitialised) = ⊥
Made old new identity (Err (Damaged slot sequence length)) = ⊥
Made old new identity (Err (BadRecord place value)) = ⊥
Made old new identity (Err (Exhausted sequence)) = ⊥

-- Every answer of `init` but `TooLarge` and want of memory comes where the record fits.
abbrev pub FitsUnlessTold : Seen → Identity → Result (Unit {0}) StateFault → Type 0
FitsUnlessTold old identity (Ok made) = Fits (capacity_of old.size) (factory identity)
FitsUnlessTold old identity (Err Failed) = Fits (capacity_of old.size) (factory identity)
FitsUnlessTold old identity (Err (InUse slot)) = Fits (capacity_of old.size) (factory identity)
FitsUnlessTold old identity (Err (TooLarge found)) = Unit {0}
FitsUnlessTold old identity (Err OutOfMemory) = Unit {0}
FitsUnlessTold old identity (Err NotInitialised) = ⊥
FitsUnlessTold old identity (Err (Damaged slot sequence length)) = ⊥
FitsUnlessTold old identity (Err (BadRecord place value)) = ⊥
FitsUnlessTold old identity (Err (Exhausted sequence)) = ⊥

-- What `attach` answers: the device of the disk, or why it has none, by the bytes as they are read. Where the disk
-- failed or memory ran out, nothing is said here.
abbrev pub Found : Seen → Seen → Result Held StateFault → Type 0
Found old new (Ok held) = IsHeld new held
Found old new (Err NotInitialised) = ReadMeans cell_place (capacity_of old.size) old.reads none
Found old new (Err (Damaged slot sequence length)) =
    ReadMeans cell_place (capacity_of old.size) old.reads (damaged slot sequence length)
Found old new (Err (BadRecord place value)) = ReadHas old.reads (λ bytes. HasBadRecord bytes place value)
Found old new (Err Failed) = Unit {0}
Found old new (Err OutOfMemory) = Unit {0}
Found old new (Err (InUse slot)) = ⊥
Found old new (Err (Exhausted sequence)) = ⊥
Found old new (Err (TooLarge size)) = ⊥

-- What reading the record of a cell answers: the device whose stored form the payload is, or the payload's first wrong
-- byte.
abbrev pub RecordFound : Seen → ℕ → Kept → Result Held StateFault → Type 0
RecordFound disk space kept (Ok held) =
    (held.ready ≡ kept) × ((payload : List ℕ) × IsReady disk kept payload × IsStored space payload held.device)
RecordFound disk space kept (Err (BadRecord place value)) =
    (payload : List ℕ) × IsReady disk kept payload × IsBadAt space payload place value
RecordFound disk space kept (Err Failed) = Unit {0}
RecordFound disk space kept (Err OutOfMemory) = Unit {0}
RecordFound disk space kept (Err NotInitialised) = ⊥
RecordFound disk space kept (Err (Damaged slot sequence length)) = ⊥
RecordFound disk space kept (Err (InUse slot)) = ⊥
RecordFound disk space kept (Err (Exhausted sequence)) = ⊥
RecordFound disk space kept (Err (TooLarge size)) = ⊥

-- What replacing the record of a cell does: at any moment a crash leaves the payload from before or the next one, and
-- after success the next one alone; nothing outside the cell is written.
pub record RecordReplaced (old new : Seen) (kept : Kept) (before after : List ℕ) (result : Result Held StateFault)
    : Type 0 where
  pub ready : IfOk result (λ held. IsReady new held.ready after)
  pub at : IfOk result (λ held. held.ready.at ≡ kept.at)
  pub capacity : IfOk result (λ held. held.ready.capacity ≡ kept.capacity)
  pub settled : OnOk result (IsSettled new)
  pub any_moment : LeavesOnly old new (MeansEither kept before after)
  pub torn : TornIn kept.at (region_size kept.capacity) old new
