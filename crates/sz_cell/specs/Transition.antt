-- What the calls of a cell do to its value.
use Rattle.std.specs.Prelude.{◌≡◌, ◌⊎◌, ℕ, List, length, Result, OnOk}
use Rattle.sz_disk.specs.Disk.{Seen, LeavesOnly, IsSettled, IsSynced}
use Rattle.sz_cell.specs.Cell.{Kept, Pending, Means, MeansEither, IsReady, IsCleared, IsFilled, ReadMeans, IsFirstOpen, NoneOpen, next_of, formatted}
use Rattle.sz_cell.specs.Meaning.{Meaning, value, meaning}

-- What `clear` does to a cell that is ready with this payload.
pub record ClearRan {T E : Type 0} (old new : Seen) (kept : Kept) (payload : List ℕ)
    (result : Result T E) : Type 0 where
  pub ok : OnOk result (IsCleared new kept payload)
  pub any_moment : LeavesOnly old new (Means kept payload)

-- What `fill` does to a cleared one.
pub record FillRan {T E : Type 0} (old new : Seen) (pending : Pending) (payload next : List ℕ)
    (result : Result T E) : Type 0 where
  pub ok : OnOk result (IsFilled new pending payload next)
  pub any_moment : LeavesOnly old new (Means pending.kept payload)

-- What `publish` does to a filled cell, and `replace` to a ready one: at any moment a crash leaves the value from
-- before or the next one, and after success the next one alone.
pub record Replaced {T E : Type 0} (old new : Seen) (pending : Pending) (before after : List ℕ)
    (result : Result T E) : Type 0 where
  pub ok : OnOk result (IsReady new (next_of pending) after)
  pub settled : OnOk result (IsSettled new)
  pub any_moment : LeavesOnly old new (MeansEither pending.kept before after)

-- What `attach` finds in the region: the value that it means as the disk reads it.
pub record IsAttached (at capacity : ℕ) (disk : Seen) (kept : Kept) : Type 0 where
  pub at_is : kept.at ≡ at
  pub capacity_is : kept.capacity ≡ capacity
  pub payload : List ℕ
  pub read : ReadMeans at capacity disk.reads (value kept.slot kept.sequence payload)
  pub ready : IsReady disk kept payload

-- What `format` makes of a region in which no gate reads open.
pub record Formatted (at capacity : ℕ) (old new : Seen) (payload : List ℕ) : Type 0 where
  pub free : NoneOpen at capacity old.reads
  pub ready : IsReady new (formatted at capacity (length payload)) payload
  pub settled : IsSettled new

-- What keeps `format` from writing: once everything is synced, this gate, the first such one, reads open.
pub record IsInUse (at capacity slot : ℕ) (old new : Seen) : Type 0 where
  pub first_open : IsFirstOpen at capacity slot old.reads
  pub synced : IsSynced old new

-- an image means what one means that a crash might have left before, or it means this
abbrev pub MeansAsBeforeOr : ℕ → ℕ → (List ℕ → Type 0) → Meaning → List ℕ → Type 0
MeansAsBeforeOr at capacity leaves m image =
    ((before : List ℕ) × leaves before × (meaning at capacity image ≡ meaning at capacity before))
    ⊎ (meaning at capacity image ≡ m)
