-- What a call of a cell writes, byte for byte.
use Rattle.std.specs.Prelude.{◌≡◌, ◌≢◌, ℕ, List, [], ◌∷◌, length, slice_index, Some, Result, OnOk}
use Rattle.std.specs.Option.{option_map}
use Rattle.sz_disk.specs.Disk.{Seen, IsQuiet, IsSettled, TornIn}
use Rattle.sz_disk.specs.Image.{patched}
use Rattle.sz_cell.specs.Slot.{open_gate, closed_gate}

-- These bytes were written from a place on, and everything is synced: a read gives them there and elsewhere what
-- it gave before, and a crash leaves what a read gives.
pub record Wrote (at : ℕ) (bytes : List ℕ) (old new : Seen) : Type 0 where
  pub reads : new.reads ≡ option_map (patched at bytes) old.reads
  pub settled : IsSettled new

-- A call that writes these bytes and syncs, and writes nowhere else.
pub record Writes {T E : Type 0} (at : ℕ) (bytes : List ℕ) (old new : Seen) (result : Result T E) : Type 0 where
  pub ok : OnOk result (Wrote at bytes old new)
  pub elsewhere : TornIn at (length bytes) old new

-- A call that closes the gate at a place: it writes a closed gate and syncs where the gate reads open, and writes
-- nothing where it reads closed. It writes nowhere else.
pub record ClosesGate {T E : Type 0} (at : ℕ) (old new : Seen) (result : Result T E) : Type 0 where
  pub where_open : (bytes : List ℕ) → old.reads ≡ Some bytes → slice_index bytes at ≡ open_gate
      → OnOk result (Wrote at (closed_gate ∷ []) old new)
  pub where_closed : (bytes : List ℕ) → old.reads ≡ Some bytes → slice_index bytes at ≢ open_gate → IsQuiet old new
  pub elsewhere : TornIn at 1 old new
