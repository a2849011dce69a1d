-- The record of a disk in memory: its writes and syncs in order, each write with the bytes that it wrote
-- over.
use Rattle.std.specs.Prelude.{◌≡◌, ℕ, ◌+◌, ◌-◌, ◌≤◌, Bool, false, ◌&&◌, if◌then◌else◌, List, [], ◌∷◌, ◌++◌, length, take, drop, fold, nat_le, nat_lt, Some}
use Rattle.std.specs.List.{list_any}
use Rattle.std.proofs.Common.{get_or}
use Rattle.sz_disk.specs.declared.event.Event.{Event}
use Rattle.sz_disk.specs.declared.event.Event.TheVariants.{Wrote, Synced}
use Rattle.sz_disk.specs.Image.{patched}
use Rattle.sz_disk.specs.Disk.{Seen}

-- a write joins what is unsynced, and a sync empties it
abbrev pub joined : List Event → Event → List Event
joined pending (Wrote at old) = pending ++ Wrote at old ∷ []
joined pending Synced = []

-- the writes since the last sync
abbrev pub unsynced : List Event → List Event
unsynced events = fold joined [] events

-- whether an event wrote this place
abbrev pub covers : ℕ → Event → Bool
covers k (Wrote at old) = nat_le at k && nat_lt k (at + length old)
covers k Synced = false

-- whether one of these events wrote this place
abbrev pub is_covered : List Event → ℕ → Bool
is_covered events k = list_any (covers k) events

-- the bytes before an event, of those after it
abbrev pub undone_by : Event → List ℕ → List ℕ
undone_by (Wrote at old) bytes = patched at old bytes
undone_by Synced bytes = bytes

-- the bytes before these events, of those after them: the last is undone first
abbrev pub undone : List Event → List ℕ → List ℕ
undone [] bytes = bytes
undone (event ∷ events) bytes = undone_by event (undone events bytes)

-- A crash may leave this image, where a read gives these bytes after these events: any bytes in each range
-- that was written since the last sync, and the same elsewhere.
pub record Leaves (bytes : List ℕ) (events : List Event) (image : List ℕ) : Type 0 where
  pub size : length image ≡ length bytes
  pub kept : (k : ℕ) → is_covered (unsynced events) k ≡ false → get_or image k 0 ≡ get_or bytes k 0

-- a crash after some number of these events, from t on, may leave this image
abbrev pub LeftSince : List ℕ → List Event → ℕ → List ℕ → Type 0
LeftSince bytes events t image =
    (n : ℕ) × (t ≤ n) × (n ≤ length events) × Leaves (undone (drop n events) bytes) (take n events) image

-- what contracts see of a disk that has these bytes after these events
abbrev pub seen_after : List ℕ → List Event → ℕ → Seen
seen_after bytes events faults = record {
  reads = Some bytes;
  leaves = Leaves bytes events;
  since = LeftSince bytes events;
  moment = length events;
  faults = faults;
  size = length bytes;
}

-- the byte that stood at a place before the first of these events that wrote there
abbrev pub written_over : List Event → ℕ → ℕ
written_over [] k = 0
written_over (Wrote at old ∷ events) k =
    if covers k (Wrote at old) then get_or old (k - at) 0 else written_over events k
written_over (Synced ∷ events) k = written_over events k
