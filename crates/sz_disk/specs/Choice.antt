-- Which of the images that a crash may leave a choice picks.
use Rattle.std.specs.Prelude.{◌≡◌, ℕ, zero, suc, ◌+◌, ◌*◌, ◌%◌, ◌<◌, ◌≤◌, Bool, true, false, List, length, Option, MatchOption, if◌then◌else◌, ◌==◌}
use Rattle.std.proofs.Common.{get_or}
use Rattle.sz_disk.specs.declared.event.Event.{Event}
use Rattle.sz_disk.specs.Event.{is_covered, written_over}

-- how many of the places below this one were written
abbrev pub rank : List Event → ℕ → ℕ
rank events zero = 0
rank events (suc k) = if is_covered events k then rank events k + 1 else rank events k

-- the old byte, the new one or a third, in turn
abbrev pub byte_by_turn : ℕ → ℕ → ℕ → ℕ → ℕ
byte_by_turn turn old new other = if turn == 0 then old else if turn == 1 then new else other

-- The byte that is left of the unsynced byte that has this rank. Choice 0 leaves the old one and choice 1
-- the new one.
abbrev pub picked_byte : ℕ → ℕ → ℕ → ℕ → ℕ
picked_byte choice rank old new =
    if choice == 0 then old
    else if choice == 1 then new
    else byte_by_turn (choice * (rank + 1) % 3) old new ((choice + rank) % 256)

-- The image that a choice picks: old tells the bytes of the last sync, and new is what a read gives after
-- these writes. A byte that was written twice counts once.
pub record IsPicked (choice : ℕ) (events : List Event) (old : ℕ → ℕ) (new image : List ℕ) : Type 0 where
  pub size : length image ≡ length new
  pub kept : (k : ℕ) → is_covered events k ≡ false → get_or image k 0 ≡ get_or new k 0
  pub taken : (k : ℕ) → k < length new → is_covered events k ≡ true
      → get_or image k 0 ≡ picked_byte choice (rank events k) (old k) (get_or new k 0)

-- marks of the places below this size that these events cover
pub record AreCovered (size : ℕ) (events : List Event) (marks : List Bool) : Type 0 where
  pub long : length marks ≡ size
  pub each : (k : ℕ) → k < size → get_or marks k false ≡ is_covered events k

-- the first place from one place on and before another that these events cover, with the byte that they
-- wrote over
pub record IsFirst (events : List Event) (from end : ℕ) (found : ℕ × ℕ) : Type 0 where
  pub after : from ≤ found.0
  pub within : found.0 < end
  pub covered : is_covered events found.0 ≡ true
  pub none_before : (k : ℕ) → from ≤ k → k < found.0 → is_covered events k ≡ false
  pub old : found.1 ≡ written_over events found.0

-- that place, or none where there is none
abbrev pub IsFirstFound : List Event → ℕ → ℕ → Option (ℕ × ℕ) → Type 0
IsFirstFound events from end found =
    MatchOption found ((k : ℕ) → from ≤ k → k < end → is_covered events k ≡ false) (IsFirst events from end)
