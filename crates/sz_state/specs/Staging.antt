-- What contracts see of the staging of an image.
use Rattle.std.specs.Prelude.{◌≡◌, ℕ, List, Some}
use Rattle.std.specs.Option.{option_map}
use Rattle.sz_disk.specs.Disk.{Seen, IsSynced, TornIn}
use Rattle.sz_disk.specs.Image.{part}
use Rattle.sz_disk.specs.Room.{Held}
use Rattle.sz_state.specs.Layout.{area_place, space_of}

-- a room over an area, of which so many bytes are used: it holds the first bytes of the area, as the disk reads them
abbrev pub room_of : Seen → ℕ → ℕ → Held
room_of disk area used = record {
  space = space_of disk.size;
  used = used;
  bytes = option_map (λ bytes. part bytes (area_place disk.size area) used) disk.reads;
  faults = disk.faults;
}

-- From one state of a staging to a later one the area stays, and writes went into it alone: where the disk tells, every
-- image since the earlier state agrees outside the area with one that might have been left then.
pub record IsLed (old new : Seen) (old_area new_area : ℕ) : Type 0 where
  pub area : new_area ≡ old_area
  pub torn : TornIn (area_place old.size old_area) (space_of old.size) old new

-- A staging that is finished: everything is synced, and every image that a crash may leave has in the area the bytes
-- that the room held.
pub record IsFinished (old new : Seen) (area used : ℕ) : Type 0 where
  pub synced : IsSynced old new
  pub placed : (image : List ℕ) → new.leaves image
      → (room_of old area used).bytes ≡ Some (part image (area_place old.size area) used)
