-- What comes between two runs on a disk: nothing, a cut of the power, or the end of a process.
use Rattle.std.specs.Prelude.{◌≡◌, ◌⊎◌, ℕ, List, is_some}
use Rattle.sz_disk.specs.Disk.{Seen, IsSettled, IsStill}

-- A run that began at the old disk, and would have come to the last one, was broken off at some moment of it, and what
-- goes on finds the next disk. Each image that a crash may leave of it is one that a crash since the old moment might
-- have left. That is more than may come of it: the moment isn't told, and after a process that ended without a cut of
-- the power a crash leaves no image of an earlier moment.
pub record Killed (old last next : Seen) : Type 0 where
  pub size : next.size ≡ last.size
  pub told : is_some next.reads ≡ is_some last.reads
  pub left : (image : List ℕ) → next.leaves image → last.since old.moment image

-- it was broken off by a cut of the power: the next disk has one image, and a crash leaves no other
pub record PoweredUp (old last next : Seen) : Type 0 where
  pub killed : Killed old last next
  pub settled : IsSettled next

-- What goes on after a run finds the disk as the run left it, or the run was broken off.
abbrev pub GoesOn : Seen → Seen → Seen → Type 0
GoesOn old last next = IsStill last next ⊎ (PoweredUp old last next ⊎ Killed old last next)
