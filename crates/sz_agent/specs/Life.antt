-- The life of a device's disk: one boot after another, and power cuts at any moment of them and between them.
use Rattle.std.specs.Prelude.{◌≡◌, ◌⊎◌, ℕ, ◌≤◌, IsTrue, List, [], ◌∷◌, Some, is_some, count_by}
use Rattle.sz_base.specs.declared.identity.Identity.{Identity}
use Rattle.sz_disk.specs.Disk.{Seen, IsSettled}
use Rattle.sz_record.specs.declared.device.Device.{Device}
use Rattle.sz_state.specs.Stands.{Stands}
use Rattle.sz_state.specs.Step.{factory}
use Rattle.sz_step.specs.Boots.{Boot, commits, Follow}
use Rattle.sz_step.specs.Lawful.{Lawful}
use Rattle.sz_agent.specs.Crash.{Changes, ReadsAs}

-- One boot: the disk as it began and as it ended, or as it would have ended where the power was cut.
pub record Run (D : Type 0) : Type 0 where
  pub old : D
  pub new : D

-- what the contract of `boot` says of the disk, whatever device this reads as
abbrev pub IsBoot : {D : Type 0} → (D → Seen) → Run D → Type 0
IsBoot seen run = (before : Device) (sequence : ℕ) → ReadsAs (seen run.old) before sequence
    → Changes seen run.old run.new before

-- The power was cut at some moment since the old disk, in a boot that would have come to the last one or behind it.
-- The disk then has the one image that this left.
pub record IsPoweredUp (old last new : Seen) : Type 0 where
  pub image : List ℕ
  pub left : last.since old.moment image
  pub reads : new.reads ≡ Some image
  pub settled : IsSettled new

-- the next boot begins with the disk as this one left it, or with what a cut left of it
abbrev pub GoesOn : {D : Type 0} → (D → Seen) → Run D → D → Type 0
GoesOn seen run next = (next ≡ run.new) ⊎ IsPoweredUp (seen run.old) (seen run.new) (seen next)

-- boots one after another, from the first disk to the last, on disks that tell their bytes
abbrev pub Lives : {D : Type 0} → (D → Seen) → D → List (Run D) → D → Type 0
Lives seen first [] last = last ≡ first
Lives {D} seen first (run ∷ runs) last =
    (run.old ≡ first) × IsBoot seen run
    × ((next : D) × IsTrue (is_some (seen next).reads) × GoesOn seen run next × Lives seen next runs last)

-- the device that these boots leave of the first one
abbrev pub left_by : Device → List Boot → Device
left_by first [] = first
left_by first (boot ∷ boots) = left_by boot.after boots

-- The image stands for a device that a list of safe boots leaves, from the one that was made with this identity. So
-- all that it has is named by evidence that authorises it at its stored moment, and at most one of these boots
-- committed it.
pub record ComesOfBoots (identity : Identity) (image : List ℕ) : Type 0 where
  pub boots : List Boot
  pub follow : Follow (factory identity) boots
  pub stands : Stands image (left_by (factory identity) boots)
  pub lawful : Lawful (left_by (factory identity) boots)
  pub once : count_by commits boots ≤ 1
