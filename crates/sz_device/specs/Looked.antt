-- What it comes to that the device under a word is looked at: `show` and `audit` differ in what they tell of it.
use Rattle.std.specs.Prelude.{◌≡◌, ◌⊎◌, ℕ, false, List, Option, None, Result, Ok, Err}
use Rattle.sz_agent.specs.Boot.{ReadsDevice}
use Rattle.sz_agent.specs.Crash.{ReadsAs}
use Rattle.sz_cell.specs.Cell.{ReadMeans}
use Rattle.sz_cell.specs.Meaning.{damaged, none}
use Rattle.sz_commands.specs.Disks.{ChangesDisk, disk_under}
use Rattle.sz_commands.specs.Failure.{Failure, Damaged, DiskFault, NoFile, NotInitialised, OutOfMemory, SizeRefused, blames, blames_disk}
use Rattle.sz_disk.specs.Disk.{IsStill, Seen}
use Rattle.sz_record.specs.declared.device.Device.{Device}
use Rattle.sz_spec.specs.Cause.{HasCause}
use Rattle.sz_state.specs.Held.{ReadHas}
use Rattle.sz_state.specs.Layout.{HasLayout, capacity_of, cell_place}
use Rattle.sz_state.specs.Stands.{HasBadRecord}

-- what is told of a device, where the disk reads so
abbrev pub Tells : Type 0 → Type 1
Tells T = Option (List ℕ) → Device → T → Type 0

-- The disk reads as a device of which this holds, and it holds of each device as which it reads.
pub record OfDevice (disk : Seen) (P : Device → Type 0) : Type 0 where
  pub some : ReadsDevice disk.reads P
  pub each : (device : Device) (sequence : ℕ) → ReadsAs disk device sequence → P device

-- what the disk reads means a damage, told by a slot and the length there, or by a byte's place and the byte
abbrev pub ReadsDamage : Seen → ℕ → ℕ → Type 0
ReadsDamage disk place value =
    ((sequence : ℕ) × ReadMeans cell_place (capacity_of disk.size) disk.reads (damaged place sequence value))
    ⊎ ReadHas disk.reads (λ bytes. HasBadRecord bytes place value)

-- why a disk gives no device
abbrev pub IsNoDevice : Seen → Failure → Type 0
IsNoDevice disk (SizeRefused size) = (size ≡ disk.size) × ¬ (HasLayout size)
IsNoDevice disk NotInitialised =
    HasLayout disk.size × ReadMeans cell_place (capacity_of disk.size) disk.reads none
IsNoDevice disk (Damaged place value) = HasLayout disk.size × ReadsDamage disk place value
IsNoDevice disk DiskFault = HasLayout disk.size
IsNoDevice disk OutOfMemory = HasLayout disk.size
IsNoDevice disk other = ⊥

module _ {D T : Type 0} (seen : D → Seen) (tells : Tells T) where
  abbrev pub MayTell : D → Result T Failure → Type 0
  MayTell old (Ok told) = HasLayout (seen old).size × OfDevice (seen old) (λ device. tells (seen old).reads device told)
  MayTell old (Err failure) = IsNoDevice (seen old) failure

  -- The device of the disk was looked at, with this answer. Nothing was written: every image that a crash may have left
  -- since the start is one that it might have left before, and where the disk is not blamed it reads as before. It is
  -- blamed only where its count rose.
  pub record Looks (old new : D) (answer : Result T Failure) : Type 0 where
    pub may : MayTell old answer
    pub still : IsStill (seen old) (seen new)
    pub reads : blames blames_disk answer ≡ false → (seen new).reads ≡ (seen old).reads
    pub cause : HasCause (seen old).faults (seen new).faults (blames blames_disk answer)

  module _ (word : List ℕ) (before after : List (List ℕ × D)) where
    -- there is no disk under the word
    pub record IsNoDisk (answer : Result T Failure) : Type 0 where
      pub none : disk_under before word ≡ None
      pub answer_is : answer ≡ Err (NoFile word)
      pub nothing : after ≡ before

    -- there is one, and its device was looked at
    pub record IsLookAt (answer : Result T Failure) : Type 0 where
      pub old : D
      pub new : D
      pub on : ChangesDisk word before after old new
      pub looks : Looks old new answer

    abbrev pub LooksUnder : Result T Failure → Type 0
    LooksUnder answer = IsNoDisk answer ⊎ IsLookAt answer
