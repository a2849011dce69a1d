-- What `onboard @DISK SOURCE ..` comes to, over the disks and the objects that a boot asks, before and after.
use Rattle.std.specs.Prelude.{◌≡◌, ◌⊎◌, ℕ, List, None, Err}
use Rattle.sz_agent.specs.Crash.{Changes, ReadsAs, StandsForEither}
use Rattle.sz_commands.specs.Disks.{ChangesDisk, disk_under}
use Rattle.sz_commands.specs.Failure.{NoFile, OutOfMemory, Usage}
use Rattle.sz_device.specs.Booted.{Answer, Beside, Booted}
use Rattle.sz_device.specs.Sources.{NamesNone, NamesSources}
use Rattle.sz_disk.specs.Disk.{Seen}
use Rattle.sz_record.specs.declared.device.Device.{Device}
use Rattle.sz_source.specs.declared.source.Source.{Source}
use Rattle.sz_state.specs.Ran.{NowStands}
use Rattle.sz_step.specs.Boots.{Boot}
use Rattle.sz_step.specs.Step.{Installs}

-- the words of an onboard
pub record Words : Type 0 where
  pub disk : List ℕ
  pub sources : List (List ℕ)

-- what an onboard uses of the outside
pub record OnboardSeen (D : Type 0) : Type 0 where
  pub disks : List (List ℕ × D)
  pub beside : Beside

module _ {D : Type 0} (seen : D → Seen) (words : Words) (before after : OnboardSeen D) where
  -- some SOURCE is none or reads the disk's file, or there are too many, and nothing was done
  pub record IsNoSources (answer : Answer) : Type 0 where
    pub none : NamesNone words.disk words.sources
    pub answer_is : answer ≡ Err Usage
    pub nothing : after ≡ before

  -- memory ran out as the sources were read, and nothing was done
  pub record IsUnread (answer : Answer) : Type 0 where
    pub answer_is : answer ≡ Err OutOfMemory
    pub nothing : after ≡ before

  -- each SOURCE is one, but there is no disk under the word, and nothing was done
  pub record IsNoDisk (answer : Answer) : Type 0 where
    pub sources : List Source
    pub named : NamesSources words.disk words.sources sources
    pub none : disk_under before.disks words.disk ≡ None
    pub answer_is : answer ≡ Err (NoFile words.disk)
    pub nothing : after ≡ before

  -- there is one, and its device was booted over the sources, or not; the other disks stay
  pub record IsRunOn (answer : Answer) : Type 0 where
    pub sources : List Source
    pub named : NamesSources words.disk words.sources sources
    pub old : D
    pub new : D
    pub on : ChangesDisk words.disk before.disks after.disks old new
    pub booted : Booted seen sources old new before.beside after.beside answer

  -- An onboard answered so: for the sources first, then for the disk's word, then by the boot.
  abbrev pub OnboardRan : Answer → Type 0
  OnboardRan answer = IsNoSources answer ⊎ (IsUnread answer ⊎ (IsNoDisk answer ⊎ IsRunOn answer))

-- ---- what a status says of the boot

-- the disk under the word took part in a boot of which this holds, whatever device it read as: through any crash it
-- stands for that device or for the one after, and in the end for the one after
abbrev pub IsBootOf : {D : Type 0} → (D → Seen) → (Boot → Type 0) → Words → OnboardSeen D → OnboardSeen D → Type 0
IsBootOf {D} seen P words before after =
    (old : D) × (new : D) × ChangesDisk words.disk before.disks after.disks old new
    × ((device : Device) (sequence : ℕ) → ReadsAs (seen old) device sequence
    → (changes : Changes seen old new device) × P changes.boot
    × ((other : Device) → StandsForEither (seen old) device other → NowStands (seen new) changes.boot.after))

-- an image was put in place
abbrev pub PutsInPlace : Boot → Type 0
PutsInPlace boot = Installs boot.before boot.when boot.evidence boot.after

-- the device is not committed, and is as it was
abbrev pub LeavesUncommitted : Boot → Type 0
LeavesUncommitted boot = (boot.before.onboarded ≡ None) × (boot.after ≡ boot.before)
