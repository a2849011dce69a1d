-- What it comes to that the device of a disk is booted once.
use Rattle.std.specs.Prelude.{◌≡◌, ℕ, Bool, true, List, [], ◌∷◌, Result, Ok, Err}
use Rattle.sz_agent.specs.Boot.{BootOk, FoundAs, IsMoment, Random, TellsStep, ends_early, looker_at, outside_of, random_of}
use Rattle.sz_agent.specs.Complete.{Completes}
use Rattle.sz_agent.specs.Crash.{Changes, ReadsAs}
use Rattle.sz_agent.specs.Ending.{blames_disk as outcome_blames_disk}
use Rattle.sz_agent.specs.Lost.{CountsLost, counts_of}
use Rattle.sz_agent.specs.Quest.{quest_of}
use Rattle.sz_agent.specs.declared.report.Report.{Report}
use Rattle.sz_base.specs.declared.moment.Seconds.{Seconds}
use Rattle.sz_commands.specs.Failure.{Failure, ClockFault, SizeRefused, blames, blames_clock, blames_disk}
use Rattle.sz_commands.specs.Objects.{ClockSeen, EntropySeen, FolderSeen, NetSeen}
use Rattle.sz_disk.specs.Disk.{IsQuiet, Seen}
use Rattle.sz_record.specs.declared.device.Device.{Device}
use Rattle.sz_source.specs.declared.source.Source.{Source}
use Rattle.sz_spec.specs.Cause.{HasCause}
use Rattle.sz_spec.specs.Told.{TakesFront}
use Rattle.sz_state.specs.Layout.{HasLayout}
use Rattle.sz_walk.specs.Walk.{WhereBothTell}

-- The report of the boot, or a failure.
abbrev pub Answer : Type 0
Answer = Result Report Failure

-- The folder, the network, the clock and the source of random bytes, before or after.
pub record Beside : Type 0 where
  pub folder : FolderSeen
  pub net : NetSeen
  pub clock : ClockSeen
  pub entropy : EntropySeen

-- what a boot sees of a source of random bytes
abbrev pub random_seen : EntropySeen → Random
random_seen entropy = random_of entropy.faults entropy.bytes

-- the clock gave this time, its next answer
abbrev pub GivesTime : Seconds → Beside → Beside → Type 0
GivesTime time before after = TakesFront before.clock.answers after.clock.answers (time ∷ [])

-- nothing was asked of the folder, the network and the source of random bytes
pub record AsksNothing (before after : Beside) : Type 0 where
  pub folder : after.folder ≡ before.folder
  pub net : after.net ≡ before.net
  pub entropy : after.entropy ≡ before.entropy

module _ {D : Type 0} (seen : D → Seen) (sources : List Source) (old new : D) where
  -- One boot of the device as which the disk reads, at this time: `BootOk` says which step it took, by whose evidence,
  -- with which visits, and what a crash at any moment leaves. A disk that has no device, or a committed one, ends it:
  -- nothing is asked, and nothing is written.
  pub record Boots (time : Seconds) (before after : Beside) (report : Report) : Type 0 where
    pub boot_ok : (device : Device) (sequence : ℕ) → ReadsAs (seen old) device sequence
        → BootOk seen old new sources (outside_of before.folder.files before.net.traffic after.net.traffic) report
        device sequence
    pub found : FoundAs (seen old) report.outcome
    pub moment : IsMoment time report (random_seen before.entropy) (random_seen after.entropy) before.net after.net
    pub quiet : ends_early report.outcome ≡ true → IsQuiet (seen old) (seen new)
    pub asks_nothing : ends_early report.outcome ≡ true → AsksNothing before after
    pub lost : CountsLost (counts_of before.folder.faults before.net.faults)
        (counts_of after.folder.faults after.net.faults) report.visits
    pub files : after.folder.files ≡ before.folder.files

  -- The outcome tells the device's boot, and where folder and network tell, and no connection stood, it took its step
  -- by the first offer that the device takes, or none was heard and it changed nothing.
  abbrev pub IsComplete : Beside → Beside → Report → Device → ℕ → Type 0
  IsComplete before after report device sequence =
      (changes : Changes seen old new device) × TellsStep sequence report.outcome changes.boot
      × WhereBothTell before.folder.files before.net.traffic after.net.traffic
      (λ files. Completes (quest_of (looker_at device (seen old).size report.moment) sources files) changes.boot
      report.visits)

  -- The answers that may be given. The clock is read first, and once.
  abbrev pub MayBoot : Beside → Beside → Answer → Type 0
  MayBoot before after (Ok report) =
      (time : Seconds) × GivesTime time before after × HasLayout (seen old).size × Boots time before after report
  MayBoot before after (Err ClockFault) =
      (new ≡ old) × AsksNothing before after × (after.clock.answers ≡ before.clock.answers)
  MayBoot before after (Err (SizeRefused size)) =
      (size ≡ (seen old).size) × ¬ (HasLayout size) × (new ≡ old) × AsksNothing before after
      × ((time : Seconds) × GivesTime time before after)
  MayBoot before after (Err other) = ⊥

-- the answer blames the disk
abbrev pub fails_at_disk : Answer → Bool
fails_at_disk (Ok report) = outcome_blames_disk report.outcome
fails_at_disk (Err failure) = blames_disk failure

-- The device was booted, or not, with this answer. It blames the disk and the clock only where that one's count rose.
pub record Booted {D : Type 0} (seen : D → Seen) (sources : List Source) (old new : D) (before after : Beside)
    (answer : Answer) : Type 0 where
  pub may : MayBoot seen sources old new before after answer
  pub disk : HasCause (seen old).faults (seen new).faults (fails_at_disk answer)
  pub clock : HasCause before.clock.faults after.clock.faults (blames blames_clock answer)
