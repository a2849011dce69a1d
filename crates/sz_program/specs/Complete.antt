-- When nothing disturbs an onboard or another command, and how it then ends.
use Rattle.std.specs.Prelude.{◌≡◌, ◌≢◌, ◌⊎◌, ℕ, ◌+◌, ◌^◌, List, Some, None}
use Rattle.sz_agent.specs.Boot.{looker_at}
use Rattle.sz_agent.specs.Complete.{Completes}
use Rattle.sz_agent.specs.Crash.{Changes, ReadsAs}
use Rattle.sz_agent.specs.Quest.{quest_of}
use Rattle.sz_agent.specs.declared.report.Report.{Report}
use Rattle.sz_commands.specs.Disks.{ChangesDisk}
use Rattle.sz_commands.specs.Ending.{number_of, output_fault}
use Rattle.sz_commands.specs.declared.ending.Ending.{Ending}
use Rattle.sz_commands.specs.declared.ending.Ending.TheVariants.{Done, NotValid, NotInitialised, Damaged, Exhausted, Refused}
use Rattle.sz_commands.specs.declared.ending.Ending.TheVariants.{OutOfMemory}
use Rattle.sz_device.specs.OnboardRan.{Words}
use Rattle.sz_device.specs.Sources.{NamesSources}
use Rattle.sz_disk.specs.Disk.{Seen}
use Rattle.sz_record.specs.declared.device.Device.{Device}
use Rattle.sz_source.specs.declared.source.Source.{Source}
use Rattle.sz_spec.specs.Cause.{Rose}
use Rattle.sz_state.specs.Layout.{HasLayout}
use Rattle.sz_step.specs.Boots.{Boot}
use Rattle.sz_step.specs.Step.{Installs, Onboards}
use Rattle.sz_walk.specs.Walk.{WhereBothTell}
use Rattle.sz_program.specs.Causes.{DiskRose, LacksDisk, LacksFile}
use Rattle.sz_program.specs.Outside.{Outside}
use Rattle.sz_program.specs.Words.{Command, IsOnboard, words_of}

-- ---- any command

-- the number of an ending, or that of an output that failed
abbrev pub IsStatus : ℕ → Type 0
IsStatus status = ((ending : Ending) × (status ≡ number_of ending)) ⊎ (status ≡ output_fault)

-- The words are this command, which is no onboard. The files that it reads are there, and so are the disks that it
-- uses, and no object's count rose.
pub record IsCalm {D : Type 0} (seen : D → Seen) (line : List (List ℕ)) (command : Command) (before after : Outside D)
    : Type 0 where
  pub is : words_of line ≡ Some command
  pub other : ¬ IsOnboard line
  pub file : ¬ LacksFile command before
  pub disk : ¬ LacksDisk command before
  pub disks : ¬ DiskRose seen before after
  pub clock : ¬ Rose before.clock.faults after.clock.faults
  pub out : ¬ Rose before.out.faults after.out.faults
  pub folder : ¬ Rose before.folder.faults after.folder.faults
  pub entropy : ¬ Rose before.entropy.faults after.entropy.faults
  pub listener : ¬ Rose before.listener.faults after.listener.faults

-- it is done, or what was looked at was found wanting, or memory ran out: 0, 3, 40, 41, 50, 60, 70
abbrev pub EndsByItsRow : ℕ → Type 0
EndsByItsRow status =
    (status ≡ number_of Done) ⊎ ((status ≡ number_of NotValid) ⊎ ((status ≡ number_of NotInitialised)
    ⊎ ((status ≡ number_of Damaged) ⊎ ((status ≡ number_of Exhausted) ⊎ ((status ≡ number_of Refused)
    ⊎ (status ≡ number_of OutOfMemory))))))

-- ---- an onboard

-- what the status says of the boot: the device was committed, or an image was put in place, or it is as it was
abbrev pub EndsAs : ℕ → Boot → Type 0
EndsAs status boot =
    ((status ≡ 0) × Onboards boot.before boot.when boot.evidence boot.after)
    ⊎ (((status ≡ 10) × Installs boot.before boot.when boot.evidence boot.after)
    ⊎ ((status ≡ 20) × (boot.after ≡ boot.before)))

module _ {D : Type 0} (seen : D → Seen) (words : Words) (before after : Outside D) (old new : D) where
  -- Each SOURCE is one. The disk under the word reads as a device that is not committed, with a sequence that is not
  -- the last. The counts of disk, clock and output did not rise.
  pub record IsUndisturbed (device : Device) (sequence : ℕ) : Type 0 where
    pub sources : List Source
    pub named : NamesSources words.disk words.sources sources
    pub on : ChangesDisk words.disk before.disks after.disks old new
    pub layout : HasLayout (seen old).size
    pub reads : ReadsAs (seen old) device sequence
    pub uncommitted : device.onboarded ≡ None
    pub not_last : sequence + 1 ≢ 2 ^ 64
    pub disk : ¬ Rose (seen old).faults (seen new).faults
    pub clock : ¬ Rose before.clock.faults after.clock.faults
    pub out : ¬ Rose before.out.faults after.out.faults

  -- The status tells the device's boot. Where folder and network tell, and no connection stood, it took its step by the
  -- first offer that the device takes, or none was heard and it changed nothing.
  pub record Completed (device : Device) (status : ℕ) : Type 0 where
    pub sources : List Source
    pub named : NamesSources words.disk words.sources sources
    pub report : Report
    pub changes : Changes seen old new device
    pub ends : EndsAs status changes.boot
    pub first : WhereBothTell before.folder.files before.net.traffic after.net.traffic
        (λ files. Completes (quest_of (looker_at device (seen old).size report.moment) sources files) changes.boot
        report.visits)
