-- One boot of a device, as its contract tells it: what the device's disk was found to be, the moment that was drawn,
-- the step that was taken or not, by whose evidence, and how the walk ended.
use Rattle.std.specs.Prelude.{◌≡◌, ◌≢◌, ◌⊎◌, ℕ, ◌+◌, ◌^◌, Bool, true, false, List, [], length, Option, Some, None}
use Rattle.sz_spec.specs.Cause.{Rose}
use Rattle.sz_spec.specs.Told.{TakesFront}
use Rattle.sz_base.specs.declared.moment.Moment.{Moment}
use Rattle.sz_base.specs.declared.moment.Seconds.{Seconds}
use Rattle.sz_cell.specs.Cell.{ReadMeans}
use Rattle.sz_cell.specs.Meaning.{damaged, none}
use Rattle.sz_disk.specs.Disk.{Seen}
use Rattle.sz_io.specs.Folder.{FileMap}
use Rattle.sz_io.specs.Net.{Traffic}
use Rattle.sz_record.specs.declared.device.Device.{Device}
use Rattle.sz_source.specs.declared.source.Source.{Source}
use Rattle.sz_state.specs.Held.{ReadHas}
use Rattle.sz_state.specs.Layout.{capacity_of, cell_place}
use Rattle.sz_state.specs.Ran.{NowStands}
use Rattle.sz_state.specs.Stands.{HasBadRecord, HasRecord}
use Rattle.sz_step.specs.Boots.{Boot}
use Rattle.sz_step.specs.Step.{Installs, Onboards}
use Rattle.sz_walk.specs.Walk.{WhereBothTell}
use Rattle.sz_walk.specs.declared.visit.Visit.{Visit}
use Rattle.sz_offer.specs.Offer.{Looker}
use Rattle.sz_agent.specs.Choice.{IsLast}
use Rattle.sz_agent.specs.Crash.{Changes, StandsForEither}
use Rattle.sz_agent.specs.Ending.{blames_disk}
use Rattle.sz_agent.specs.Quest.{BreaksOff, IsWholeWalk, Quest, quest_of, TakesBy, TakesNone}
use Rattle.sz_agent.specs.declared.report.Outcome.{Outcome}
use Rattle.sz_agent.specs.declared.report.Outcome.TheVariants as outcome
use Rattle.sz_agent.specs.declared.report.Report.{Report}

-- ---- what the disk was found to be

-- the disk reads as a device of which this holds
abbrev pub ReadsDevice : Option (List ℕ) → (Device → Type 0) → Type 0
ReadsDevice reads P = ReadHas reads
    (λ bytes. (device : Device) × (sequence : ℕ) × HasRecord bytes device sequence × P device)

-- What each outcome says of the disk as it reads when the boot begins. Where the disk failed or memory ran out,
-- nothing is said here.
abbrev pub FoundAs : Seen → Outcome → Type 0
FoundAs disk outcome.NotInitialised = ReadMeans cell_place (capacity_of disk.size) disk.reads none
FoundAs disk (outcome.Damaged slot sequence length) =
    ReadMeans cell_place (capacity_of disk.size) disk.reads (damaged slot sequence length)
FoundAs disk (outcome.BadRecord place value) = ReadHas disk.reads (λ bytes. HasBadRecord bytes place value)
FoundAs disk (outcome.AlreadyOnboarded found) =
    ReadsDevice disk.reads (λ device. (found ≡ device) × (device.onboarded ≢ None))
FoundAs disk outcome.DiskFault = Unit {0}
FoundAs disk outcome.OutOfMemory = Unit {0}
FoundAs disk _ = ReadsDevice disk.reads (λ device. device.onboarded ≡ None)

-- the boot ends for what its disk is, before anything is asked
abbrev pub ends_early : Outcome → Bool
ends_early outcome.NotInitialised = true
ends_early (outcome.Damaged slot sequence length) = true
ends_early (outcome.BadRecord place value) = true
ends_early (outcome.AlreadyOnboarded device) = true
ends_early _ = false

-- ---- the moment

-- what contracts see of a source of random bytes
pub record Random : Type 0 where
  pub faults : ℕ
  pub bytes : Option (List ℕ)

abbrev pub random_of : ℕ → Option (List ℕ) → Random
random_of faults bytes = record { faults = faults; bytes = bytes }

-- 16 bytes were drawn at once, and are the nonce
pub record DrawsNonce (nonce : List ℕ) (before now : Random) : Type 0 where
  pub size : length nonce ≡ 16
  pub taken : TakesFront before.bytes now.bytes nonce
  pub stood : now.faults ≡ before.faults

-- the draw failed, and the count of the source's faults rose
pub record DrawFails (before now : Random) : Type 0 where
  pub rose : Rose before.faults now.faults
  pub bytes : now.bytes ≡ before.bytes

-- one draw gave this nonce, or failed and gave none
abbrev pub Draws : Option (List ℕ) → Random → Random → Type 0
Draws (Some nonce) before now = DrawsNonce nonce before now
Draws None before now = DrawFails before now

-- The boot ended before its draw: nothing was drawn, and nothing was visited.
pub record IsUndrawn {N : Type 0} (report : Report) (before now : Random) (net_before net_now : N) : Type 0 where
  pub no_nonce : report.moment.nonce ≡ None
  pub random : now ≡ before
  pub net : net_now ≡ net_before
  pub visits : report.visits ≡ []

-- The moment of a boot has the time that was handed in, and the nonce that its one draw gave; it has none only where
-- that draw failed, or the boot ended before it.
pub record IsMoment {N : Type 0} (when : Seconds) (report : Report) (before now : Random) (net_before net_now : N)
    : Type 0 where
  pub time : report.moment.time ≡ when
  pub nonce : Draws report.moment.nonce before now ⊎ IsUndrawn report before now net_before net_now

-- ---- the step, as the outcome tells it

-- What the outcome tells of a boot of a device whose record has this sequence. A disk that reads as a device is never
-- answered as one that has none. Where the disk failed, nothing is told: the boot changed nothing, or took its step.
abbrev pub TellsStep : ℕ → Outcome → Boot → Type 0
TellsStep sequence (outcome.AlreadyOnboarded found) boot =
    (found ≡ boot.before) × (boot.before.onboarded ≢ None) × (boot.after ≡ boot.before)
TellsStep sequence (outcome.Onboarded after) boot =
    (after ≡ boot.after) × Onboards boot.before boot.when boot.evidence boot.after × (sequence + 1 ≢ 2 ^ 64)
TellsStep sequence (outcome.Installed after) boot =
    (after ≡ boot.after) × Installs boot.before boot.when boot.evidence boot.after × (sequence + 1 ≢ 2 ^ 64)
TellsStep sequence outcome.NoSource boot = (boot.before.onboarded ≡ None) × (boot.after ≡ boot.before)
TellsStep sequence (outcome.Exhausted last) boot =
    (boot.before.onboarded ≡ None) × (boot.after ≡ boot.before) × IsLast sequence last
TellsStep sequence outcome.OutOfMemory boot = boot.after ≡ boot.before
TellsStep sequence outcome.DiskFault boot = Unit {0}
TellsStep sequence outcome.NotInitialised boot = ⊥
TellsStep sequence (outcome.Damaged slot number length) boot = ⊥
TellsStep sequence (outcome.BadRecord place value) boot = ⊥

-- ---- the walk, as the outcome tells it

-- the whole walk ended with the offer of this evidence, the first that the device takes
pub record EndsTaking (quest : Quest) (boot : Boot) (began now : Traffic) (visits : List Visit) : Type 0 where
  pub takes : TakesBy quest boot.evidence began now visits
  pub whole : IsWholeWalk quest began now visits

-- the whole walk ended with no offer that the device takes
pub record EndsWithout (quest : Quest) (began now : Traffic) (visits : List Visit) : Type 0 where
  pub takes_none : TakesNone quest began now visits
  pub whole : IsWholeWalk quest began now visits

-- the walk broke off, and nothing was changed
pub record EndsBroken (quest : Quest) (boot : Boot) (began now : Traffic) (visits : List Visit) : Type 0 where
  pub breaks : BreaksOff quest began now visits
  pub same : boot.after ≡ boot.before

-- nothing was asked
pub record AsksNothing (began now : Traffic) (visits : List Visit) : Type 0 where
  pub net : now ≡ began
  pub none_noted : visits ≡ []

-- How the walk ended, by the outcome. A boot that took a step took it by the first offer that its device takes,
-- whatever the outcome; a boot that could take none had none.
abbrev pub WalkEnds : Quest → Outcome → Boot → Traffic → Traffic → List Visit → Type 0
WalkEnds quest (outcome.Onboarded after) boot began now visits = EndsTaking quest boot began now visits
WalkEnds quest (outcome.Installed after) boot began now visits = EndsTaking quest boot began now visits
WalkEnds quest (outcome.Exhausted last) boot began now visits = EndsTaking quest boot began now visits
WalkEnds quest outcome.NoSource boot began now visits = EndsWithout quest began now visits
WalkEnds quest outcome.DiskFault boot began now visits =
    EndsTaking quest boot began now visits ⊎ EndsBroken quest boot began now visits
WalkEnds quest outcome.OutOfMemory boot began now visits =
    EndsTaking quest boot began now visits ⊎ EndsBroken quest boot began now visits
WalkEnds quest _ boot began now visits = AsksNothing began now visits

-- what contracts see of what a boot asks: the files of the folder, and the traffic of the network before and after
pub record Outside : Type 0 where
  pub files : Option FileMap
  pub began : Option Traffic
  pub now : Option Traffic

abbrev pub outside_of : Option FileMap → Option Traffic → Option Traffic → Outside
outside_of files began now = record { files = files; began = began; now = now }

-- who looks at offers in a boot
abbrev pub looker_at : Device → ℕ → Moment → Looker
looker_at device size when = record { device = device; size = size; when = when }

-- where folder and network both tell, and no connection stood, the walk ended so
abbrev pub WalkTold : Looker → List Source → Outside → Report → Boot → Type 0
WalkTold looker sources outside report boot =
    WhereBothTell outside.files outside.began outside.now (λ files began now. began.standing ≡ None
    → WalkEnds (quest_of looker sources files) report.outcome boot began now report.visits)

-- ---- the boot

-- A boot over a disk that reads as this device, whose record has this sequence. It changes nothing or takes one step,
-- over every crash (`Changes`), at the moment of its report. The outcome tells which, and the walk by whose evidence.
-- Unless the disk failed, every image stands for the device after, where each stood for one of two devices before.
pub record BootOk {D : Type 0} (seen : D → Seen) (old new : D) (sources : List Source) (outside : Outside)
    (report : Report) (before : Device) (sequence : ℕ) : Type 0 where
  pub changes : Changes seen old new before
  pub moment : changes.boot.when ≡ report.moment
  pub step : TellsStep sequence report.outcome changes.boot
  pub walk : WalkTold (looker_at before (seen old).size report.moment) sources outside report changes.boot
  pub one : blames_disk report.outcome ≡ false → (other : Device) → StandsForEither (seen old) before other
      → NowStands (seen new) changes.boot.after
