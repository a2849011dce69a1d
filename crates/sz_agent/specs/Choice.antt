-- What the inner calls of a boot promise: the trial of an offer, one turn of the walk, the whole walk, and what a
-- choice becomes on the disk.
use Rattle.std.specs.Prelude.{◌≡◌, ◌≢◌, ℕ, ◌+◌, ◌*◌, ◌^◌, ◌≤◌, Bool, true, false, List, length, Option, Some, None, Result, Ok, Err}
use Rattle.sz_base.specs.declared.moment.Moment.{Moment}
use Rattle.sz_disk.specs.Disk.{Seen, LeavesOnly}
use Rattle.sz_evidence.specs.Authorised.{Authorised}
use Rattle.sz_evidence.specs.declared.reason.Reason.{Reason}
use Rattle.sz_http.specs.Reading.{side_of}
use Rattle.sz_http.specs.declared.reading.Reading.{Reading}
use Rattle.sz_http.specs.declared.side.Side.TheVariants as side
use Rattle.sz_io.specs.Added.{Adds}
use Rattle.sz_io.specs.Net.{Traffic}
use Rattle.sz_io.specs.declared.exchange.Exchange.{Exchange}
use Rattle.sz_record.specs.declared.device.Device.{Device}
use Rattle.sz_state.specs.Change.{CanInstall, CanOnboard}
use Rattle.sz_state.specs.Held.{IsHeld}
use Rattle.sz_state.specs.Ran.{NowStands}
use Rattle.sz_state.specs.Step.{once_installed, once_onboarded}
use Rattle.sz_state.specs.declared.held.Held.{Held}
use Rattle.sz_state.specs.declared.staged.Staged.{Staged}
use Rattle.sz_source.specs.declared.source.Source.{Source}
use Rattle.sz_walk.specs.Visits.{first_walked, HasOffer, Walked}
use Rattle.sz_walk.specs.Walk.{most_notes, WalkState}
use Rattle.sz_walk.specs.declared.visit.Visit.{Visit}
use Rattle.sz_offer.specs.Offer.{Looker}
use Rattle.sz_offer.specs.Trial.{IsInArea, MakesOver}
use Rattle.sz_agent.specs.Crash.{StandsForOne}
use Rattle.sz_agent.specs.Ending.{blames_disk as blames_ended}
use Rattle.sz_agent.specs.Quest.{BreaksOff, HasCome, Quest, Takes, TakesNone}
use Rattle.sz_agent.specs.declared.choice.Choice.{Choice}
use Rattle.sz_agent.specs.declared.choice.Choice.TheVariants as choice
use Rattle.sz_agent.specs.declared.choice.Offer.{Offer}
use Rattle.sz_agent.specs.declared.report.Outcome.{Outcome}
use Rattle.sz_agent.specs.declared.report.Outcome.TheVariants as outcome

-- ---- before

-- the device was found on the disk, and is not committed
pub record IsOpen (disk : Seen) (held : Held) : Type 0 where
  pub found : IsHeld disk held
  pub uncommitted : held.device.onboarded ≡ None

-- the offer's evidence authorises its information
abbrev pub IsAuthorised : Device → Moment → Offer → Type 0
IsAuthorised device when offer = Authorised device.identity when offer.evidence offer.onboarding

-- ---- what can be done with a choice

-- the device can be committed to the offer, which is authorised
pub record CanCommit (disk : Seen) (device : Device) (when : Moment) (offer : Offer) : Type 0 where
  pub authorised : IsAuthorised device when offer
  pub can : CanOnboard disk.size device offer.onboarding when offer.evidence

-- the staged image of the offer, which is authorised, can be put in place, and its bytes are in their area
pub record CanUpgrade (disk : Seen) (device : Device) (when : Moment) (staged : Staged) (offer : Offer) : Type 0 where
  pub authorised : IsAuthorised device when offer
  pub can : CanInstall disk.size device staged offer.onboarding when offer.evidence
  pub in_area : IsInArea disk (once_installed device offer.onboarding staged when offer.evidence)

abbrev pub CanChoose : Seen → Device → Moment → Choice → Type 0
CanChoose disk device when (choice.Commits offer) = CanCommit disk device when offer
CanChoose disk device when (choice.Installs staged offer) = CanUpgrade disk device when staged offer
CanChoose disk device when _ = Unit {0}

abbrev pub blames_disk : Choice → Bool
blames_disk choice.DiskFault = true
blames_disk _ = false

-- ---- the trial of one offer

-- some exchanges were added
abbrev pub AddsMore : Traffic → Traffic → Type 0
AddsMore before now = (more : List Exchange) × Adds before now more

-- over the exchanges that were added the device takes the offer, or turns it down, or the trial broke off
abbrev pub Weighs : Looker → Offer → Result Choice Reason → Traffic → Traffic → Type 0
Weighs looker offer (Ok (choice.Commits taken)) before now =
    (taken ≡ offer) × MakesOver looker offer.onboarding offer.evidence None before now
Weighs looker offer (Ok (choice.Installs staged taken)) before now =
    (taken ≡ offer) × MakesOver looker offer.onboarding offer.evidence None before now
Weighs looker offer (Ok choice.Nothing) before now = ⊥
Weighs looker offer (Ok choice.DiskFault) before now = AddsMore before now
Weighs looker offer (Ok choice.OutOfMemory) before now = AddsMore before now
Weighs looker offer (Err found) before now =
    MakesOver looker offer.onboarding offer.evidence (Some found) before now

abbrev pub IfChosen : Result Choice Reason → (Choice → Type 0) → Type 0
IfChosen (Ok chosen) P = P chosen
IfChosen (Err found) P = Unit {0}

abbrev pub weighing_blames_disk : Result Choice Reason → Bool
weighing_blames_disk (Ok chosen) = blames_disk chosen
weighing_blames_disk (Err found) = false

-- ---- the walk

-- how the walk ends with this choice
abbrev pub EndsWith : Quest → Choice → Traffic → Traffic → List Visit → Type 0
EndsWith quest (choice.Commits offer) began now visits = Takes quest offer.onboarding offer.evidence began now visits
EndsWith quest (choice.Installs staged offer) began now visits =
    Takes quest offer.onboarding offer.evidence began now visits
EndsWith quest choice.Nothing began now visits = TakesNone quest began now visits
EndsWith quest choice.DiskFault began now visits = BreaksOff quest began now visits
EndsWith quest choice.OutOfMemory began now visits = BreaksOff quest began now visits

-- the walk ends so, if no connection stood as it began
abbrev pub EndsIdle : Quest → Choice → List Visit → Traffic → Traffic → Type 0
EndsIdle quest chosen visits began now = began.standing ≡ None → EndsWith quest chosen began now visits

-- a walk over these sources before its first visit, and a buffer of replies
pub record IsPrepared (sources : List Source) (walk : WalkState) (buffer : Reading) : Type 0 where
  pub walk_is : walk ≡ record { sources = sources; walked = first_walked sources }
  pub no_offer : ¬ HasOffer walk.walked
  pub replies : side_of buffer ≡ side.Reply

-- one turn: the walk ends with a choice, or has come one visit further
abbrev pub ComesOn : Quest → Option Choice → Traffic → Traffic → Walked → Type 0
ComesOn quest None began now walked = HasCome quest began now walked
ComesOn quest (Some chosen) began now walked = EndsWith quest chosen began now walked.visits

-- the same from any walk that has taken no offer
abbrev pub TurnsFrom : Quest → Option Choice → Walked → Walked → Traffic → Traffic → Type 0
TurnsFrom quest chosen before after old new =
    (began : Traffic) → HasCome quest began old before → ComesOn quest chosen began new after

-- The walk goes on: one visit more was noted, none waits to be tried, and the buffer takes replies.
pub record GoesOn (before after : WalkState) (buffer : Reading) : Type 0 where
  pub sources : after.sources ≡ before.sources
  pub more : length after.walked.visits ≡ length before.walked.visits + 1
  pub within : length after.walked.visits ≤ most_notes * length before.sources
  pub no_offer : ¬ HasOffer after.walked
  pub replies : side_of buffer ≡ side.Reply

abbrev pub turn_blames_disk : Option Choice → Bool
turn_blames_disk None = false
turn_blames_disk (Some chosen) = blames_disk chosen

-- ---- what a choice becomes

-- the device that the choice makes of this one
abbrev pub made_by : Device → Moment → Choice → Device
made_by device when (choice.Commits offer) = once_onboarded device offer.onboarding when offer.evidence
made_by device when (choice.Installs staged offer) =
    once_installed device offer.onboarding staged when offer.evidence
made_by device when _ = device

-- this sequence is the last, and it is the one that is told
pub record IsLast (sequence last : ℕ) : Type 0 where
  pub told : last ≡ sequence
  pub last_one : sequence + 1 ≡ 2 ^ 64

-- the change was not made: the sequence is the last, the disk failed, or memory ran out
abbrev pub IsUnmade : ℕ → Outcome → Type 0
IsUnmade sequence (outcome.Exhausted last) = IsLast sequence last
IsUnmade sequence outcome.DiskFault = sequence + 1 ≢ 2 ^ 64
IsUnmade sequence outcome.OutOfMemory = Unit {0}
IsUnmade sequence _ = ⊥

-- How a boot ends with this choice, where it makes the next device and the record has this sequence.
abbrev pub Becomes : Device → ℕ → Choice → Outcome → Type 0
Becomes next sequence (choice.Commits offer) (outcome.Onboarded after) = (after ≡ next) × (sequence + 1 ≢ 2 ^ 64)
Becomes next sequence (choice.Commits offer) ended = IsUnmade sequence ended
Becomes next sequence (choice.Installs staged offer) (outcome.Installed after) =
    (after ≡ next) × (sequence + 1 ≢ 2 ^ 64)
Becomes next sequence (choice.Installs staged offer) ended = IsUnmade sequence ended
Becomes next sequence choice.Nothing ended = ended ≡ outcome.NoSource
Becomes next sequence choice.DiskFault ended = ended ≡ outcome.DiskFault
Becomes next sequence choice.OutOfMemory ended = ended ≡ outcome.OutOfMemory

-- the device was changed
abbrev pub is_changed : Outcome → Bool
is_changed (outcome.Onboarded after) = true
is_changed (outcome.Installed after) = true
is_changed _ = false

-- the disk was not called to change the device
abbrev pub is_untouched : Outcome → Bool
is_untouched outcome.NoSource = true
is_untouched (outcome.Exhausted last) = true
is_untouched outcome.OutOfMemory = true
is_untouched _ = false

-- At every moment a crash leaves a disk that stands for the device before or for the next one, and once the device is
-- changed every image stands for the next one.
pub record StandsOn (old new : Seen) (before next : Device) (ended : Outcome) : Type 0 where
  pub any_moment : LeavesOnly old new (StandsForOne before next)
  pub changed : is_changed ended ≡ true → NowStands new next

-- the disk failed in the change that the choice asks for, not before
abbrev pub change_blames_disk : Choice → Outcome → Bool
change_blames_disk (choice.Commits offer) ended = blames_ended ended
change_blames_disk (choice.Installs staged offer) ended = blames_ended ended
change_blames_disk _ ended = false
