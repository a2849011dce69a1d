-- What contracts see of a disk in memory, and what its calls do.
use Rattle.std.specs.Prelude.{◌≡◌, ◌⊎◌, ℕ, Bool, true, false, if◌then◌else◌, List, [], ◌∷◌, ◌++◌, length, replicate, None, MatchBool}
use Rattle.std.proofs.Common.{get_or}
use Rattle.sz_spec.specs.Cause.{risen}
use Rattle.sz_disk.specs.Image.{part, patched}
use Rattle.sz_disk.specs.Disk.{Seen}
use Rattle.sz_disk.specs.Event.{unsynced, undone, seen_after}
use Rattle.sz_disk.specs.Choice.{IsPicked}
use Rattle.sz_disk.specs.Plan.{counted, HasFate, choice_of}
use Rattle.sz_disk.specs.declared.event.Event.{Event}
use Rattle.sz_disk.specs.declared.event.Event.TheVariants.{Wrote, Synced}
use Rattle.sz_disk.specs.declared.plan.Plan.{Plan}
use Rattle.sz_disk.specs.declared.plan.Fate.{Fate}
use Rattle.sz_disk.specs.declared.plan.Fate.TheVariants.{Runs, AtCut, Refused}
use Rattle.sz_disk.specs.declared.memory.MemoryDisk.{MemoryDisk}

pub record Memory : Type 0 where
  -- what a read gives
  pub bytes : List ℕ
  -- the writes and syncs since it was made or powered up
  pub events : List Event
  -- its calls so far, and which of the next ones fail
  pub plan : Plan
  pub faults : ℕ
  -- a record found no memory
  pub short : Bool

abbrev pub view : MemoryDisk → Memory
view disk = record {
  bytes = disk.medium.bytes.items;
  events = disk.medium.events.items;
  plan = disk.plan;
  faults = disk.faults;
  short = disk.short;
}

-- what contracts see of it as of any disk
abbrev pub seen_of : Memory → Seen
seen_of disk = seen_after disk.bytes disk.events disk.faults

-- no call yet, and none that fails
abbrev pub no_plan : Plan
no_plan = record { calls = 0; failing = []; cut = None }

-- a disk of zeros with nothing unsynced
abbrev pub blank : ℕ → Memory
blank size = record { bytes = replicate size 0; events = []; plan = no_plan; faults = 0; short = false }

-- the same but for its plan
abbrev pub with_plan : Memory → Plan → Memory
with_plan disk plan = record disk { plan = plan }

-- the image that the cut's choice picks of it, or choice 0 where no cut is named: of each unsynced byte it takes
-- the one of the last sync, the one that a read gives, or a third
abbrev pub IsPickedOf : Memory → List ℕ → Type 0
IsPickedOf disk image =
    let pending = unsynced disk.events in
    IsPicked (choice_of disk.plan) pending (λ k. get_or (undone pending disk.bytes) k 0) disk.bytes image

-- the disk once it is powered up with an image: its faults are counted on, and want of memory is told on
abbrev pub powered_up : Memory → List ℕ → Memory
powered_up disk image = record { bytes = image; events = []; plan = no_plan; faults = disk.faults; short = disk.short }

-- the count of faults after a call: one more where it was refused, up to the end of the type
abbrev pub counted_faults : ℕ → Bool → ℕ
counted_faults faults refused = if refused then risen faults 1 else faults

-- a call was counted, and a refused one as one fault, too
pub record IsCounted (old new : Memory) (refused : Bool) : Type 0 where
  pub plan : new.plan ≡ counted old.plan
  pub faults : new.faults ≡ counted_faults old.faults refused

-- nothing else has changed
pub record IsUntouched (old new : Memory) : Type 0 where
  pub bytes : new.bytes ≡ old.bytes
  pub events : new.events ≡ old.events
  pub short : new.short ≡ old.short

-- the record found no memory, and nothing else has changed
pub record IsShort (old new : Memory) : Type 0 where
  pub bytes : new.bytes ≡ old.bytes
  pub events : new.events ≡ old.events
  pub short : new.short ≡ true

-- the bytes were written and recorded
pub record IsWritten (at : ℕ) (given : List ℕ) (old new : Memory) : Type 0 where
  pub bytes : new.bytes ≡ patched at given old.bytes
  pub events : new.events ≡ old.events ++ Wrote at (part old.bytes at (length given)) ∷ []
  pub short : new.short ≡ old.short

-- the bytes were written, or the record found no memory
abbrev pub IsKept : ℕ → List ℕ → Memory → Memory → Bool → Type 0
IsKept at given old new kept = MatchBool kept (IsWritten at given old new) (IsShort old new)

-- a sync was recorded
pub record RecordsSync (old new : Memory) : Type 0 where
  pub bytes : new.bytes ≡ old.bytes
  pub events : new.events ≡ old.events ++ Synced ∷ []
  pub short : new.short ≡ old.short

-- the sync was recorded, or the record found no memory
abbrev pub IsMarked : Memory → Memory → Bool → Type 0
IsMarked old new kept = MatchBool kept (RecordsSync old new) (IsShort old new)

-- A read, by the call's fate.
abbrev pub ReadsBy : Fate → ℕ → List ℕ → Memory → Memory → Bool → Type 0
ReadsBy Runs at given old new refused = (refused ≡ false) × IsUntouched old new
    × (given ≡ part old.bytes at (length given))
ReadsBy AtCut at given old new refused = (refused ≡ true) × IsUntouched old new
ReadsBy Refused at given old new refused = (refused ≡ true) × IsUntouched old new

-- A write, by the call's fate. One at which the cut falls is refused, and counts as written.
abbrev pub WritesBy : Fate → ℕ → List ℕ → Memory → Memory → Bool → Type 0
WritesBy Runs at bytes old new refused = MatchBool refused (IsShort old new) (IsWritten at bytes old new)
WritesBy AtCut at bytes old new refused = (refused ≡ true) × (IsWritten at bytes old new ⊎ IsShort old new)
WritesBy Refused at bytes old new refused = (refused ≡ true) × IsUntouched old new

-- A sync, by the call's fate.
abbrev pub SyncsBy : Fate → Memory → Memory → Bool → Type 0
SyncsBy Runs old new refused = MatchBool refused (IsShort old new) (RecordsSync old new)
SyncsBy AtCut old new refused = (refused ≡ true) × IsUntouched old new
SyncsBy Refused old new refused = (refused ≡ true) × IsUntouched old new

-- Each by the fate that its call's number has in the plan.
abbrev pub Reads : ℕ → List ℕ → Memory → Memory → Bool → Type 0
Reads at given old new refused = (fate : Fate) × HasFate old.plan fate × ReadsBy fate at given old new refused

abbrev pub Writes : ℕ → List ℕ → Memory → Memory → Bool → Type 0
Writes at bytes old new refused = (fate : Fate) × HasFate old.plan fate × WritesBy fate at bytes old new refused

abbrev pub Syncs : Memory → Memory → Bool → Type 0
Syncs old new refused = (fate : Fate) × HasFate old.plan fate × SyncsBy fate old new refused
