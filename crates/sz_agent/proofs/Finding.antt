-- What a disk reads as, once its device was found or was refused.
use Rattle.std.specs.Prelude.{◌≡◌, ℕ, List, length, Option, Some, None, Err}
use Rattle.std.proofs.Common.{sym, ap, subst, ◌∙◌}
use Rattle.sz_cell.specs.Cell.{ReadMeans}
use Rattle.sz_cell.specs.Meaning.{damaged, meaning, Meaning, none, value}
use Rattle.sz_disk.specs.Disk.{IsLawful, Seen}
use Rattle.sz_disk.proofs.Moments.{length-read}
use Rattle.sz_record.specs.Stored.{first_wrong, IsStored}
use Rattle.sz_record.specs.declared.device.Device.{Device}
use Rattle.sz_state.specs.Held.{IsHeld, ReadHas}
use Rattle.sz_state.specs.Layout.{capacity_of, cell_place, space_of}
use Rattle.sz_state.specs.Ran.{Found}
use Rattle.sz_state.specs.Stands.{HasBadRecord}
use Rattle.sz_state.specs.declared.fault.StateFault.{StateFault}
use Rattle.sz_state.specs.declared.fault.StateFault.TheVariants as state
use Rattle.sz_state.specs.declared.held.Held.{Held}
use Rattle.sz_agent.specs.Boot.{FoundAs, ReadsDevice}
use Rattle.sz_agent.specs.Crash.{ReadsAs}
use Rattle.sz_agent.specs.Ending.{EndsFor, IsBootFault}
use Rattle.sz_agent.specs.declared.report.Outcome.{Outcome}
use Rattle.sz_agent.specs.declared.report.Outcome.TheVariants as outcome
use Rattle.sz_agent.proofs.Holding.{held-record, OneReading, record_once}

-- ---- refusals of `attach`

-- `attach` refuses with a fault of a boot
pub refused_fault : (old new : Seen) (fault : StateFault) → Found old new (Err fault) → IsBootFault fault
refused_fault old new state.Failed found = tt
refused_fault old new state.NotInitialised found = tt
refused_fault old new (state.Damaged slot sequence size) found = tt
refused_fault old new (state.BadRecord place byte) found = tt
refused_fault old new (state.Exhausted sequence) found = absurd found
refused_fault old new state.OutOfMemory found = tt
refused_fault old new (state.InUse slot) found = absurd found
refused_fault old new (state.TooLarge size) found = absurd found

-- and the outcome that this becomes says of the disk what the refusal says
pub refused_found : (old new : Seen) (fault : StateFault) (ended : Outcome) → Found old new (Err fault) → EndsFor fault ended
    → FoundAs old ended
refused_found old new state.Failed ended found is = subst (λ (o : Outcome). FoundAs old o) (sym is) tt
refused_found old new state.NotInitialised ended found is = subst (λ (o : Outcome). FoundAs old o) (sym is) found
refused_found old new (state.Damaged slot sequence size) ended found is =
    subst (λ (o : Outcome). FoundAs old o) (sym is) found
refused_found old new (state.BadRecord place byte) ended found is =
    subst (λ (o : Outcome). FoundAs old o) (sym is) found
refused_found old new (state.Exhausted sequence) ended found is = absurd found
refused_found old new state.OutOfMemory ended found is = subst (λ (o : Outcome). FoundAs old o) (sym is) tt
refused_found old new (state.InUse slot) ended found is = absurd found
refused_found old new (state.TooLarge size) ended found is = absurd found

-- ---- a device that was found

reads_by : (reads : Option (List ℕ)) (new : Seen) (held : Held) (P : Device → Type 0) → IsLawful new → IsHeld new held
    → new.reads ≡ reads → P held.device → ReadsDevice reads P
reads_by None new held P lawful is same has = tt
reads_by (Some bytes) new held P lawful is same has = (
  held.device,
  held.ready.sequence,
  held-record new held bytes lawful is (lawful.reads_as_left bytes same),
  has,
)

-- the disk reads as the device that was found, where no read has changed
pub held-reads : (old new : Seen) (held : Held) (P : Device → Type 0) → IsLawful new → IsHeld new held → new.reads ≡ old.reads
    → P held.device → ReadsDevice old.reads P
held-reads old new held P lawful is same has = reads_by old.reads new held P lawful is same has

-- and that is the device that it read as before, with its sequence
pub held-before : OneReading → (old new : Seen) (held : Held) (before : Device) (sequence : ℕ) → IsLawful new
    → IsHeld new held → new.reads ≡ old.reads → ReadsAs old before sequence
    → (held.device ≡ before) × (held.ready.sequence ≡ sequence)
held-before reading old new held before sequence lawful is same reads =
    record_once reading reads.bytes held.device before held.ready.sequence sequence
    (held-record new held reads.bytes lawful is (lawful.reads_as_left reads.bytes (same ∙ reads.reads))) reads.record_is

-- ---- a disk that reads as a device is never refused for what it is

-- what `payloads_have_one_reading` of sz_record promises: a stored form has no wrong byte
abbrev pub NoneWrong : Type 0
NoneWrong = (space : ℕ) (payload : List ℕ) (device : Device) → IsStored space payload device
    → first_wrong space payload ≡ None

means_value : (old : Seen) (before : Device) (sequence : ℕ) → IsLawful old → (reads : ReadsAs old before sequence)
    → (other : Meaning) → ReadMeans cell_place (capacity_of old.size) old.reads other
    → value reads.record_is.slot sequence reads.record_is.payload ≡ other
means_value old before sequence lawful reads other means =
    let sized : length reads.bytes ≡ old.size = length-read old lawful reads.bytes reads.reads in
    let told : meaning cell_place (capacity_of old.size) reads.bytes ≡ other =
    subst (λ (r : Option (List ℕ)). ReadMeans cell_place (capacity_of old.size) r other) reads.reads means in
    sym reads.record_is.means ∙ ap (λ s. meaning cell_place (capacity_of s) reads.bytes) sized ∙ told

pub never_uninitialised : (old : Seen) (before : Device) (sequence : ℕ) → IsLawful old → ReadsAs old before sequence
    → FoundAs old outcome.NotInitialised → ⊥
never_uninitialised old before sequence lawful reads found =
    let no = means_value old before sequence lawful reads none found in absurd (cc no)

pub never_damaged : (old : Seen) (before : Device) (sequence slot number size : ℕ) → IsLawful old
    → ReadsAs old before sequence → FoundAs old (outcome.Damaged slot number size) → ⊥
never_damaged old before sequence slot number size lawful reads found =
    let no = means_value old before sequence lawful reads (damaged slot number size) found in absurd (cc no)

pub never_wrong : NoneWrong → (old : Seen) (before : Device) (sequence place byte : ℕ) → ReadsAs old before sequence
    → FoundAs old (outcome.BadRecord place byte) → ⊥
never_wrong right old before sequence place byte reads found =
    let bad : HasBadRecord reads.bytes place byte =
    subst (λ (r : Option (List ℕ)). ReadHas r (λ bytes. HasBadRecord bytes place byte)) reads.reads found in
    let is = reads.record_is in
    let same : value is.slot sequence is.payload ≡ value bad.slot bad.sequence bad.payload = sym is.means ∙ bad.means in
    let payload : is.payload ≡ bad.payload = cc same in
    let none : first_wrong (space_of (length reads.bytes)) bad.payload ≡ None =
    right (space_of (length reads.bytes)) bad.payload before
    (subst (λ (p : List ℕ). IsStored (space_of (length reads.bytes)) p before) payload is.stored) in
    let some = bad.bad.first in
    absurd (cc (none, some))
