-- What a disk that was looked at reads as.
use Rattle.std.proofs.Common.{◌≡◌, Option, Some, None, Err, refl, inl, inr, subst}
use Rattle.std.specs.Prelude.{true}
use Rattle.sz_agent.proofs.Finding.{held-before, held-reads}
use Rattle.sz_agent.proofs.Holding.{OneReading}
use Rattle.sz_audit.specs.Audit.{AllAuthorised, IsAuthorised}
use Rattle.sz_audit.specs.declared.found.Audit.{Audit}
use Rattle.sz_audit.specs.declared.found.Found.{Found as Finding}
use Rattle.sz_audit.specs.declared.found.Found.TheVariants as found
use Rattle.sz_commands.specs.declared.ending.Ending.TheVariants.{Done}
use Rattle.sz_device.specs.AuditRan.{ending_of, is_well}
use Rattle.sz_device.specs.Looked.{IsNoDevice, OfDevice}
use Rattle.sz_device.specs.StateFailure.{failure_from}
use Rattle.sz_disk.specs.Disk.{IsLawful, Seen}
use Rattle.sz_record.specs.declared.device.Device.{Device}
use Rattle.sz_state.specs.Held.{IsHeld}
use Rattle.sz_state.specs.Layout.{HasLayout}
use Rattle.sz_state.specs.Ran.{Found}
use Rattle.sz_state.specs.declared.fault.StateFault.{StateFault}
use Rattle.sz_state.specs.declared.fault.StateFault.TheVariants as state
use Rattle.sz_state.specs.declared.held.Held.{Held}

-- the disk has no device, for this reason
pub refused : (old new : Seen) (fault : StateFault) → HasLayout old.size → Found old new (Err fault) → IsNoDevice old (failure_from fault)
refused old new state.Failed layout found = layout
refused old new state.NotInitialised layout found = (layout, found)
refused old new (state.Damaged slot sequence length) layout found = (layout, inl (sequence, found))
refused old new (state.BadRecord place value) layout found = (layout, inr found)
refused old new (state.InUse slot) layout found = absurd found
refused old new (state.Exhausted sequence) layout found = absurd found
refused old new state.OutOfMemory layout found = layout
refused old new (state.TooLarge size) layout found = absurd found

-- what holds of the device that was found holds of the one as which the disk reads
pub of_device : OneReading → (old new : Seen) (held : Held) (P : Device → Type 0) → IsLawful new → IsHeld new held
    → new.reads ≡ old.reads → P held.device → OfDevice old P
of_device reading old new held P lawful is same has = record {
  some = held-reads old new held P lawful is same has;
  each = λ device sequence reads. subst P (held-before reading old new held device sequence lawful is same reads).0 has;
}

-- ---- what is authorised is well

well : (is : Option Finding) → IsAuthorised is → is_well is ≡ true
well None authorised = refl
well (Some is) authorised = rw authorised refl

pub all_well : (audit : Audit) → AllAuthorised audit → ending_of audit ≡ Done
all_well audit all = rw (well audit.image all.image, well audit.configuration all.configuration) refl
