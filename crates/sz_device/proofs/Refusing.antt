-- A disk that was made to stand for a device, or was not.
use Rattle.std.proofs.Common.{◌≡◌, ℕ, List, Err, false, refl, inl, inr, arith}
use Rattle.sz_base.specs.declared.identity.Identity.{Identity}
use Rattle.sz_commands.specs.Failure as failure
use Rattle.sz_disk.specs.Disk.{IsLawful, IsStill, LeavesOnly, Seen}
use Rattle.sz_disk.proofs.Moments.{leaves-none}
use Rattle.sz_device.specs.Booted.{Beside, MayBoot}
use Rattle.sz_device.specs.DeviceMade.{MayInit}
use Rattle.sz_device.specs.StateFailure.{failure_from}
use Rattle.sz_source.specs.declared.source.Source.{Source}
use Rattle.sz_spec.specs.Cause.{HasCause}
use Rattle.sz_state.specs.Fault.{blames_disk}
use Rattle.sz_state.specs.Layout.{HasLayout}
use Rattle.sz_state.specs.Ran.{AsBeforeOrStands, FitsUnlessTold, IsEarly, Made}
use Rattle.sz_state.specs.Step.{factory}
use Rattle.sz_state.specs.declared.fault.StateFault.{StateFault}
use Rattle.sz_state.specs.declared.fault.StateFault.TheVariants as state

-- a failure blames the disk exactly where the refusal does
pub same-blame : (fault : StateFault) → failure.blames_disk (failure_from fault) ≡ blames_disk fault
same-blame state.Failed = refl
same-blame state.NotInitialised = refl
same-blame (state.Damaged slot sequence length) = refl
same-blame (state.BadRecord place value) = refl
same-blame (state.InUse slot) = refl
same-blame (state.Exhausted sequence) = refl
same-blame state.OutOfMemory = refl
same-blame (state.TooLarge size) = refl

-- an object that was not called is not blamed
pub unblamed : (faults : ℕ) → HasCause faults faults false
unblamed faults = record { never_falls = omega arith; rose = λ failed. absurd (cc failed); stood = λ stood. refl }

module _ {D : Type 0} (seen : D → Seen) (identity : Identity) (old new : D) (layout : HasLayout (seen old).size) where
  pub refused : (fault : StateFault) → Made (seen old) (seen new) identity (Err fault) → FitsUnlessTold (seen old) identity (Err fault)
      → (IsEarly fault → new ≡ old) → MayInit seen identity old new (Err (failure_from fault))
  refused state.Failed made fits early = record { layout = layout; fits = fits }
  refused state.NotInitialised made fits early = absurd made
  refused (state.Damaged slot sequence length) made fits early = absurd made
  refused (state.BadRecord place value) made fits early = absurd made
  refused (state.InUse slot) made fits early = (record { layout = layout; fits = fits }, made)
  refused (state.Exhausted sequence) made fits early = absurd made
  refused state.OutOfMemory made fits early = (layout, early (inl refl))
  refused (state.TooLarge size) made fits early = (layout, made, early (inr (size, refl)))

-- a disk that was not called is as it was
pub still-self : (disk : Seen) → IsStill disk disk
still-self disk = record { size = refl; told = refl; crash = λ image left. left; later = omega arith; since = λ t image le. (λ left. left, λ left. left) }

-- and leaves what it might have left
pub untouched : (disk : Seen) (identity : Identity) → IsLawful disk → LeavesOnly disk disk (AsBeforeOrStands disk (factory identity))
untouched disk identity lawful =
    leaves-none disk (AsBeforeOrStands disk (factory identity)) lawful (λ image left. inl (image, left, refl))

-- where no boot came to be, the disk is as it was
pub unbooted : {D : Type 0} (seen : D → Seen) (sources : List Source) (old new : D) (before after : Beside) (f : failure.Failure)
    → MayBoot seen sources old new before after (Err f) → new ≡ old
unbooted seen sources old new before after failure.ClockFault may = may.0
unbooted seen sources old new before after (failure.SizeRefused size) may = may.2
unbooted seen sources old new before after _ may = absurd may
