-- What a refused change of the device becomes as the outcome of a boot.
use Rattle.std.specs.Prelude.{◌≡◌, ℕ, true, false, Err}
use Rattle.std.proofs.Common.{refl, sym, ap, subst, ◌∙◌, inl, inr}
use Rattle.std.proofs.lemmas.Bool.{false≢true}
use Rattle.sz_disk.specs.Disk.{Seen}
use Rattle.sz_record.specs.declared.device.Device.{Device}
use Rattle.sz_state.specs.Change.{ChangeAnswered, IsBeforeTheDisk, StandsThrough}
use Rattle.sz_state.specs.Fault.{state_failed}
use Rattle.sz_state.specs.declared.fault.StateFault.{StateFault}
use Rattle.sz_state.specs.declared.fault.StateFault.TheVariants as state
use Rattle.sz_state.specs.declared.held.Held.{Held}
use Rattle.sz_state.specs.declared.staged.Staged.{Staged}
use Rattle.sz_state.proofs.Changing.{either-stands}
use Rattle.sz_agent.specs.Choice.{Becomes, is_changed, is_untouched, IsUnmade, StandsOn}
use Rattle.sz_agent.specs.Ending.{blames_disk, EndsFor}
use Rattle.sz_agent.specs.declared.choice.Choice.TheVariants as choice
use Rattle.sz_agent.specs.declared.choice.Offer.{Offer}
use Rattle.sz_agent.specs.declared.report.Outcome.{Outcome}
use Rattle.sz_agent.specs.declared.report.Outcome.TheVariants as outcome

-- ---- which outcomes they are

unmade : (sequence : ℕ) (fault : StateFault) (ended : Outcome) → ChangeAnswered sequence (Err fault)
    → EndsFor fault ended → IsUnmade sequence ended
unmade sequence state.Failed ended answered is = subst (λ (o : Outcome). IsUnmade sequence o) (sym is) answered
unmade sequence state.NotInitialised ended answered is = absurd answered
unmade sequence (state.Damaged slot number size) ended answered is = absurd answered
unmade sequence (state.BadRecord place byte) ended answered is = absurd answered
unmade sequence (state.Exhausted last) ended answered is =
    subst (λ (o : Outcome). IsUnmade sequence o) (sym is) (record { told = answered.0; last_one = answered.1 })
unmade sequence state.OutOfMemory ended answered is = subst (λ (o : Outcome). IsUnmade sequence o) (sym is) tt
unmade sequence (state.InUse slot) ended answered is = absurd answered
unmade sequence (state.TooLarge size) ended answered is = absurd answered

by_commit : (next : Device) (sequence : ℕ) (offer : Offer) (ended : Outcome) → IsUnmade sequence ended
    → Becomes next sequence (choice.Commits offer) ended
by_commit next sequence offer (outcome.Onboarded after) is = absurd is
by_commit next sequence offer _ is = is

by_install : (next : Device) (sequence : ℕ) (staged : Staged) (offer : Offer) (ended : Outcome) → IsUnmade sequence ended
    → Becomes next sequence (choice.Installs staged offer) ended
by_install next sequence staged offer (outcome.Installed after) is = absurd is
by_install next sequence staged offer _ is = is

pub commit_unmade : (next : Device) (sequence : ℕ) (offer : Offer) (fault : StateFault) (ended : Outcome)
    → ChangeAnswered sequence (Err fault) → EndsFor fault ended
    → Becomes next sequence (choice.Commits offer) ended
commit_unmade next sequence offer fault ended answered is =
    by_commit next sequence offer ended (unmade sequence fault ended answered is)

pub install_unmade : (next : Device) (sequence : ℕ) (staged : Staged) (offer : Offer) (fault : StateFault)
    (ended : Outcome) → ChangeAnswered sequence (Err fault) → EndsFor fault ended
    → Becomes next sequence (choice.Installs staged offer) ended
install_unmade next sequence staged offer fault ended answered is =
    by_install next sequence staged offer ended (unmade sequence fault ended answered is)

-- ---- what they leave

unchanged : (fault : StateFault) (ended : Outcome) → EndsFor fault ended → is_changed ended ≡ false
unchanged state.Failed ended is = ap is_changed is
unchanged state.NotInitialised ended is = ap is_changed is
unchanged (state.Damaged slot number size) ended is = ap is_changed is
unchanged (state.BadRecord place byte) ended is = ap is_changed is
unchanged (state.Exhausted last) ended is = ap is_changed is
unchanged state.OutOfMemory ended is = ap is_changed is
unchanged (state.InUse slot) ended is = absurd is
unchanged (state.TooLarge size) ended is = absurd is

touched : (fault : StateFault) (ended : Outcome) → is_untouched ended ≡ false → is_untouched ended ≡ true
    → IsBeforeTheDisk fault
touched fault ended called not = absurd (false≢true (sym called ∙ not))

-- an outcome at which the disk was not called comes of a refusal before that
pub untouched_early : (fault : StateFault) (ended : Outcome) → EndsFor fault ended → is_untouched ended ≡ true
    → IsBeforeTheDisk fault
untouched_early state.Failed ended is so = touched state.Failed ended (ap is_untouched is) so
untouched_early state.NotInitialised ended is so = touched state.NotInitialised ended (ap is_untouched is) so
untouched_early (state.Damaged slot number size) ended is so =
    touched (state.Damaged slot number size) ended (ap is_untouched is) so
untouched_early (state.BadRecord place byte) ended is so =
    touched (state.BadRecord place byte) ended (ap is_untouched is) so
untouched_early (state.Exhausted last) ended is so = inr (last, refl)
untouched_early state.OutOfMemory ended is so = inl refl
untouched_early (state.InUse slot) ended is so = absurd is
untouched_early (state.TooLarge size) ended is so = absurd is

-- the disk is blamed alike
pub blamed_alike : (T : Type 0) (fault : StateFault) (ended : Outcome) → EndsFor fault ended
    → blames_disk ended ≡ state_failed {T = T} (Err fault)
blamed_alike T state.Failed ended is = ap blames_disk is
blamed_alike T state.NotInitialised ended is = ap blames_disk is
blamed_alike T (state.Damaged slot number size) ended is = ap blames_disk is
blamed_alike T (state.BadRecord place byte) ended is = ap blames_disk is
blamed_alike T (state.Exhausted last) ended is = ap blames_disk is
blamed_alike T state.OutOfMemory ended is = ap blames_disk is
blamed_alike T (state.InUse slot) ended is = absurd is
blamed_alike T (state.TooLarge size) ended is = absurd is

pub stands_unchanged : (old new : Seen) (before next : Device) (fault : StateFault) (ended : Outcome)
    → EndsFor fault ended → StandsThrough {T = Held} old new before next (Err fault) → StandsOn old new before next ended
stands_unchanged old new before next fault ended is through = record {
  any_moment = either-stands old new before next through.any_moment;
  changed = λ yes. absurd (false≢true (sym (unchanged fault ended is) ∙ yes));
}
