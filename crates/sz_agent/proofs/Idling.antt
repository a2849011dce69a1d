-- A boot that ended before anything was asked: its device could not be found, or is committed already.
use Rattle.std.specs.Prelude.{◌≡◌, ◌≢◌, ℕ, true, false, List, [], Option, Some, None, is_some, Err}
use Rattle.std.proofs.Common.{refl, sym, ap, subst, ◌∙◌, inl, inr}
use Rattle.std.proofs.lemmas.Bool.{false≢true}
use Rattle.std.proofs.lemmas.Option.{same_Some}
use Rattle.sz_ask.proofs.Runs.{told_same}
use Rattle.sz_base.specs.declared.evidence.Evidence.{Evidence}
use Rattle.sz_base.specs.declared.moment.Moment.{Moment}
use Rattle.sz_disk.specs.Disk.{IsLawful, IsQuiet, IsStill, IsSynced, Seen}
use Rattle.sz_io.specs.Folder.{FileMap}
use Rattle.sz_io.specs.Net.{Traffic}
use Rattle.sz_record.specs.declared.device.Device.{Device}
use Rattle.sz_source.specs.declared.source.Source.{Source}
use Rattle.sz_state.specs.Fault.{state_failed}
use Rattle.sz_state.specs.Held.{IsHeld}
use Rattle.sz_state.specs.Ran.{Found, NowStands}
use Rattle.sz_state.specs.Stands.{HasRecord}
use Rattle.sz_state.specs.declared.fault.StateFault.{StateFault}
use Rattle.sz_state.specs.declared.fault.StateFault.TheVariants as state
use Rattle.sz_state.specs.declared.held.Held.{Held}
use Rattle.sz_step.specs.Boots.{Boot}
use Rattle.sz_walk.specs.declared.visit.Visit.{Visit}
use Rattle.sz_agent.specs.Boot.{BootOk, EndsBroken, ends_early, looker_at, outside_of, TellsStep, WalkEnds}
use Rattle.sz_agent.specs.Crash.{ReadsAs, StandsForEither}
use Rattle.sz_agent.specs.Ending.{EndsFor}
use Rattle.sz_agent.specs.Quest.{BreaksOff, Quest, quest_of}
use Rattle.sz_agent.specs.declared.report.Outcome.{Outcome}
use Rattle.sz_agent.specs.declared.report.Outcome.TheVariants as outcome
use Rattle.sz_agent.specs.declared.report.Report.{Report}
use Rattle.sz_agent.proofs.Changing.{blamed_alike}
use Rattle.sz_agent.proofs.Crashing.{stays-ok}
use Rattle.sz_agent.proofs.Finding.{held-before, never_damaged, never_uninitialised, never_wrong, NoneWrong}
use Rattle.sz_agent.proofs.Holding.{OneReading, stands_as}
use Rattle.sz_agent.proofs.Turning.{breaks_first}

-- ---- a boot that changed nothing

abbrev pub no_evidence : Evidence
no_evidence = record { ci = []; oc = None; ov = None }

abbrev pub idle_boot : Device → Moment → Boot
idle_boot device when = record { before = device; when = when; evidence = no_evidence; after = device }

pub some_not_none : {A : Type 0} (given : Option A) → is_some given ≡ true → given ≢ None
some_not_none None there none = absurd (false≢true there)
some_not_none (Some value) there none = absurd (cc none)

pub none_of : {A : Type 0} (given : Option A) → is_some given ≡ false → given ≡ None
none_of None lacks = refl
none_of (Some value) lacks = absurd (false≢true (sym lacks))

-- a boot that ended before anything was asked wrote nothing
pub early-quiet : (old new : Seen) (fault : StateFault) (ended : Outcome) → EndsFor fault ended
    → (state_failed {T = Held} (Err fault) ≡ false → IsSynced old new) → ends_early ended ≡ true → IsQuiet old new
early-quiet old new state.Failed ended ends synced early = absurd (false≢true (sym (ap ends_early ends) ∙ early))
early-quiet old new state.NotInitialised ended ends synced early = (synced refl).quiet
early-quiet old new (state.Damaged slot sequence size) ended ends synced early = (synced refl).quiet
early-quiet old new (state.BadRecord place byte) ended ends synced early = (synced refl).quiet
early-quiet old new (state.Exhausted sequence) ended ends synced early = (synced refl).quiet
early-quiet old new state.OutOfMemory ended ends synced early = (synced refl).quiet
early-quiet old new (state.InUse slot) ended ends synced early = absurd ends
early-quiet old new (state.TooLarge size) ended ends synced early = absurd ends

-- every image of a disk that was synced stands for the device as which it reads
settled-stands : OneReading → (old new : Seen) (before other : Device) (sequence : ℕ) → IsSynced old new
    → ReadsAs old before sequence → StandsForEither old before other → NowStands new before
settled-stands reading old new before other sequence synced reads either image left =
    let same : reads.bytes ≡ image =
    same_Some reads.bytes image (sym reads.reads ∙ sym synced.quiet.reads ∙ synced.settled image left) in
    stands_as reading image before before other sequence
    (subst (λ (b : List ℕ). HasRecord b before sequence) same reads.record_is)
    (either.each image (synced.quiet.still.crash image left))

broke : (quest : Quest) (boot : Boot) (began : Traffic) (visits : List Visit) → boot.after ≡ boot.before → visits ≡ []
    → began.standing ≡ None → EndsBroken quest boot began began visits
broke quest boot began visits same none idle = record {
  breaks = subst (λ (vs : List Visit). BreaksOff quest began began vs) (sym none) (breaks_first quest began idle);
  same = same;
}

-- ---- the device could not be found

refused_tells : NoneWrong → (old new : Seen) (fault : StateFault) (ended : Outcome) (before : Device) (sequence : ℕ)
    (when : Moment) → IsLawful old → ReadsAs old before sequence → Found old new (Err fault) → EndsFor fault ended
    → TellsStep sequence ended (idle_boot before when)
refused_tells right old new state.Failed ended before sequence when lawful reads found is =
    subst (λ (o : Outcome). TellsStep sequence o (idle_boot before when)) (sym is) tt
refused_tells right old new state.NotInitialised ended before sequence when lawful reads found is =
    absurd (never_uninitialised old before sequence lawful reads found)
refused_tells right old new (state.Damaged slot number size) ended before sequence when lawful reads found is =
    absurd (never_damaged old before sequence slot number size lawful reads found)
refused_tells right old new (state.BadRecord place byte) ended before sequence when lawful reads found is =
    absurd (never_wrong right old before sequence place byte reads found)
refused_tells right old new (state.Exhausted last) ended before sequence when lawful reads found is = absurd found
refused_tells right old new state.OutOfMemory ended before sequence when lawful reads found is =
    subst (λ (o : Outcome). TellsStep sequence o (idle_boot before when)) (sym is) refl
refused_tells right old new (state.InUse slot) ended before sequence when lawful reads found is = absurd found
refused_tells right old new (state.TooLarge size) ended before sequence when lawful reads found is = absurd found

refused_walk : (quest : Quest) (old new : Seen) (fault : StateFault) (ended : Outcome) (boot : Boot) (began : Traffic)
    (visits : List Visit) → Found old new (Err fault) → EndsFor fault ended → boot.after ≡ boot.before → visits ≡ []
    → began.standing ≡ None → WalkEnds quest ended boot began began visits
refused_walk quest old new state.Failed ended boot began visits found is same none idle =
    subst (λ (o : Outcome). WalkEnds quest o boot began began visits) (sym is) (inr (broke quest boot began visits same none idle))
refused_walk quest old new state.NotInitialised ended boot began visits found is same none idle =
    subst (λ (o : Outcome). WalkEnds quest o boot began began visits) (sym is) (record { net = refl; none_noted = none })
refused_walk quest old new (state.Damaged slot number size) ended boot began visits found is same none idle =
    subst (λ (o : Outcome). WalkEnds quest o boot began began visits) (sym is) (record { net = refl; none_noted = none })
refused_walk quest old new (state.BadRecord place byte) ended boot began visits found is same none idle =
    subst (λ (o : Outcome). WalkEnds quest o boot began began visits) (sym is) (record { net = refl; none_noted = none })
refused_walk quest old new (state.Exhausted last) ended boot began visits found is same none idle = absurd found
refused_walk quest old new state.OutOfMemory ended boot began visits found is same none idle =
    subst (λ (o : Outcome). WalkEnds quest o boot began began visits) (sym is) (inr (broke quest boot began visits same none idle))
refused_walk quest old new (state.InUse slot) ended boot began visits found is same none idle = absurd found
refused_walk quest old new (state.TooLarge size) ended boot began visits found is same none idle = absurd found

pub refused_ok : {D : Type 0} (seen : D → Seen) → ((d : D) → IsLawful (seen d)) → NoneWrong → OneReading → (old new : D)
    (sources : List Source) (files : Option FileMap) (a : Option Traffic) (report : Report) (fault : StateFault)
    → Found (seen old) (seen new) (Err fault) → EndsFor fault report.outcome → report.visits ≡ []
    → IsStill (seen old) (seen new) → (state_failed {T = Held} (Err fault) ≡ false → IsSynced (seen old) (seen new))
    → (before : Device) (sequence : ℕ) → ReadsAs (seen old) before sequence
    → BootOk seen old new sources (outside_of files a a) report before sequence
refused_ok seen lawful right reading old new sources files a report fault found is none still synced before sequence reads =
    let boot = idle_boot before report.moment in
    let quest = quest_of (looker_at before (seen old).size report.moment) sources in
    record {
      changes = record {
        boot = boot;
        begins = refl;
        safe = inl refl;
        crash = λ other either. stays-ok seen lawful old new boot other either still refl;
      };
      moment = refl;
      step = refused_tells right (seen old) (seen new) fault report.outcome before sequence report.moment (lawful old)
          reads found is;
      walk = λ told same.
          told_same (λ began now. began.standing ≡ None → WalkEnds (quest told) report.outcome boot began now report.visits)
          a (λ began idle. refused_walk (quest told) (seen old) (seen new) fault report.outcome boot began report.visits
          found is refl none idle);
      one = λ kept other either.
          settled-stands reading (seen old) (seen new) before other sequence
          (synced (sym (blamed_alike Held fault report.outcome is) ∙ kept)) reads either;
    }

-- ---- the device was committed at an earlier boot

pub committed_ok : {D : Type 0} (seen : D → Seen) → ((d : D) → IsLawful (seen d)) → OneReading → (old new : D)
    (sources : List Source) (files : Option FileMap) (a : Option Traffic) (report : Report) (held : Held)
    → IsSynced (seen old) (seen new) → IsHeld (seen new) held → held.device.onboarded ≢ None
    → report.outcome ≡ outcome.AlreadyOnboarded held.device → report.visits ≡ [] → (before : Device) (sequence : ℕ)
    → ReadsAs (seen old) before sequence
    → BootOk seen old new sources (outside_of files a a) report before sequence
committed_ok seen lawful reading old new sources files a report held synced is committed ended none before sequence reads =
    let boot = idle_boot before report.moment in
    let quest = quest_of (looker_at before (seen old).size report.moment) sources in
    let same = (held-before reading (seen old) (seen new) held before sequence (lawful new) is synced.quiet.reads reads).0 in
    record {
      changes = record {
        boot = boot;
        begins = refl;
        safe = inl refl;
        crash = λ other either. stays-ok seen lawful old new boot other either synced.quiet.still refl;
      };
      moment = refl;
      step = subst (λ (o : Outcome). TellsStep sequence o boot) (sym ended)
          (same, subst (λ (d : Device). d.onboarded ≢ None) same committed, refl);
      walk = λ told is_told.
          told_same (λ began now. began.standing ≡ None → WalkEnds (quest told) report.outcome boot began now report.visits)
          a (λ began idle. subst (λ (o : Outcome). WalkEnds (quest told) o boot began began report.visits) (sym ended)
          (record { net = refl; none_noted = none }));
      one = λ kept other either. settled-stands reading (seen old) (seen new) before other sequence synced reads either;
    }
