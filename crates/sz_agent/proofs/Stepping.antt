-- A boot that walked over its sources: the step that its choice becomes, or none.
use Rattle.std.specs.Prelude.{◌≡◌, ◌⊎◌, ℕ, Bool, true, false, List, Option, None}
use Rattle.std.proofs.Common.{cond, refl, sym, ap, subst, ◌∙◌, inl, inr}
use Rattle.std.proofs.lemmas.Bool.{false≢true}
use Rattle.sz_spec.specs.Cause.{HasCause}
use Rattle.sz_base.specs.declared.evidence.Evidence.{Evidence}
use Rattle.sz_base.specs.declared.moment.Moment.{Moment}
use Rattle.sz_disk.specs.Disk.{IsLawful, IsSynced, LeavesOnly, Seen}
use Rattle.sz_disk.proofs.Moments.{leaves-now, leaves-weaker, quiet-none, still-leaves}
use Rattle.sz_io.specs.Folder.{FileMap}
use Rattle.sz_io.specs.Net.{Traffic}
use Rattle.sz_record.specs.declared.device.Device.{Device}
use Rattle.sz_source.specs.declared.source.Source.{Source}
use Rattle.sz_state.specs.Held.{IsHeld}
use Rattle.sz_state.specs.Ran.{NowStands}
use Rattle.sz_state.specs.Stands.{Stands}
use Rattle.sz_state.specs.declared.held.Held.{Held}
use Rattle.sz_step.specs.Boots.{Boot}
use Rattle.sz_state.specs.Step.{once_installed, once_onboarded}
use Rattle.sz_state.specs.declared.staged.Staged.{Staged}
use Rattle.sz_step.specs.Step.{Installs, Onboards, Step}
use Rattle.sz_walk.specs.Walk.{WhereBothTell}
use Rattle.sz_walk.specs.declared.visit.Visit.{Visit}
use Rattle.sz_offer.specs.Trial.{looker_of, WritesSpare}
use Rattle.sz_agent.specs.Boot.{BootOk, ends_early, EndsTaking, FoundAs, Outside, outside_of, ReadsDevice, TellsStep, WalkEnds}
use Rattle.sz_agent.specs.Choice.{Becomes, blames_disk as blames_choice, CanChoose, CanCommit, CanUpgrade, change_blames_disk, EndsIdle, EndsWith, is_changed, is_untouched, made_by, StandsOn}
use Rattle.sz_agent.specs.Crash.{ReadsAs, StandsForEither, StandsForOne}
use Rattle.sz_agent.specs.Ending.{blames_disk}
use Rattle.sz_agent.specs.Quest.{Quest, quest_of, Takes}
use Rattle.sz_agent.specs.declared.choice.Choice.{Choice}
use Rattle.sz_agent.specs.declared.choice.Choice.TheVariants as choice
use Rattle.sz_agent.specs.declared.choice.Offer.{Offer}
use Rattle.sz_agent.specs.declared.report.Outcome.{Outcome}
use Rattle.sz_agent.specs.declared.report.Outcome.TheVariants as outcome
use Rattle.sz_agent.specs.declared.report.Report.{Report}
use Rattle.sz_agent.proofs.Idling.{no_evidence}
use Rattle.sz_agent.proofs.Crashing.{one-changed, one-untouched, outlasts-ok, synced-stands, walked-stands}
use Rattle.sz_agent.proofs.Finding.{held-before}
use Rattle.sz_agent.proofs.Holding.{OneReading}
use Rattle.sz_agent.proofs.Turning.{none_whole, taken_whole, told_weaker}

-- ---- the boot that a choice becomes

abbrev evidence_of : Choice → Evidence
evidence_of (choice.Commits offer) = offer.evidence
evidence_of (choice.Installs staged offer) = offer.evidence
evidence_of _ = no_evidence

-- the device is as it was where the disk was not called to change it
abbrev after_of : Device → Moment → Choice → Bool → Device
after_of device when chosen untouched = cond untouched device (made_by device when chosen)

abbrev boot_of : Device → Moment → Choice → Outcome → Boot
boot_of device when chosen ended = record {
  before = device;
  when = when;
  evidence = evidence_of chosen;
  after = after_of device when chosen (is_untouched ended);
}

-- ---- its step

commits_it : (disk : Seen) (device : Device) (when : Moment) (offer : Offer) → device.onboarded ≡ None
    → CanCommit disk device when offer
    → Onboards device when offer.evidence (once_onboarded device offer.onboarding when offer.evidence)
commits_it disk device when offer none can = record {
  onboarding = offer.onboarding;
  authorised = can.authorised;
  uncommitted = none;
  satisfied = can.can.satisfied;
  after_is = refl;
}

installs_it : (disk : Seen) (device : Device) (when : Moment) (staged : Staged) (offer : Offer) → device.onboarded ≡ None
    → CanUpgrade disk device when staged offer
    → Installs device when offer.evidence (once_installed device offer.onboarding staged when offer.evidence)
installs_it disk device when staged offer none can = record {
  onboarding = offer.onboarding;
  authorised = can.authorised;
  uncommitted = none;
  unsatisfied = can.can.unsatisfied;
  names = can.can.names;
  staged = staged;
  area = can.can.area;
  after_is = refl;
}

step_of : (disk : Seen) (device : Device) (when : Moment) (chosen : Choice) → device.onboarded ≡ None
    → CanChoose disk device when chosen
    → (made_by device when chosen ≡ device) ⊎ Step device when (evidence_of chosen) (made_by device when chosen)
step_of disk device when (choice.Commits offer) none can = inr (inr (commits_it disk device when offer none can))
step_of disk device when (choice.Installs staged offer) none can =
    inr (inl (installs_it disk device when staged offer none can))
step_of disk device when choice.Nothing none can = inl refl
step_of disk device when choice.DiskFault none can = inl refl
step_of disk device when choice.OutOfMemory none can = inl refl

safe_of : (device : Device) (when : Moment) (chosen : Choice) (untouched : Bool)
    → (made_by device when chosen ≡ device) ⊎ Step device when (evidence_of chosen) (made_by device when chosen)
    → (after_of device when chosen untouched ≡ device)
    ⊎ Step device when (evidence_of chosen) (after_of device when chosen untouched)
safe_of device when chosen true step = inl refl
safe_of device when chosen false step = step

tells : (disk : Seen) (device : Device) (when : Moment) (chosen : Choice) (sequence : ℕ) (ended : Outcome)
    → device.onboarded ≡ None → CanChoose disk device when chosen
    → Becomes (made_by device when chosen) sequence chosen ended
    → TellsStep sequence ended (boot_of device when chosen ended)
tells disk device when (choice.Commits offer) sequence (outcome.Onboarded after) none can becomes =
    (becomes.0, commits_it disk device when offer none can, becomes.1)
tells disk device when (choice.Commits offer) sequence (outcome.Exhausted last) none can becomes = (none, refl, becomes)
tells disk device when (choice.Commits offer) sequence outcome.OutOfMemory none can becomes = refl
tells disk device when (choice.Commits offer) sequence outcome.DiskFault none can becomes = tt
tells disk device when (choice.Commits offer) sequence _ none can becomes = absurd becomes
tells disk device when (choice.Installs staged offer) sequence (outcome.Installed after) none can becomes =
    (becomes.0, installs_it disk device when staged offer none can, becomes.1)
tells disk device when (choice.Installs staged offer) sequence (outcome.Exhausted last) none can becomes =
    (none, refl, becomes)
tells disk device when (choice.Installs staged offer) sequence outcome.OutOfMemory none can becomes = refl
tells disk device when (choice.Installs staged offer) sequence outcome.DiskFault none can becomes = tt
tells disk device when (choice.Installs staged offer) sequence _ none can becomes = absurd becomes
tells disk device when choice.Nothing sequence ended none can becomes =
    subst (λ (o : Outcome). TellsStep sequence o (boot_of device when choice.Nothing o)) (sym becomes) (none, refl)
tells disk device when choice.DiskFault sequence ended none can becomes =
    subst (λ (o : Outcome). TellsStep sequence o (boot_of device when choice.DiskFault o)) (sym becomes) tt
tells disk device when choice.OutOfMemory sequence ended none can becomes =
    subst (λ (o : Outcome). TellsStep sequence o (boot_of device when choice.OutOfMemory o)) (sym becomes) refl

-- ---- its walk

ends_taking : (quest : Quest) (offer : Offer) (boot : Boot) (began now : Traffic) (visits : List Visit)
    → boot.evidence ≡ offer.evidence → Takes quest offer.onboarding offer.evidence began now visits
    → EndsTaking quest boot began now visits
ends_taking quest offer boot began now visits same takes = record {
  takes = (offer.onboarding, subst (λ (e : Evidence). Takes quest offer.onboarding e began now visits) (sym same) takes);
  whole = taken_whole quest offer.onboarding offer.evidence began now visits takes;
}

walk_ends : (quest : Quest) (device : Device) (when : Moment) (chosen : Choice) (sequence : ℕ) (ended : Outcome)
    (began now : Traffic) (visits : List Visit) → Becomes (made_by device when chosen) sequence chosen ended
    → EndsWith quest chosen began now visits
    → WalkEnds quest ended (boot_of device when chosen ended) began now visits
walk_ends quest device when (choice.Commits offer) sequence (outcome.Onboarded after) began now visits becomes ends =
    ends_taking quest offer _ began now visits refl ends
walk_ends quest device when (choice.Commits offer) sequence (outcome.Exhausted last) began now visits becomes ends =
    ends_taking quest offer _ began now visits refl ends
walk_ends quest device when (choice.Commits offer) sequence outcome.DiskFault began now visits becomes ends =
    inl (ends_taking quest offer _ began now visits refl ends)
walk_ends quest device when (choice.Commits offer) sequence outcome.OutOfMemory began now visits becomes ends =
    inl (ends_taking quest offer _ began now visits refl ends)
walk_ends quest device when (choice.Commits offer) sequence _ began now visits becomes ends = absurd becomes
walk_ends quest device when (choice.Installs staged offer) sequence (outcome.Installed after) began now visits becomes ends =
    ends_taking quest offer _ began now visits refl ends
walk_ends quest device when (choice.Installs staged offer) sequence (outcome.Exhausted last) began now visits becomes ends =
    ends_taking quest offer _ began now visits refl ends
walk_ends quest device when (choice.Installs staged offer) sequence outcome.DiskFault began now visits becomes ends =
    inl (ends_taking quest offer _ began now visits refl ends)
walk_ends quest device when (choice.Installs staged offer) sequence outcome.OutOfMemory began now visits becomes ends =
    inl (ends_taking quest offer _ began now visits refl ends)
walk_ends quest device when (choice.Installs staged offer) sequence _ began now visits becomes ends = absurd becomes
walk_ends quest device when choice.Nothing sequence ended began now visits becomes ends =
    subst (λ (o : Outcome). WalkEnds quest o (boot_of device when choice.Nothing o) began now visits) (sym becomes)
    (record { takes_none = ends; whole = none_whole quest began now visits ends })
walk_ends quest device when choice.DiskFault sequence ended began now visits becomes ends =
    subst (λ (o : Outcome). WalkEnds quest o (boot_of device when choice.DiskFault o) began now visits) (sym becomes)
    (inr (record { breaks = ends; same = refl }))
walk_ends quest device when choice.OutOfMemory sequence ended began now visits becomes ends =
    subst (λ (o : Outcome). WalkEnds quest o (boot_of device when choice.OutOfMemory o) began now visits) (sym becomes)
    (inr (record { breaks = ends; same = refl }))

-- ---- its crashes

-- the disk was not called behind the walk
untouched_stands : {D : Type 0} (seen : D → Seen) → ((d : D) → IsLawful (seen d)) → (walked new : D) (device : Device)
    (ended : Outcome) → is_untouched ended ≡ true → new ≡ walked → NowStands (seen walked) device
    → StandsOn (seen walked) (seen new) device device ended
untouched_stands seen lawful walked new device ended untouched same stands = record {
  any_moment = subst (λ d. LeavesOnly (seen walked) (seen d) (StandsForOne device device)) (sym same)
      (leaves-weaker (seen walked) (seen walked) (seen walked).leaves (StandsForOne device device)
      (λ image left. inl (stands image left))
      (still-leaves (seen walked) (seen walked) (lawful walked) (quiet-none (seen walked)).still));
  changed = λ changed. absurd (never_both ended untouched changed);
}
  where
    never_both : (ended : Outcome) → is_untouched ended ≡ true → is_changed ended ≡ true → ⊥
    never_both (outcome.Onboarded after) untouched changed = absurd (false≢true untouched)
    never_both (outcome.Installed after) untouched changed = absurd (false≢true untouched)
    never_both _ untouched changed = absurd (false≢true changed)

after_stands : {D : Type 0} (seen : D → Seen) → ((d : D) → IsLawful (seen d)) → (walked new : D) (device : Device)
    (when : Moment) (chosen : Choice) (ended : Outcome) (untouched : Bool) → is_untouched ended ≡ untouched
    → (is_untouched ended ≡ true → new ≡ walked)
    → (NowStands (seen walked) device → StandsOn (seen walked) (seen new) device (made_by device when chosen) ended)
    → NowStands (seen walked) device
    → StandsOn (seen walked) (seen new) device (after_of device when chosen untouched) ended
after_stands seen lawful walked new device when chosen ended true untouched same stands now =
    untouched_stands seen lawful walked new device ended untouched (same untouched) now
after_stands seen lawful walked new device when chosen ended false touched same stands now = stands now

-- an outcome that does not blame the disk changed the device or did not call the disk
deed : (next : Device) (sequence : ℕ) (chosen : Choice) (ended : Outcome) → Becomes next sequence chosen ended
    → blames_disk ended ≡ false
    → ((is_changed ended ≡ true) × (is_untouched ended ≡ false)) ⊎ (is_untouched ended ≡ true)
deed next sequence (choice.Commits offer) (outcome.Onboarded after) becomes kept = inl (refl, refl)
deed next sequence (choice.Commits offer) (outcome.Exhausted last) becomes kept = inr refl
deed next sequence (choice.Commits offer) outcome.OutOfMemory becomes kept = inr refl
deed next sequence (choice.Commits offer) outcome.DiskFault becomes kept = absurd (false≢true (sym kept))
deed next sequence (choice.Commits offer) _ becomes kept = absurd becomes
deed next sequence (choice.Installs staged offer) (outcome.Installed after) becomes kept = inl (refl, refl)
deed next sequence (choice.Installs staged offer) (outcome.Exhausted last) becomes kept = inr refl
deed next sequence (choice.Installs staged offer) outcome.OutOfMemory becomes kept = inr refl
deed next sequence (choice.Installs staged offer) outcome.DiskFault becomes kept = absurd (false≢true (sym kept))
deed next sequence (choice.Installs staged offer) _ becomes kept = absurd becomes
deed next sequence choice.Nothing ended becomes kept = inr (ap is_untouched becomes)
deed next sequence choice.DiskFault ended becomes kept = absurd (false≢true (sym kept ∙ ap blames_disk becomes))
deed next sequence choice.OutOfMemory ended becomes kept = inr (ap is_untouched becomes)

one_after : {D : Type 0} (seen : D → Seen) (walked new : D) (held : Held) (when : Moment) (chosen : Choice) (ended : Outcome)
    → ((is_changed ended ≡ true) × (is_untouched ended ≡ false)) ⊎ (is_untouched ended ≡ true)
    → (is_untouched ended ≡ true → new ≡ walked)
    → (NowStands (seen walked) held.device
    → StandsOn (seen walked) (seen new) held.device (made_by held.device when chosen) ended)
    → NowStands (seen walked) held.device
    → NowStands (seen new) (after_of held.device when chosen (is_untouched ended))
one_after seen walked new held when chosen ended (inl done) same stands now =
    subst (λ (b : Bool). NowStands (seen new) (after_of held.device when chosen b)) (sym done.1)
    (one-changed (seen walked) (seen new) held (made_by held.device when chosen) ended done.0 now stands)
one_after seen walked new held when chosen ended (inr untouched) same stands now =
    subst (λ (b : Bool). NowStands (seen new) (after_of held.device when chosen b)) (sym untouched)
    (one-untouched seen walked new held held.device (same untouched) refl now)

-- ---- the boot

-- A boot that found its device, walked over its sources and made what was chosen.
pub taken_ok : {D : Type 0} (seen : D → Seen) → ((d : D) → IsLawful (seen d)) → OneReading → (old synced walked new : D)
    (held : Held) (when : Moment) (sources : List Source) (files : Option FileMap) (a b : Option Traffic) (chosen : Choice)
    (visits : List Visit) (ended : Outcome) → IsSynced (seen old) (seen synced) → IsHeld (seen synced) held
    → held.device.onboarded ≡ None → WritesSpare (seen synced) (seen walked) held → CanChoose (seen walked) held.device when chosen
    → WhereBothTell files a b (λ told began now. EndsIdle (quest_of (looker_of (seen synced) held when) sources told) chosen
    visits began now)
    → Becomes (made_by held.device when chosen) held.ready.sequence chosen ended
    → (NowStands (seen walked) held.device
    → StandsOn (seen walked) (seen new) held.device (made_by held.device when chosen) ended)
    → (is_untouched ended ≡ true → new ≡ walked) → (before : Device) (sequence : ℕ) → ReadsAs (seen old) before sequence
    → BootOk seen old new sources (outside_of files a b) (record { outcome = ended; visits = visits; moment = when }) before
    sequence
taken_ok {D} seen lawful reading old synced walked new held when sources files a b chosen visits ended sync is none
    spare can ends becomes stands same before sequence reads =
    let found = held-before reading (seen old) (seen synced) held before sequence (lawful synced) is sync.quiet.reads reads in
    subst (λ (n : ℕ). BootOk seen old new sources outside report before n) found.1
    (subst (λ (d : Device). BootOk seen old new sources outside report d held.ready.sequence) found.0 (record {
      changes = record {
        boot = boot;
        begins = refl;
        safe = safe_of held.device when chosen (is_untouched ended) (step_of (seen walked) held.device when chosen none can);
        crash = λ other either.
            outlasts-ok seen lawful old synced walked new held boot other ended reading refl sync.quiet.still is spare
            change either;
      };
      moment = refl;
      step = tells (seen walked) held.device when chosen held.ready.sequence ended none can becomes;
      walk = λ told is_told.
          told_weaker (EndsIdle (quest_at (seen synced).size told) chosen visits)
          (λ began now. began.standing ≡ None → WalkEnds (quest_at (seen old).size told) ended boot began now visits)
          (λ began now ends idle. subst
          (λ (s : ℕ). WalkEnds (quest_at s told) ended boot began now visits) sync.quiet.still.size
          (walk_ends (quest_at (seen synced).size told) held.device when chosen held.ready.sequence ended began now visits
          becomes (ends idle)))
          a b (ends told is_told);
      one = λ kept other either.
          one_after seen walked new held when chosen ended
          (deed (made_by held.device when chosen) held.ready.sequence chosen ended becomes kept) same stands
          (now_walked other either);
    }))
  where
    outside : Outside
    outside = outside_of files a b

    report : Report
    report = record { outcome = ended; visits = visits; moment = when }

    boot : Boot
    boot = boot_of held.device when chosen ended

    quest_at : ℕ → FileMap → Quest
    quest_at size told = quest_of (record { device = held.device; size = size; when = when }) sources told

    change : NowStands (seen walked) held.device → StandsOn (seen walked) (seen new) held.device boot.after ended
    change now = after_stands seen lawful walked new held.device when chosen ended (is_untouched ended) refl same stands now

    now_walked : (other : Device) → StandsForEither (seen old) held.device other → NowStands (seen walked) held.device
    now_walked other either =
        leaves-now (seen synced) (seen walked) (λ image. Stands image held.device) (lawful walked)
        (walked-stands (seen synced) (seen walked) held (lawful synced)
        (synced-stands seen lawful old synced held other reading sync.quiet.still is either) spare)

-- what its outcome says of the disk as the boot began
pub found_taken : (disk : Seen) (next : Device) (sequence : ℕ) (chosen : Choice) (ended : Outcome)
    → Becomes next sequence chosen ended → ReadsDevice disk.reads (λ device. device.onboarded ≡ None)
    → FoundAs disk ended
found_taken disk next sequence (choice.Commits offer) (outcome.Onboarded after) becomes reads = reads
found_taken disk next sequence (choice.Commits offer) (outcome.Exhausted last) becomes reads = reads
found_taken disk next sequence (choice.Commits offer) outcome.OutOfMemory becomes reads = tt
found_taken disk next sequence (choice.Commits offer) outcome.DiskFault becomes reads = tt
found_taken disk next sequence (choice.Commits offer) _ becomes reads = absurd becomes
found_taken disk next sequence (choice.Installs staged offer) (outcome.Installed after) becomes reads = reads
found_taken disk next sequence (choice.Installs staged offer) (outcome.Exhausted last) becomes reads = reads
found_taken disk next sequence (choice.Installs staged offer) outcome.OutOfMemory becomes reads = tt
found_taken disk next sequence (choice.Installs staged offer) outcome.DiskFault becomes reads = tt
found_taken disk next sequence (choice.Installs staged offer) _ becomes reads = absurd becomes
found_taken disk next sequence choice.Nothing ended becomes reads =
    subst (λ (o : Outcome). FoundAs disk o) (sym becomes) reads
found_taken disk next sequence choice.DiskFault ended becomes reads =
    subst (λ (o : Outcome). FoundAs disk o) (sym becomes) tt
found_taken disk next sequence choice.OutOfMemory ended becomes reads =
    subst (λ (o : Outcome). FoundAs disk o) (sym becomes) tt

-- a boot that walked did not end before
pub never_early : (next : Device) (sequence : ℕ) (chosen : Choice) (ended : Outcome)
    → Becomes next sequence chosen ended → ends_early ended ≡ true → ⊥
never_early next sequence (choice.Commits offer) (outcome.Onboarded after) becomes early = absurd (false≢true early)
never_early next sequence (choice.Commits offer) (outcome.Exhausted last) becomes early = absurd (false≢true early)
never_early next sequence (choice.Commits offer) outcome.OutOfMemory becomes early = absurd (false≢true early)
never_early next sequence (choice.Commits offer) outcome.DiskFault becomes early = absurd (false≢true early)
never_early next sequence (choice.Commits offer) _ becomes early = absurd becomes
never_early next sequence (choice.Installs staged offer) (outcome.Installed after) becomes early = absurd (false≢true early)
never_early next sequence (choice.Installs staged offer) (outcome.Exhausted last) becomes early = absurd (false≢true early)
never_early next sequence (choice.Installs staged offer) outcome.OutOfMemory becomes early = absurd (false≢true early)
never_early next sequence (choice.Installs staged offer) outcome.DiskFault becomes early = absurd (false≢true early)
never_early next sequence (choice.Installs staged offer) _ becomes early = absurd becomes
never_early next sequence choice.Nothing ended becomes early = absurd (false≢true (sym (ap ends_early becomes) ∙ early))
never_early next sequence choice.DiskFault ended becomes early = absurd (false≢true (sym (ap ends_early becomes) ∙ early))
never_early next sequence choice.OutOfMemory ended becomes early =
    absurd (false≢true (sym (ap ends_early becomes) ∙ early))

-- ---- whom it blames

blames_then : (first middle last : ℕ) (before after : Bool) → HasCause first middle before → HasCause middle last after
    → before ≡ false → HasCause first last after
blames_then first middle last before after one two none =
    subst (λ (n : ℕ). HasCause n last after) (one.stood none) two

blames_first : (first middle last : ℕ) (before after : Bool) → HasCause first middle before → HasCause middle last after
    → after ≡ false → HasCause first last before
blames_first first middle last before after one two none =
    subst (λ (n : ℕ). HasCause first n before) (sym (two.stood none)) one

-- the disk failed in the walk, or in the change
pub cause_taken : (first middle last : ℕ) (next : Device) (sequence : ℕ) (chosen : Choice) (ended : Outcome)
    → Becomes next sequence chosen ended → HasCause first middle (blames_choice chosen)
    → HasCause middle last (change_blames_disk chosen ended) → HasCause first last (blames_disk ended)
cause_taken first middle last next sequence (choice.Commits offer) ended becomes walk change =
    blames_then first middle last false (blames_disk ended) walk change refl
cause_taken first middle last next sequence (choice.Installs staged offer) ended becomes walk change =
    blames_then first middle last false (blames_disk ended) walk change refl
cause_taken first middle last next sequence choice.Nothing ended becomes walk change =
    subst (λ (o : Outcome). HasCause first last (blames_disk o)) (sym becomes)
    (blames_first first middle last false false walk change refl)
cause_taken first middle last next sequence choice.DiskFault ended becomes walk change =
    subst (λ (o : Outcome). HasCause first last (blames_disk o)) (sym becomes)
    (blames_first first middle last true false walk change refl)
cause_taken first middle last next sequence choice.OutOfMemory ended becomes walk change =
    subst (λ (o : Outcome). HasCause first last (blames_disk o)) (sym becomes)
    (blames_first first middle last false false walk change refl)
