-- That an onboard which nothing disturbs is complete.
use Rattle.std.proofs.Common.{◌≡◌, ◌≢◌, ◌==◌, ◌⊎◌, ℕ, true, ◌+◌, ◌^◌, List, Option, Some, None, Ok, Err, IsTrue, refl, sym, ap, subst, ◌∙◌, inl, inr}
use Rattle.std.proofs.lemmas.Option.{same_Some}
use Rattle.sz_agent.specs.Boot.{TellsStep}
use Rattle.sz_agent.specs.Complete.{IsUndisturbed as IsUndisturbedBoot}
use Rattle.sz_agent.specs.Crash.{ReadsAs}
use Rattle.sz_agent.specs.Ending.{blames_disk as outcome_blames_disk}
use Rattle.sz_agent.specs.declared.report.Outcome.{Outcome}
use Rattle.sz_agent.specs.declared.report.Outcome.TheVariants as outcome
use Rattle.sz_agent.specs.declared.report.Report.{Report}
use Rattle.sz_commands.specs.Failure.{ClockFault, SizeRefused}
use Rattle.sz_device.specs.Booted.{Answer, Beside, Booted, IsComplete}
use Rattle.sz_device.specs.OnboardRan.{OnboardRan, Words}
use Rattle.sz_device.specs.OnboardText as report
use Rattle.sz_device.specs.Sources.{NamesSources}
use Rattle.sz_disk.specs.Disk.{Seen}
use Rattle.sz_record.specs.declared.device.Device.{Device}
use Rattle.sz_source.specs.declared.source.Source.{Source}
use Rattle.sz_state.specs.Layout.{HasLayout}
use Rattle.sz_step.specs.Boots.{Boot}
use Rattle.sz_program.specs.Complete.{Completed, EndsAs, IsUndisturbed}
use Rattle.sz_program.specs.Outside.{Outside}
use Rattle.sz_program.specs.Ran.{Does, Onboards, RunOk, onboard_part}
use Rattle.sz_program.specs.Words.{Command, Onboard, words_of}
use Rattle.sz_program.proofs.KeyLaws.{under-after}

some_not_none : {A : Type 0} (found : Option A) (x : A) → found ≡ Some x → found ≡ None → ⊥
some_not_none found x is none = cc (sym is ∙ none)

output_is : (status : ℕ) → status ≡ 32 → (status == 32) ≡ true
output_is status is = rw is refl

-- the outcome says which step a device took that is not committed
by_outcome : (ended : Outcome) (boot : Boot) (device : Device) (sequence : ℕ) → boot.before ≡ device → device.onboarded ≡ None
    → sequence + 1 ≢ 2 ^ 64 → TellsStep sequence ended boot → (IsTrue (outcome_blames_disk ended) → ⊥)
    → (report.outcome_status ended ≡ 70) ⊎ EndsAs (report.outcome_status ended) boot
by_outcome (outcome.AlreadyOnboarded found) boot device sequence begins uncommitted not_last step blameless =
    absurd (step.1 (ap (λ (d : Device). d.onboarded) begins ∙ uncommitted))
by_outcome (outcome.Onboarded after) boot device sequence begins uncommitted not_last step blameless = inr (inl (refl, step.1))
by_outcome (outcome.Installed after) boot device sequence begins uncommitted not_last step blameless = inr (inr (inl (refl, step.1)))
by_outcome outcome.NoSource boot device sequence begins uncommitted not_last step blameless = inr (inr (inr (refl, step.1)))
by_outcome outcome.DiskFault boot device sequence begins uncommitted not_last step blameless = absurd (blameless refl)
by_outcome outcome.NotInitialised boot device sequence begins uncommitted not_last step blameless = absurd step
by_outcome (outcome.Damaged slot number size) boot device sequence begins uncommitted not_last step blameless = absurd step
by_outcome (outcome.BadRecord place byte) boot device sequence begins uncommitted not_last step blameless = absurd step
by_outcome (outcome.Exhausted last) boot device sequence begins uncommitted not_last step blameless = absurd (not_last step.2.last_one)
by_outcome outcome.OutOfMemory boot device sequence begins uncommitted not_last step blameless = inl refl

-- memory ran out in the boot, or it did not
is_memory : (ended : Outcome) → (ended ≡ outcome.OutOfMemory) ⊎ (ended ≢ outcome.OutOfMemory)
is_memory outcome.OutOfMemory = inl refl
is_memory (outcome.AlreadyOnboarded found) = inr (λ e. cc e)
is_memory (outcome.Onboarded after) = inr (λ e. cc e)
is_memory (outcome.Installed after) = inr (λ e. cc e)
is_memory outcome.NoSource = inr (λ e. cc e)
is_memory outcome.DiskFault = inr (λ e. cc e)
is_memory outcome.NotInitialised = inr (λ e. cc e)
is_memory (outcome.Damaged slot number size) = inr (λ e. cc e)
is_memory (outcome.BadRecord place byte) = inr (λ e. cc e)
is_memory (outcome.Exhausted last) = inr (λ e. cc e)

-- what the command's own law says
abbrev pub CommandIsComplete : {D : Type 0} → (D → Seen) → Type 0
CommandIsComplete {D} seen = (sources : List Source) (old new : D) (before after : Beside) (told : Report) (device : Device)
    (sequence : ℕ) → Booted seen sources old new before after (Ok told) → ReadsAs (seen old) device sequence
    → device.onboarded ≡ None → IsUndisturbedBoot (seen old) (seen new) sequence told.outcome
    → IsComplete seen sources old new before after told device sequence

module _ {D : Type 0} (seen : D → Seen) (complete : CommandIsComplete seen) (words : Words) (before after : Outside D)
    (old new : D) (device : Device) (sequence : ℕ) (still : IsUndisturbed seen words before after old new device sequence)
  where
    reported : (sources : List Source) → NamesSources words.disk words.sources sources → (told : Report)
        → Booted seen sources old new (onboard_part before).beside (onboard_part after).beside (Ok told)
        → (report.outcome_status told.outcome ≡ 70)
        ⊎ Completed seen words before after old new device (report.outcome_status told.outcome)
    reported sources named told booted = elim (is_memory told.outcome) [
      | inl memory ↦ inl (ap report.outcome_status memory)
      | inr enough ↦
          let whole = complete sources old new (onboard_part before).beside (onboard_part after).beside told device sequence booted
          still.reads still.uncommitted (record { stood = still.disk; memory = enough; not_last = still.not_last }) in
          elim (by_outcome told.outcome whole.0.boot device sequence whole.0.begins still.uncommitted still.not_last whole.1
          (λ blamed. still.disk (booted.disk.rose blamed))) [
            | inl memory ↦ inl memory
            | inr ends ↦ inr (record {
              sources = sources;
              named = named;
              report = told;
              changes = whole.0;
              ends = ends;
              first = whole.2;
            })
          ]
    ]

    answered : (sources : List Source) → NamesSources words.disk words.sources sources → (answer : Answer)
        → Booted seen sources old new (onboard_part before).beside (onboard_part after).beside answer
        → (report.status_of answer ≡ 70) ⊎ Completed seen words before after old new device (report.status_of answer)
    answered sources named (Ok told) booted = reported sources named told booted
    answered sources named (Err ClockFault) booted = absurd (still.clock (booted.clock.rose refl))
    answered sources named (Err (SizeRefused size)) booted =
        absurd (booted.may.1 (subst HasLayout (sym booted.may.0) still.layout))
    answered sources named (Err _) booted = absurd booted.may

    ended : (answer : Answer) → OnboardRan seen words (onboard_part before) (onboard_part after) answer
        → (report.status_of answer ≡ 70) ⊎ Completed seen words before after old new device (report.status_of answer)
    ended answer (inl none) = absurd (none.none still.sources still.named)
    ended answer (inr (inl unread)) = inl (ap report.status_of unread.answer_is)
    ended answer (inr (inr (inl none))) = absurd (some_not_none _ old still.on.held none.none)
    ended answer (inr (inr (inr on))) =
        let same_old : on.old ≡ old = same_Some on.old old (sym on.on.held ∙ still.on.held) in
        let under_new = under-after words.disk before.disks after.disks old new still.on.held still.on.others in
        let same_new : on.new ≡ new = same_Some on.new new
        (sym (under-after words.disk before.disks after.disks on.old on.new on.on.held on.on.others) ∙ under_new) in
        let b = (onboard_part before).beside in
        let a = (onboard_part after).beside in
        let with_old = subst (λ (o : D). Booted seen on.sources o on.new b a answer) same_old on.booted in
        let booted = subst (λ (n : D). Booted seen on.sources old n b a answer) same_new with_old in
        answered on.sources on.named answer booted

    onboard_complete : (status : ℕ) → Onboards seen words before after status
        → (status ≡ 70) ⊎ Completed seen words before after old new device status
    onboard_complete status does = elim does.says.printed [
      | inl printed ↦ subst (λ (n : ℕ). (n ≡ 70) ⊎ Completed seen words before after old new device n) (sym printed.0)
          (ended does.answer does.ran)
      | inr refused ↦ elim refused.0 [
        | inl failed ↦ absurd (still.out (does.says.cause.rose (output_is status failed)))
        | inr memory ↦ inl memory
      ]
    ]

    pub run_complete : (line : List (List ℕ)) (status : ℕ) → RunOk seen line before after status → words_of line ≡ Some (Onboard words)
        → (status ≡ 70) ⊎ Completed seen words before after old new device status
    run_complete line status (inl does) is =
        onboard_complete status (subst (λ (c : Option Command). Does seen c before after status) is does)
    run_complete line status (inr memory) is = elim memory.says.printed [
      | inl printed ↦ inl printed.0
      | inr refused ↦ elim refused.0 [
        | inl failed ↦ absurd (still.out (memory.says.cause.rose (output_is status failed)))
        | inr short ↦ inl short
      ]
    ]
