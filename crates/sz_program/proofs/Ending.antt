-- The statuses with which runs end, and those of a command that nothing disturbs.
use Rattle.std.proofs.Common.{◌≡◌, ℕ, List, Option, Some, None, Ok, Err, refl, sym, subst, ◌∙◌, inl, inr}
use Rattle.std.proofs.lemmas.Option.{same_Some}
use Rattle.sz_agent.specs.declared.report.Outcome.{Outcome}
use Rattle.sz_agent.specs.declared.report.Outcome.TheVariants as outcome
use Rattle.sz_commands.specs.Ending.{number_of}
use Rattle.sz_commands.specs.Failure as failure
use Rattle.sz_commands.specs.declared.ending.Ending.{Ending}
use Rattle.sz_commands.specs.declared.ending.Ending.TheVariants as ending
use Rattle.sz_device.specs.AuditRan as audit
use Rattle.sz_device.specs.Booted as booted
use Rattle.sz_device.specs.DoneLine as done
use Rattle.sz_device.specs.OnboardText as report
use Rattle.sz_disk.specs.Disk.{Seen}
use Rattle.sz_keys.specs.CheckLine as check
use Rattle.sz_keys.specs.CheckRan as checked
use Rattle.sz_program.specs.Causes.{HasCauses, Lacks, LacksDisk, LacksFile}
use Rattle.sz_program.specs.Complete.{EndsByItsRow, IsCalm, IsStatus}
use Rattle.sz_program.specs.Outside.{Outside}
use Rattle.sz_program.specs.Ran.{Does, RunOk, Says}
use Rattle.sz_program.specs.Words.{Command, Check, Keygen, Sign, Init, Onboard, Show, Audit, IsNoCommand, words_of}
use Rattle.sz_commands.specs.Objects.{SinkSeen}
use Rattle.sz_keys.specs.KeyLine as line
use Rattle.std.specs.Prelude.{Result}

abbrev Ends : ℕ → Type 0
Ends status = (end : Ending) × (status ≡ number_of end)

-- ---- each answer's own status is the number of an ending

outcome-ends : (ended : Outcome) → Ends (report.outcome_status ended)
outcome-ends (outcome.AlreadyOnboarded found) = (ending.Done, refl)
outcome-ends (outcome.Onboarded after) = (ending.Done, refl)
outcome-ends (outcome.Installed after) = (ending.Restart, refl)
outcome-ends outcome.NoSource = (ending.NoSource, refl)
outcome-ends outcome.DiskFault = (ending.DiskFault, refl)
outcome-ends outcome.NotInitialised = (ending.NotInitialised, refl)
outcome-ends (outcome.Damaged slot number size) = (ending.Damaged, refl)
outcome-ends (outcome.BadRecord place byte) = (ending.Damaged, refl)
outcome-ends (outcome.Exhausted last) = (ending.Exhausted, refl)
outcome-ends outcome.OutOfMemory = (ending.OutOfMemory, refl)

onboard-ends : (answer : booted.Answer) → Ends (report.status_of answer)
onboard-ends (Ok told) = outcome-ends told.outcome
onboard-ends (Err f) = (failure.ending_of f, refl)

check-ends : (answer : checked.Answer) → Ends (check.status_of answer)
check-ends (Ok rule) = (check.ending_of rule, refl)
check-ends (Err f) = (failure.ending_of f, refl)

key-ends : (answer : Result ℕ failure.Failure) → Ends (line.status_of answer)
key-ends (Ok number) = (ending.Done, refl)
key-ends (Err f) = (failure.ending_of f, refl)

done-ends : {T : Type 0} (answer : Result T failure.Failure) → Ends (done.status_of answer)
done-ends (Ok told) = (ending.Done, refl)
done-ends (Err f) = (failure.ending_of f, refl)

audit-ends : (answer : audit.Answer) → Ends (audit.status_of answer)
audit-ends (Ok found) = (audit.ending_of found, refl)
audit-ends (Err f) = (failure.ending_of f, refl)

-- ---- and so is that of the run, unless the output failed

says-status : (own : ℕ) (text : List ℕ) (before after : SinkSeen) (given : ℕ) → Ends own → Says own text before after given → IsStatus given
says-status own text before after given ends says = elim says.printed [
  | inl printed ↦ inl (ends.0, printed.0 ∙ ends.1)
  | inr refused ↦ elim refused.0 [ inl failed ↦ inr failed | inr memory ↦ inl (ending.OutOfMemory, memory) ]
]

module _ {D : Type 0} (seen : D → Seen) (before after : Outside D) (status : ℕ) where
  does-status : (command : Option Command) → Does seen command before after status → IsStatus status
  does-status None does = says-status _ _ before.out after.out status (ending.Usage, refl) does.says
  does-status (Some (Check paths)) does = says-status _ _ before.out after.out status (check-ends does.answer) does.says
  does-status (Some (Keygen words)) does = says-status _ _ before.out after.out status (key-ends does.answer) does.says
  does-status (Some (Sign words)) does = says-status _ _ before.out after.out status (key-ends does.answer) does.says
  does-status (Some (Init words)) does = says-status _ _ before.out after.out status (done-ends does.answer) does.says
  does-status (Some (Onboard words)) does = says-status _ _ before.out after.out status (onboard-ends does.answer) does.says
  does-status (Some (Show disk)) does = says-status _ _ before.out after.out status (done-ends does.answer) does.says
  does-status (Some (Audit disk)) does = says-status _ _ before.out after.out status (audit-ends does.answer) does.says

  pub run_status : (line : List (List ℕ)) → RunOk seen line before after status → IsStatus status
  run_status line (inl does) = does-status (words_of line) does
  run_status line (inr memory) = says-status _ _ before.out after.out status (ending.OutOfMemory, refl) memory.says

  module _ (words : List (List ℕ)) (command : Command) (calm : IsCalm seen words command before after)
      (causes : HasCauses seen words before after status) where
    -- what is blamed by no count and is not missing
    no_command : IsNoCommand words → ⊥
    no_command (inl none) = cc (sym calm.is ∙ none)
    no_command (inr some) = calm.other (some.0, some.1)

    lacks_none : Lacks words before → ⊥
    lacks_none (own, is, lacks) =
        let same : own ≡ command = same_Some own command (sym is ∙ calm.is) in
        elim lacks [
          | inl file ↦ calm.file (subst (λ (c : Command). LacksFile c before) same file)
          | inr disk ↦ calm.disk (subst (λ (c : Command). LacksDisk c before) same disk)
        ]

    by_ending : (end : Ending) → status ≡ number_of end → EndsByItsRow status
    by_ending ending.Done is = inl is
    by_ending ending.Usage is = absurd (no_command (causes.usage is))
    by_ending ending.NotValid is = inr (inl is)
    by_ending ending.Restart is = absurd (calm.other (causes.restart is))
    by_ending ending.NoSource is = absurd (calm.other (causes.no_source is))
    by_ending ending.DiskFault is = absurd (calm.disks (causes.disk is))
    by_ending ending.ClockFault is = absurd (calm.clock (causes.clock is))
    by_ending ending.File is = absurd (elim (causes.file is) [ inl rose ↦ calm.folder rose | inr lacks ↦ lacks_none lacks ])
    by_ending ending.EntropyFault is = absurd (calm.entropy (causes.entropy is))
    by_ending ending.ListenerFault is = absurd (calm.listener (causes.listener is))
    by_ending ending.NotInitialised is = inr (inr (inl is))
    by_ending ending.Damaged is = inr (inr (inr (inl is)))
    by_ending ending.Exhausted is = inr (inr (inr (inr (inl is))))
    by_ending ending.Refused is = inr (inr (inr (inr (inr (inl is)))))
    by_ending ending.OutOfMemory is = inr (inr (inr (inr (inr (inr is)))))

    pub calm_row : IsStatus status → EndsByItsRow status
    calm_row (inl ends) = by_ending ends.0 ends.1
    calm_row (inr failed) = absurd (calm.out (causes.output failed))
