-- When nothing disturbs a boot, and what it then comes to.
use Rattle.std.specs.Prelude.{◌≡◌, ◌≢◌, ◌⊎◌, ℕ, ◌+◌, ◌^◌, List, None}
use Rattle.sz_spec.specs.Cause.{Rose}
use Rattle.sz_disk.specs.Disk.{Seen}
use Rattle.sz_io.specs.Net.{Traffic}
use Rattle.sz_step.specs.Boots.{Boot}
use Rattle.sz_step.specs.Step.{Step}
use Rattle.sz_walk.specs.declared.visit.Visit.{Visit}
use Rattle.sz_agent.specs.Boot.{EndsTaking, EndsWithout}
use Rattle.sz_agent.specs.Quest.{Quest}
use Rattle.sz_agent.specs.declared.report.Outcome.{Outcome}
use Rattle.sz_agent.specs.declared.report.Outcome.TheVariants as outcome

-- The disk's count did not rise, memory did not run out, and the record's sequence is not the last. What is lost on
-- the network or in the folder, and a draw that fails, disturb no boot.
pub record IsUndisturbed (old new : Seen) (sequence : ℕ) (ended : Outcome) : Type 0 where
  pub stood : ¬ Rose old.faults new.faults
  pub memory : ended ≢ outcome.OutOfMemory
  pub not_last : sequence + 1 ≢ 2 ^ 64

-- the boot took its step by the first offer that its device takes
pub record StepsByTheFirst (quest : Quest) (boot : Boot) (began now : Traffic) (visits : List Visit) : Type 0 where
  pub step : Step boot.before boot.when boot.evidence boot.after
  pub first : EndsTaking quest boot began now visits

-- there was no such offer, and the boot changed nothing
pub record FindsNone (quest : Quest) (boot : Boot) (began now : Traffic) (visits : List Visit) : Type 0 where
  pub same : boot.after ≡ boot.before
  pub none : EndsWithout quest began now visits

abbrev pub Completes : Quest → Boot → List Visit → Traffic → Traffic → Type 0
Completes quest boot visits began now = began.standing ≡ None
    → StepsByTheFirst quest boot began now visits ⊎ FindsNone quest boot began now visits
