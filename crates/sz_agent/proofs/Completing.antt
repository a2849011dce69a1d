-- A boot that nothing disturbs is complete.
use Rattle.std.specs.Prelude.{◌≡◌, ◌≢◌, ℕ, ◌+◌, ◌^◌, List, None}
use Rattle.std.proofs.Common.{refl, ap, ◌∙◌, inl, inr}
use Rattle.sz_spec.specs.Cause.{HasCause, Rose}
use Rattle.sz_disk.specs.Disk.{Seen}
use Rattle.sz_io.specs.Net.{Traffic}
use Rattle.sz_record.specs.declared.device.Device.{Device}
use Rattle.sz_source.specs.declared.source.Source.{Source}
use Rattle.sz_step.specs.Boots.{Boot}
use Rattle.sz_walk.specs.Walk.{WhereBothTell}
use Rattle.sz_walk.specs.declared.visit.Visit.{Visit}
use Rattle.sz_agent.specs.Boot.{BootOk, looker_at, Outside, TellsStep, WalkEnds}
use Rattle.sz_agent.specs.Complete.{Completes, IsUndisturbed}
use Rattle.sz_agent.specs.Ending.{blames_disk}
use Rattle.sz_agent.specs.Quest.{Quest, quest_of}
use Rattle.sz_agent.specs.declared.report.Outcome.{Outcome}
use Rattle.sz_agent.specs.declared.report.Outcome.TheVariants as outcome
use Rattle.sz_agent.specs.declared.report.Report.{Report}
use Rattle.sz_agent.proofs.Turning.{told_weaker}

by_outcome : (quest : Quest) (ended : Outcome) (boot : Boot) (sequence : ℕ) (visits : List Visit) (began now : Traffic)
    → boot.before.onboarded ≡ None → ended ≢ outcome.DiskFault → ended ≢ outcome.OutOfMemory → sequence + 1 ≢ 2 ^ 64
    → TellsStep sequence ended boot → (began.standing ≡ None → WalkEnds quest ended boot began now visits)
    → Completes quest boot visits began now
by_outcome quest (outcome.AlreadyOnboarded found) boot sequence visits began now none fault memory last tells ends idle =
    absurd (tells.1 none)
by_outcome quest (outcome.Onboarded after) boot sequence visits began now none fault memory last tells ends idle =
    inl (record { step = inr tells.1; first = ends idle })
by_outcome quest (outcome.Installed after) boot sequence visits began now none fault memory last tells ends idle =
    inl (record { step = inl tells.1; first = ends idle })
by_outcome quest outcome.NoSource boot sequence visits began now none fault memory last tells ends idle =
    inr (record { same = tells.1; none = ends idle })
by_outcome quest (outcome.Exhausted number) boot sequence visits began now none fault memory last tells ends idle =
    absurd (last tells.2.last_one)
by_outcome quest outcome.DiskFault boot sequence visits began now none fault memory last tells ends idle =
    absurd (fault refl)
by_outcome quest outcome.OutOfMemory boot sequence visits began now none fault memory last tells ends idle =
    absurd (memory refl)
by_outcome quest outcome.NotInitialised boot sequence visits began now none fault memory last tells ends idle = absurd tells
by_outcome quest (outcome.Damaged slot number length) boot sequence visits began now none fault memory last tells ends idle =
    absurd tells
by_outcome quest (outcome.BadRecord place value) boot sequence visits began now none fault memory last tells ends idle =
    absurd tells

no_fault : (before now : ℕ) (ended : Outcome) → HasCause before now (blames_disk ended) → ¬ Rose before now
    → ended ≢ outcome.DiskFault
no_fault before now ended cause stood is = stood (cause.rose (ap blames_disk is))

pub complete : {D : Type 0} (seen : D → Seen) (old new : D) (sources : List Source) (outside : Outside) (report : Report)
    (before : Device) (sequence : ℕ) → HasCause (seen old).faults (seen new).faults (blames_disk report.outcome)
    → IsUndisturbed (seen old) (seen new) sequence report.outcome → before.onboarded ≡ None
    → (ok : BootOk seen old new sources outside report before sequence)
    → WhereBothTell outside.files outside.began outside.now (λ files.
    Completes (quest_of (looker_at before (seen old).size report.moment) sources files) ok.changes.boot report.visits)
complete seen old new sources outside report before sequence cause calm none ok files told =
    let quest = quest_of (looker_at before (seen old).size report.moment) sources files in
    let boot = ok.changes.boot in
    let uncommitted : boot.before.onboarded ≡ None = ap (λ (d : Device). d.onboarded) ok.changes.begins ∙ none in
    told_weaker (λ began now. began.standing ≡ None → WalkEnds quest report.outcome boot began now report.visits)
    (Completes quest boot report.visits)
    (λ began now ends. by_outcome quest report.outcome boot sequence report.visits began now uncommitted
    (no_fault (seen old).faults (seen new).faults report.outcome cause calm.stood) calm.memory calm.not_last ok.step ends)
    outside.began outside.now (ok.walk files told)
