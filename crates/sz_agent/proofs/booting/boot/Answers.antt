use Rattle.std.proofs.Common.{◌≡◌, ◌≢◌, ℕ, None, sym, subst, ◌∙◌, refl}
use Rattle.sz_spec.specs.Cause.{HasCause}
use Rattle.sz_agent.specs.Boot.{FoundAs}
use Rattle.sz_agent.specs.Choice.{blames_disk as blames_choice, made_by}
use Rattle.sz_agent.specs.Ending.{EndsFor}
use Rattle.sz_agent.specs.declared.report.Outcome.{Outcome}
use Rattle.sz_agent.proofs.Finding.{held-reads}
use Rattle.sz_agent.proofs.Idling.{committed_ok, early-quiet, refused_ok, some_not_none, none_of}
use Rattle.sz_agent.proofs.Stepping.{cause_taken, found_taken, never_early, taken_ok}
use Rattle.sz_agent.proofs.booting.boot.Goals as goal

pub returns-in-Err-clause-boot_ok : goal.returns-in-Err-clause-boot_ok
returns-in-Err-clause-boot_ok g c =
    refused_ok g.D.Disk.seen g.met.D.Disk.lawful c.payloads_have_one_reading.ensures.never_both
    c.payloads_have_one_reading.ensures.one_device c.args.disk.now c.attach.new.disk c.args.sources
    (g.F.Folder.files c.args.folder.now) (g.N.Net.traffic c.args.net.now) c.unasked.result c.in-Err.fault
    c.in-Err.ensures.found
    (subst (λ (o : Outcome). EndsFor c.in-Err.fault o) (sym c.unasked.ensures.outcome) c.outcome_of.ensures)
    c.unasked.ensures.visits c.in-Err.ensures.still c.in-Err.ensures.synced

pub returns-then-is_some-clause-boot_ok : goal.returns-then-is_some-clause-boot_ok
returns-then-is_some-clause-boot_ok g c =
    committed_ok g.D.Disk.seen g.met.D.Disk.lawful c.payloads_have_one_reading.ensures.one_device c.args.disk.now
    c.attach.new.disk c.args.sources (g.F.Folder.files c.args.folder.now) (g.N.Net.traffic c.args.net.now)
    c.unasked-then-is_some.result c.in-Ok.held (c.in-Ok.ensures.synced refl) c.in-Ok.ensures.found
    (some_not_none c.in-Ok.held.device.onboarded (sym c.is_some.ensures ∙ c.if-is_some.true))
    c.unasked-then-is_some.ensures.outcome c.unasked-then-is_some.ensures.visits

pub returns-then-is_some-clause-found : goal.returns-then-is_some-clause-found
returns-then-is_some-clause-found g c =
    subst (λ (o : Outcome). FoundAs (g.D.Disk.seen c.args.disk.now) o) (sym c.unasked-then-is_some.ensures.outcome)
    (held-reads (g.D.Disk.seen c.args.disk.now) (g.D.Disk.seen c.attach.new.disk) c.in-Ok.held
    (λ device. (c.in-Ok.held.device ≡ device) × (device.onboarded ≢ None)) (g.met.D.Disk.lawful c.attach.new.disk)
    c.in-Ok.ensures.found (c.in-Ok.ensures.synced refl).quiet.reads
    (refl, some_not_none c.in-Ok.held.device.onboarded (sym c.is_some.ensures ∙ c.if-is_some.true)))

pub returns-clause-boot_ok : goal.returns-clause-boot_ok
returns-clause-boot_ok g c =
    taken_ok g.D.Disk.seen g.met.D.Disk.lawful c.payloads_have_one_reading.ensures.one_device c.args.disk.now
    c.attach.new.disk c.search-choice.new.disk c.take.new.disk c.in-Ok.held c.draw-moment.result c.args.sources
    (g.F.Folder.files c.args.folder.now) (g.N.Net.traffic c.args.net.now) (g.N.Net.traffic c.search-choice.new.net)
    c.search-choice.result.choice c.search-choice.result.visits c.take.result (c.in-Ok.ensures.synced refl)
    c.in-Ok.ensures.found (none_of c.in-Ok.held.device.onboarded (sym c.is_some.ensures ∙ c.if-is_some.false))
    c.search-choice.ensures.spare c.search-choice.ensures.can c.search-choice.ensures.ends c.take.ensures.becomes c.take.ensures.stands
    c.take.ensures.untouched

pub returns-clause-found : goal.returns-clause-found
returns-clause-found g c =
    found_taken (g.D.Disk.seen c.args.disk.now)
    (made_by c.in-Ok.held.device c.draw-moment.result c.search-choice.result.choice) c.in-Ok.held.ready.sequence
    c.search-choice.result.choice c.take.result c.take.ensures.becomes
    (held-reads (g.D.Disk.seen c.args.disk.now) (g.D.Disk.seen c.attach.new.disk) c.in-Ok.held
    (λ device. device.onboarded ≡ None) (g.met.D.Disk.lawful c.attach.new.disk) c.in-Ok.ensures.found
    (c.in-Ok.ensures.synced refl).quiet.reads
    (none_of c.in-Ok.held.device.onboarded (sym c.is_some.ensures ∙ c.if-is_some.false)))

pub returns-in-Err-clause-early : goal.returns-in-Err-clause-early
returns-in-Err-clause-early g c = λ early. (
  early-quiet (g.D.Disk.seen c.args.disk.now) (g.D.Disk.seen c.attach.new.disk) c.in-Err.fault _
      (subst (λ (o : Outcome). EndsFor c.in-Err.fault o) (sym c.unasked.ensures.outcome) c.outcome_of.ensures)
      c.in-Err.ensures.synced early,
  refl,
  refl,
  refl,
)

pub returns-then-is_some-clause-early : goal.returns-then-is_some-clause-early
returns-then-is_some-clause-early g c = λ early. ((c.in-Ok.ensures.synced refl).quiet, refl, refl, refl)

pub returns-clause-early : goal.returns-clause-early
returns-clause-early g c = λ early.
    absurd (never_early (made_by c.in-Ok.held.device c.draw-moment.result c.search-choice.result.choice)
    c.in-Ok.held.ready.sequence c.search-choice.result.choice c.take.result c.take.ensures.becomes early)

pub returns-clause-disk_fault : goal.returns-clause-disk_fault
returns-clause-disk_fault g c =
    let stood : (g.D.Disk.seen c.attach.new.disk).faults ≡ (g.D.Disk.seen c.args.disk.now).faults =
    c.in-Ok.ensures.cause.stood refl in
    cause_taken (g.D.Disk.seen c.args.disk.now).faults (g.D.Disk.seen c.search-choice.new.disk).faults
    (g.D.Disk.seen c.take.new.disk).faults
    (made_by c.in-Ok.held.device c.draw-moment.result c.search-choice.result.choice) c.in-Ok.held.ready.sequence
    c.search-choice.result.choice c.take.result c.take.ensures.becomes
    (subst (λ (n : ℕ). HasCause n (g.D.Disk.seen c.search-choice.new.disk).faults
    (blames_choice c.search-choice.result.choice)) stood c.search-choice.ensures.disk_fault) c.take.ensures.cause
