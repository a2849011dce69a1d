use Rattle.std.proofs.Common.{Bool, sym, subst}
use Rattle.sz_spec.specs.Cause.{HasCause}
use Rattle.sz_state.specs.Step.{once_onboarded}
use Rattle.sz_state.specs.declared.held.Held.{Held}
use Rattle.sz_state.proofs.Changing.{either-stands}
use Rattle.sz_agent.proofs.Changing.{blamed_alike, commit_unmade, stands_unchanged, untouched_early}
use Rattle.sz_agent.proofs.taking.commit.Goals as goal

pub returns-in-Ok-clause-stands : goal.returns-in-Ok-clause-stands
returns-in-Ok-clause-stands g c = λ stands.
    let through = c.in-Ok.ensures.stands stands in
    record {
      any_moment = either-stands (g.D.Disk.seen c.args.disk.now) (g.D.Disk.seen c.onboard.new.disk) c.args.held.device
          (once_onboarded c.args.held.device c.args.offer.onboarding c.args.when c.args.offer.evidence)
          through.any_moment;
      changed = λ yes image left. (through.ok image left).stands;
    }

pub returns-in-Err-clause-becomes : goal.returns-in-Err-clause-becomes
returns-in-Err-clause-becomes g c =
    commit_unmade (once_onboarded c.args.held.device c.args.offer.onboarding c.args.when c.args.offer.evidence)
    c.args.held.ready.sequence c.args.offer c.in-Err.fault c.outcome_of.result c.in-Err.ensures.answer
    c.outcome_of.ensures

pub returns-in-Err-clause-stands : goal.returns-in-Err-clause-stands
returns-in-Err-clause-stands g c = λ stands.
    stands_unchanged (g.D.Disk.seen c.args.disk.now) (g.D.Disk.seen c.onboard.new.disk) c.args.held.device
    (once_onboarded c.args.held.device c.args.offer.onboarding c.args.when c.args.offer.evidence) c.in-Err.fault
    c.outcome_of.result c.outcome_of.ensures (c.in-Err.ensures.stands stands)

pub returns-in-Err-clause-untouched : goal.returns-in-Err-clause-untouched
returns-in-Err-clause-untouched g c = λ yes.
    c.in-Err.ensures.untouched (untouched_early c.in-Err.fault c.outcome_of.result c.outcome_of.ensures yes)

pub returns-in-Err-clause-cause : goal.returns-in-Err-clause-cause
returns-in-Err-clause-cause g c =
    subst (λ (b : Bool). HasCause (g.D.Disk.seen c.args.disk.now).faults (g.D.Disk.seen c.onboard.new.disk).faults b)
    (sym (blamed_alike Held c.in-Err.fault c.outcome_of.result c.outcome_of.ensures)) c.in-Err.ensures.cause
