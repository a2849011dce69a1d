use Rattle.std.proofs.Common.{arith}
use Rattle.std.proofs.lemmas.Grind.{common_steps}
use Rattle.sz_commands.proofs.Parts.{printed-behind, refused-before, refused-cause}
use Rattle.sz_device.proofs.report_text.say_report.Goals as goal
use Rattle.sz_device.specs.OnboardText.{outcome_line, outcome_status, visit_lines}

pub returns-in-Ok-clause-printed : goal.returns-in-Ok-clause-printed
returns-in-Ok-clause-printed g c =
    let report = c.args.report.now in
    printed-behind (outcome_status report.outcome) _ (visit_lines report.visits) (outcome_line report.outcome) _ (g.O.Sink.written c.print_visits.new.out) _
    (rw c.as_slice.ensures at c.in-Ok.ensures.written) c.say_outcome.ensures.printed

pub returns-in-Ok-clause-cause : goal.returns-in-Ok-clause-cause
returns-in-Ok-clause-cause g c = grind (arith, common_steps)

pub returns-in-Err-clause-printed : goal.returns-in-Err-clause-printed
returns-in-Err-clause-printed g c =
    let report = c.args.report.now in
    refused-before (outcome_status report.outcome) _ c.in-Err.fault (visit_lines report.visits) (outcome_line report.outcome) _ _ c.refusal_status.ensures
    (rw c.as_slice.ensures at c.in-Err.ensures.written)

pub returns-in-Err-clause-cause : goal.returns-in-Err-clause-cause
returns-in-Err-clause-cause g c = refused-cause (Unit {0}) c.in-Err.fault _ _ _ c.refusal_status.ensures c.in-Err.ensures.cause
