use Rattle.std.proofs.Common.{rules, arith, subst}
use Rattle.std.proofs.lemmas.Grind.{common_steps}
use Rattle.sz_commands.proofs.Parts.{Appends-nothing, front_written, part_refused, part_written, parts_written}
use Rattle.sz_device.proofs.report_text.print_visits.Goals as goal
use Rattle.sz_device.specs.OnboardText.{visit_line}
use Rattle.sz_spec.specs.Told.{Appends, AppendsFront}
use Rattle.sz_walk.specs.declared.visit.Visit.{Visit}

pub loop-visit-init : goal.loop-visit-init
loop-visit-init g c = record { written = Appends-nothing (g.O.Sink.written c.args.out.now); faults = search rules }

pub loop-visit-preserved : goal.loop-visit-preserved
loop-visit-preserved g c =
    let middle = g.O.Sink.written c.loop-visit.out in
    let next = g.O.Sink.written c.print_visit.new.out in
    let line = subst (λ (visit : Visit). Appends middle next (visit_line visit)) c.visit-item.is c.in_ok-print_visit.ensures.written in
    record {
      written =
          part_written visit_line _ middle next c.args.visits.now c.loop-visit.visit-index c.visit-item.result c.loop-visit-test.true
          c.loop-visit.invariant.written line;
      faults = grind (arith, common_steps);
    }

pub returns-in_err-print_visit-clause-written : goal.returns-in_err-print_visit-clause-written
returns-in_err-print_visit-clause-written g c =
    let middle = g.O.Sink.written c.loop-visit.out in
    let next = g.O.Sink.written c.print_visit.new.out in
    let line = subst (λ (visit : Visit). AppendsFront middle next (visit_line visit)) c.visit-item.is c.in_err-print_visit.ensures.written in
    front_written _ c.from_residual.result _ _ c.from_residual.ensures.0
    (part_refused visit_line _ middle next c.args.visits.now c.loop-visit.visit-index c.visit-item.result c.loop-visit-test.true
    c.loop-visit.invariant.written line)

pub returns-clause-written : goal.returns-clause-written
returns-clause-written g c =
    parts_written visit_line _ _ c.args.visits.now c.loop-visit.visit-index (grind (arith, common_steps)) c.loop-visit.invariant.written
