use Rattle.std.proofs.Common.{◌≡◌, take}
use Rattle.sz_spec.specs.Told.{Appends}
use Rattle.sz_device.proofs.report_text.print_visits.Given as goal
use Rattle.sz_device.specs.OnboardText.{visit_lines}

-- the lines of the visits so far are written, and the sink has not failed
abbrev pub invariant-loop-visit : goal.invariant-loop-visit
invariant-loop-visit g l = record {
  written : Appends (g.O.Sink.written l.fn.out) (g.O.Sink.written l.out) (visit_lines (take l.visit-index l.visits));
  faults : g.O.Sink.faults l.out ≡ g.O.Sink.faults l.fn.out;
}
