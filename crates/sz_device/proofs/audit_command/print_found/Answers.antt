use Rattle.std.proofs.Common.{codes}
use Rattle.sz_device.proofs.Lines.{refused-first, written-behind}
use Rattle.sz_device.proofs.audit_command.print_found.Goals as goal
use Rattle.sz_device.specs.AuditRan.{found_line}

pub returns-in_err-print_line-clause-written : goal.returns-in_err-print_line-clause-written
returns-in_err-print_line-clause-written g c =
    let audit = c.args.audit.now in
    refused-first (found_line (codes "image ") audit.image) (found_line (codes "configuration ") audit.configuration) c.from_residual.result _ _
    c.from_residual.ensures.0 c.in_err-print_line.ensures.written

pub returns-clause-written : goal.returns-clause-written
returns-clause-written g c =
    let audit = c.args.audit.now in
    written-behind (found_line (codes "image ") audit.image) (found_line (codes "configuration ") audit.configuration) c.print_line-2.result _
    (g.O.Sink.written c.print_line.new.out) _ c.in_ok-print_line.ensures.written c.print_line-2.ensures.written
