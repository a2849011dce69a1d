use Rattle.std.proofs.Common.{rules, arith}
use Rattle.std.proofs.lemmas.Grind.{common_steps}
use Rattle.sz_commands.proofs.Parts.{Appends-nothing, front_written, part_refused, part_written, parts_written}
use Rattle.sz_commands.proofs.print.write_parts.Goals as goal

pub loop-part-init : goal.loop-part-init
loop-part-init g c = record { written = Appends-nothing (g.O.Sink.written c.args.out.now); faults = search rules }

pub loop-part-preserved : goal.loop-part-preserved
loop-part-preserved g c = record {
  written =
      part_written (λ part. part.now) _ (g.O.Sink.written c.loop-part.out) _ c.args.parts.now c.loop-part.part-index _ c.loop-part-test.true
      c.loop-part.invariant.written c.in_ok-write.ensures.ok;
  faults = grind (arith, common_steps);
}

pub returns-in_err-write-clause-written : goal.returns-in_err-write-clause-written
returns-in_err-write-clause-written g c =
    front_written _ c.from_residual.result _ _ c.from_residual.ensures.0
    (part_refused (λ part. part.now) _ (g.O.Sink.written c.loop-part.out) _ c.args.parts.now c.loop-part.part-index _ c.loop-part-test.true
    c.loop-part.invariant.written c.in_err-write.ensures.refused)

pub returns-clause-written : goal.returns-clause-written
returns-clause-written g c =
    parts_written (λ part. part.now) _ _ c.args.parts.now c.loop-part.part-index (grind (arith, common_steps)) c.loop-part.invariant.written
