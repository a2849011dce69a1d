-- What one write took stands behind what was done before.
use Rattle.std.proofs.Common.{arith}
use Rattle.sz_real.proofs.Writes.{took_more}
use Rattle.sz_real.proofs.steps.write_whole.Goals as goal

pub loop-done-preserved : goal.loop-done-preserved
loop-done-preserved g c = record {
  within = omega (arith, c.in_ok-done.ensures.within);
  taken = took_more _ _ _ c.loop-done.done c.in_ok-done.field-0 c.args.bytes.now c.loop-done.invariant.taken c.in_ok-done.ensures.taken;
}
