-- What one write took stands behind what was done before.
use Rattle.std.proofs.Common.{arith}
use Rattle.sz_real.proofs.Writes.{took_more}
use Rattle.sz_real.proofs.connection.Connection.send.Goals as goal

pub loop-done-preserved : goal.loop-done-preserved
loop-done-preserved g c = record {
  within = omega (arith, c.in_ok-count.ensures.within);
  taken = took_more _ _ _ c.loop-done.done c.in_ok-count.count c.args.bytes.now c.loop-done.invariant.taken c.in_ok-count.ensures.taken;
}
