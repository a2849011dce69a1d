use Rattle.std.proofs.Common.{arith}
use Rattle.sz_record.proofs.Totals.{anchors_length}
use Rattle.sz_record.proofs.sizes.anchors_size.Goals as goal

pub returns : goal.returns
returns c = omega (arith, c.loop-anchor.invariant, anchors_length c.args.anchors.now c.loop-anchor.anchor-index (omega arith))
