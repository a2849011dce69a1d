use Rattle.std.proofs.Common.{arith}
use Rattle.sz_chain.proofs.Rows.{begins_more}
use Rattle.sz_chain.proofs.search.first_row.Goals as goal

pub loop-node-preserved : goal.loop-node-preserved
loop-node-preserved c = (
  omega arith,
  begins_more c.args.nodes.now c.loop-node.row.items c.push.new.self.items c.loop-node.node-index _ c.then_some.result c.loop-node-test.true
      c.loop-node.invariant.0 c.then_some.ensures c.push.ensures.items c.loop-node.invariant.1,
)
