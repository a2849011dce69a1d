use Rattle.std.proofs.Common.{arith}
use Rattle.sz_chain.proofs.Rows.{goes_on_more}
use Rattle.sz_chain.proofs.search.next_row.Goals as goal

pub loop-at-preserved : goal.loop-at-preserved
loop-at-preserved c = (
  omega arith,
  goes_on_more c.args.nodes.now c.args.row.now c.loop-at.next.items c.push.new.self.items c.loop-at.at _ c.least_offer.result c.loop-at-test.true
      c.loop-at.invariant.0 c.least_offer.ensures c.push.ensures.items c.loop-at.invariant.1,
)
