use Rattle.std.proofs.Common.{arith}
use Rattle.sz_chain.proofs.Rows.{least_all, least_more}
use Rattle.sz_chain.proofs.search.least_offer.Goals as goal

pub loop-below-preserved : goal.loop-below-preserved
loop-below-preserved c =
    least_more c.args.nodes.now c.args.row.now c.args.at c.args.upper.now c.loop-below.below _ _ c.loop-below.least c.offer.result c.lesser-least.result
    c.loop-below-test.true c.requires.as_many c.loop-below.invariant c.offer.ensures c.lesser-least.ensures

pub returns : goal.returns
returns c =
    least_all c.args.nodes.now c.args.row.now c.args.at c.args.upper.now c.loop-below.below c.loop-below.least (omega arith) c.loop-below.invariant
