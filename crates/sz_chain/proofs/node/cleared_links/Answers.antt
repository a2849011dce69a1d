use Rattle.std.proofs.Common.{arith}
use Rattle.sz_chain.proofs.Issued.{cleared_more, cleared_steps}
use Rattle.sz_chain.proofs.node.cleared_links.Goals as goal

pub loop-at-preserved : goal.loop-at-preserved
loop-at-preserved c = (
  omega arith,
  cleared_more c.args.places.now c.args.links.now c.args.lists.now c.loop-at.cleared.items c.push.new.self.items c.loop-at.at _ _ c.clearing.result
      c.loop-at-test.true c.requires.as_many c.loop-at.invariant.0 c.clearing.ensures c.push.ensures.items c.loop-at.invariant.1,
)

pub returns : goal.returns
returns c = λ when crls wanted linked among are.
    cleared_steps when crls c.args.places.now wanted c.args.links.now c.loop-at.cleared.items c.args.lists.now (omega arith) linked among are
    c.loop-at.invariant.1
