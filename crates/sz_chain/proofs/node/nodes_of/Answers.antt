use Rattle.std.proofs.Common.{arith}
use Rattle.sz_chain.proofs.Issued.{nodes_all, nodes_more}
use Rattle.sz_chain.proofs.node.nodes_of.Goals as goal

pub loop-at-preserved : goal.loop-at-preserved
loop-at-preserved c =
    let made = c.node_of.ensures in (
      omega arith,
      nodes_more c.args.when.0 c.args.signers c.args.places.now c.args.steps.now c.loop-at.nodes.items c.push.new.self.items c.loop-at.at _ _ c.has.result
          c.node_of.result c.loop-at-test.true c.requires.as_many c.loop-at.invariant.0 c.has.ensures
          (record {
            issuers_are = made.issuers;
            limit = made.limit;
            counted = made.counted;
            kind = made.is_anchor;
            starts = made.starts;
          })
          c.push.ensures.items c.loop-at.invariant.1,
    )

pub returns : goal.returns
returns c = λ crls are.
    nodes_all crls c.args.when.0 c.args.signers c.args.places.now c.args.steps.now c.loop-at.nodes.items (omega arith) are c.loop-at.invariant.1
