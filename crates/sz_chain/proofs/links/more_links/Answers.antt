use Rattle.std.proofs.Common.{arith}
use Rattle.sz_chain.proofs.Anchored.{more_next, put_in}
use Rattle.sz_chain.proofs.links.more_links.Goals as goal

pub loop-at-preserved : goal.loop-at-preserved
loop-at-preserved c = (
  omega arith,
  more_next c.args.when.0 c.args.places.now c.args.fresh c.args.links.now c.loop-at.more.items c.push.new.self.items c.loop-at.at _ _ c.or.result
      c.loop-at-test.true c.requires.as_many c.loop-at.invariant.0
      (put_in c.args.when.0 c.args.places.now c.args.fresh _ _ c.issuers_of.result c.or.result c.issuers_of.ensures c.or.ensures)
      c.push.ensures.items c.loop-at.invariant.1,
)

pub returns : goal.returns
returns c = record {
  as_many = omega arith;
  each = λ at cert old new here there over. c.loop-at.invariant.1 at new over cert old here there;
}
