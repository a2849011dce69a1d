use Rattle.std.proofs.Common.{sym, ◌∙◌, arith}
use Rattle.sz_chain.proofs.Verified.{earlier_is}
use Rattle.sz_chain.proofs.verify.earlier.Goals as goal

pub returns-then-eq : goal.returns-then-eq
returns-then-eq c = (
  c.loop-other-test.true,
  sym c.has.ensures ∙ c.if-has.true,
  earlier_is c.args.places.now c.loop-other.other _ c.args.key.now c.eq.result (omega arith) c.eq.ensures c.if-eq.true,
)
