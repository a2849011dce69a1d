use Rattle.std.proofs.Common.{eqb-true, sym, ◌∙◌}
use Rattle.sz_chain.proofs.OneSigner.{content_is, no_signer}
use Rattle.sz_chain.proofs.signed.content_of.Goals as goal

pub returns-then-is_empty : goal.returns-then-is_empty
returns-then-is_empty c = no_signer c.args.signed.now (eqb-true _ 0 (sym c.is_empty.ensures ∙ c.if-is_empty.true))

pub returns : goal.returns
returns c = content_is c.args.signed.now (sym c.is_empty.ensures ∙ c.if-is_empty.false)
