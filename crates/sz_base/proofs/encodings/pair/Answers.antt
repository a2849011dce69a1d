use Rattle.std.proofs.Common.{sym, ◌∙◌}
use Rattle.sz_base.proofs.ReadPairs.{pair_some, pair_decodes}
use Rattle.sz_base.proofs.encodings.pair.Goals as goal

pub returns-in-Ok-clause-some : goal.returns-in-Ok-clause-some
returns-in-Ok-clause-some c = pair_some c.args.high c.args.low _ (sym c.from_hex.ensures ∙ c.in-Ok.is)

pub returns-in-Err-clause-none : goal.returns-in-Err-clause-none
returns-in-Err-clause-none c = λ byte h. cc (sym c.in-Err.is, c.from_hex.ensures, pair_decodes _ _ byte h)
