use Rattle.std.proofs.Common.{arith}
use Rattle.sz_rest.proofs.reply.put_artifact.Goals as goal

pub returns-clause-bytes : goal.returns-clause-bytes
returns-clause-bytes c = λ i. omega (arith, c.type_inv.artifact i)
