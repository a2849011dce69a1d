use Rattle.std.proofs.Common.{arith}
use Rattle.sz_der.proofs.Octets.{AreOctets_from_places}
use Rattle.sz_cms.proofs.Answered.{read_ok, read_only}
use Rattle.sz_cms.proofs.info.Info.read.Goals as goal

pub returns-clause-ok : goal.returns-clause-ok
returns-clause-ok c =
    read_ok c.args.bytes.now (AreOctets_from_places c.args.bytes.now (λ i. omega (arith, c.type_inv.bytes i))) c.read_message.result
    c.read_message.ensures.ok c.read_message.ensures.info

pub returns-clause-only : goal.returns-clause-only
returns-clause-only c = λ info is. read_only c.args.bytes.now info is c.read_message.result c.read_message.ensures.info c.read_message.ensures.fault
