use Rattle.std.proofs.Common.{arith}
use Rattle.sz_der.proofs.Octets.{AreOctets_from_places}
use Rattle.sz_x509.proofs.CrlWhole.{read_ok, read_only}
use Rattle.sz_x509.proofs.crl.Crl.read.Goals as goal

pub returns-clause-ok : goal.returns-clause-ok
returns-clause-ok c =
    read_ok c.args.bytes.now (AreOctets_from_places c.args.bytes.now (λ i. omega (arith, c.type_inv.bytes i))) c.read_parts.result
    c.read_parts.ensures.ok c.read_parts.ensures.fields

pub returns-clause-only : goal.returns-clause-only
returns-clause-only c = λ fields is. read_only c.args.bytes.now fields is c.read_parts.result c.read_parts.ensures.fields c.read_parts.ensures.fault
