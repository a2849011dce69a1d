use Rattle.std.proofs.Common.{arith}
use Rattle.sz_der.proofs.Octets.{AreOctets_from_places}
use Rattle.sz_der.proofs.parts.octets_fit.Goals as goal

pub returns : goal.returns
returns c = AreOctets_from_places c.args.bytes.now (λ i. omega (arith, c.type_inv.bytes i))
