use Rattle.std.proofs.Common.{length, arith, sym, ◌∙◌}
use Rattle.std.proofs.lemmas.Bool.{ne_eqb}
use Rattle.sz_der.proofs.Octets.{AreOctets_from_places}
use Rattle.sz_der.proofs.Numbers.{is_padded-zero, is_padded-not}
use Rattle.sz_der.proofs.item.is_padded.Goals as goal

pub returns-then-octets-eq0 : goal.returns-then-octets-eq0
returns-then-octets-eq0 c =
    sym (is_padded-zero c.args.octets.now (AreOctets_from_places c.args.octets.now (λ i. omega (arith, c.type_inv.octets i))) c.requires c.if-octets-eq0.true)

pub returns-else-octets-eq1 : goal.returns-else-octets-eq1
returns-else-octets-eq1 c =
    ne_eqb (length c.args.octets.now) 1 c.if-octets-eq1.false
    ∙ sym (is_padded-not c.args.octets.now (omega arith) (λ one. absurd (c.if-octets-eq1.false one)))
