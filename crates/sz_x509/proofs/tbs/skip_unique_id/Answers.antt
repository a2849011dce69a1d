use Rattle.std.proofs.Common.{refl, sym, ◌∙◌}
use Rattle.sz_der.specs.Spots.{spot_of}
use Rattle.sz_der.proofs.Optional.{after_next, after_other}
use Rattle.sz_der.proofs.Steps.{exit}
use Rattle.sz_x509.specs.CertFault.{unique_id_fault}
use Rattle.sz_x509.proofs.tbs.skip_unique_id.Goals as goal

pub returns-in_err-_id-clause-fault : goal.returns-in_err-_id-clause-fault
unfolding unique_id_fault
returns-in_err-_id-clause-fault c =
    exit _ _ c.in_err-_id.field-0.0 c.from_residual.ensures.1 (rw (sym c.is_next.ensures ∙ c.if-is_next.true, c.in_err-_id.ensures.fault) refl)

pub returns-in_ok-_id-clause-ok : goal.returns-in_ok-_id-clause-ok
unfolding unique_id_fault
returns-in_ok-_id-clause-ok c = rw (sym c.is_next.ensures ∙ c.if-is_next.true, c.in_ok-_id.ensures.ok) refl

pub returns-in_ok-_id-clause-next : goal.returns-in_ok-_id-clause-next
returns-in_ok-_id-clause-next c =
    c.in_ok-_id.ensures.next ∙ sym (after_next c.args.tag (spot_of c.args.reader.now) (sym c.is_next.ensures ∙ c.if-is_next.true))

pub returns-else-is_next-clause-ok : goal.returns-else-is_next-clause-ok
unfolding unique_id_fault
returns-else-is_next-clause-ok c = rw (sym c.is_next.ensures ∙ c.if-is_next.false) refl

pub returns-else-is_next-clause-next : goal.returns-else-is_next-clause-next
returns-else-is_next-clause-next c = sym (after_other c.args.tag (spot_of c.args.reader.now) (sym c.is_next.ensures ∙ c.if-is_next.false))
