use Rattle.std.proofs.Common.{refl, sym, ap, ◌∙◌}
use Rattle.sz_der.proofs.Steps.{exit}
use Rattle.sz_cms.specs.Message.{KeyId}
use Rattle.sz_cms.specs.MessageFault.{identifier_fault}
use Rattle.sz_cms.specs.Places.{identifier_at}
use Rattle.sz_cms.proofs.signers.take_identifier.Goals as goal

pub returns-then-not-is_next-clause-ok : goal.returns-then-not-is_next-clause-ok
unfolding identifier_fault
returns-then-not-is_next-clause-ok c =
    rw (sym c.is_next.ensures ∙ c.if-not-is_next.true) c.take_issuer_serial.ensures.ok

pub returns-then-not-is_next-clause-identifier : goal.returns-then-not-is_next-clause-identifier
unfolding identifier_at
returns-then-not-is_next-clause-identifier c =
    rw (sym c.is_next.ensures ∙ c.if-not-is_next.true) c.take_issuer_serial.ensures.identifier

pub returns-then-not-is_next-clause-fault : goal.returns-then-not-is_next-clause-fault
unfolding identifier_fault
returns-then-not-is_next-clause-fault c =
    rw (sym c.is_next.ensures ∙ c.if-not-is_next.true) c.take_issuer_serial.ensures.fault

pub returns-in_err-key_id-clause-fault : goal.returns-in_err-key_id-clause-fault
unfolding identifier_fault
returns-in_err-key_id-clause-fault c =
    exit _ _ c.in_err-key_id.field-0.0 c.from_residual.ensures.1
    (rw (sym c.is_next.ensures ∙ c.if-not-is_next.false, c.in_err-key_id.ensures.fault) refl)

pub returns-clause-ok : goal.returns-clause-ok
unfolding identifier_fault
returns-clause-ok c =
    rw (sym c.is_next.ensures ∙ c.if-not-is_next.false, c.in_ok-key_id.ensures.ok) refl

pub returns-clause-identifier : goal.returns-clause-identifier
unfolding identifier_at
returns-clause-identifier c =
    rw (sym c.is_next.ensures ∙ c.if-not-is_next.false) (ap KeyId c.in_ok-key_id.ensures.item.content)
