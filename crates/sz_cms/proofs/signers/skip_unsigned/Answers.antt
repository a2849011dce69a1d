use Rattle.std.proofs.Common.{refl, sym, ◌∙◌}
use Rattle.sz_der.specs.Spots.{spot_of}
use Rattle.sz_der.proofs.Optional.{after_next, after_other}
use Rattle.sz_der.proofs.Steps.{exit}
use Rattle.sz_cms.specs.MessageFault.{unsigned_fault, unsigned_tag}
use Rattle.sz_cms.proofs.signers.skip_unsigned.Goals as goal

pub returns-then-not-is_next-clause-ok : goal.returns-then-not-is_next-clause-ok
unfolding unsigned_fault
returns-then-not-is_next-clause-ok c =
    rw (sym c.is_next.ensures ∙ c.if-not-is_next.true) refl

pub returns-then-not-is_next-clause-next : goal.returns-then-not-is_next-clause-next
returns-then-not-is_next-clause-next c =
    sym (after_other unsigned_tag (spot_of c.args.reader.now) (sym c.is_next.ensures ∙ c.if-not-is_next.true))

pub returns-in_err-_attributes-clause-fault : goal.returns-in_err-_attributes-clause-fault
unfolding unsigned_fault
returns-in_err-_attributes-clause-fault c =
    exit _ _ c.in_err-_attributes.field-0.0 c.from_residual.ensures.1
    (rw (sym c.is_next.ensures ∙ c.if-not-is_next.false, c.in_err-_attributes.ensures.fault) refl)

pub returns-clause-ok : goal.returns-clause-ok
unfolding unsigned_fault
returns-clause-ok c =
    rw (sym c.is_next.ensures ∙ c.if-not-is_next.false, c.in_ok-_attributes.ensures.ok) refl

pub returns-clause-next : goal.returns-clause-next
returns-clause-next c =
    c.in_ok-_attributes.ensures.next ∙ sym (after_next unsigned_tag (spot_of c.args.reader.now) (sym c.is_next.ensures ∙ c.if-not-is_next.false))
