use Rattle.std.proofs.Common.{refl, sym, ◌∙◌}
use Rattle.sz_der.specs.Spots.{spot_of}
use Rattle.sz_der.specs.Tags.{context_constructed}
use Rattle.sz_der.proofs.Optional.{after_next, after_other}
use Rattle.sz_der.proofs.Steps.{exit}
use Rattle.sz_cms.specs.MessageFault.{attributes_fault}
use Rattle.sz_cms.specs.Places.{attributes_at}
use Rattle.sz_cms.proofs.attributes.take_attributes.Goals as goal

pub returns-then-not-is_next-clause-ok : goal.returns-then-not-is_next-clause-ok
unfolding attributes_fault
returns-then-not-is_next-clause-ok c =
    rw (sym c.is_next.ensures ∙ c.if-not-is_next.true) refl

pub returns-then-not-is_next-clause-attributes : goal.returns-then-not-is_next-clause-attributes
unfolding attributes_at
returns-then-not-is_next-clause-attributes c =
    rw (sym c.is_next.ensures ∙ c.if-not-is_next.true) refl

pub returns-then-not-is_next-clause-next : goal.returns-then-not-is_next-clause-next
returns-then-not-is_next-clause-next c =
    sym (after_other context_constructed (spot_of c.args.reader.now) (sym c.is_next.ensures ∙ c.if-not-is_next.true))

pub returns-in_err-field-clause-fault : goal.returns-in_err-field-clause-fault
unfolding attributes_fault
returns-in_err-field-clause-fault c =
    exit _ _ c.in_err-field.field-0.0 c.from_residual.ensures.1 (rw (sym c.is_next.ensures ∙ c.if-not-is_next.false, c.in_err-field.ensures.fault) refl)

pub returns-in_err-attributes-clause-fault : goal.returns-in_err-attributes-clause-fault
unfolding attributes_fault
returns-in_err-attributes-clause-fault c =
    exit _ _ c.in_err-attributes.field-0.0 c.from_residual-in_err-attributes.ensures.1
    (rw (
      sym c.is_next.ensures ∙ c.if-not-is_next.false,
      c.in_ok-field.ensures.ok,
      c.in_err-attributes.ensures.fault (spot_of c.args.reader.now) c.in_ok-field.ensures.item,
    ) refl)

pub returns-clause-ok : goal.returns-clause-ok
unfolding attributes_fault
returns-clause-ok c =
    rw (
      sym c.is_next.ensures ∙ c.if-not-is_next.false,
      c.in_ok-field.ensures.ok,
      c.in_ok-attributes.ensures.ok (spot_of c.args.reader.now) c.in_ok-field.ensures.item,
    ) refl

pub returns-clause-attributes : goal.returns-clause-attributes
unfolding attributes_at
returns-clause-attributes c =
    rw (sym c.is_next.ensures ∙ c.if-not-is_next.false) (c.in_ok-attributes.ensures.attributes (spot_of c.args.reader.now) c.in_ok-field.ensures.item)

pub returns-clause-next : goal.returns-clause-next
returns-clause-next c =
    c.in_ok-field.ensures.next ∙ sym (after_next context_constructed (spot_of c.args.reader.now) (sym c.is_next.ensures ∙ c.if-not-is_next.false))
