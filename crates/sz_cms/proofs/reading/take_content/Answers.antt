use Rattle.std.proofs.Common.{refl, sym, ap, ◌∙◌, List, ℕ, Some}
use Rattle.sz_der.specs.Spots.{spot_of}
use Rattle.sz_der.specs.Tags.{context_constructed}
use Rattle.sz_der.proofs.Optional.{after_next, after_other}
use Rattle.sz_der.proofs.Steps.{exit}
use Rattle.sz_cms.specs.MessageFault.{content_field_fault}
use Rattle.sz_cms.specs.Places.{content_field_at}
use Rattle.sz_cms.proofs.reading.take_content.Goals as goal

pub returns-then-not-is_next-clause-ok : goal.returns-then-not-is_next-clause-ok
unfolding content_field_fault
returns-then-not-is_next-clause-ok c =
    rw (sym c.is_next.ensures ∙ c.if-not-is_next.true) refl

pub returns-then-not-is_next-clause-content : goal.returns-then-not-is_next-clause-content
unfolding content_field_at
returns-then-not-is_next-clause-content c =
    rw (sym c.is_next.ensures ∙ c.if-not-is_next.true) refl

pub returns-then-not-is_next-clause-next : goal.returns-then-not-is_next-clause-next
returns-then-not-is_next-clause-next c =
    sym (after_other context_constructed (spot_of c.args.reader.now) (sym c.is_next.ensures ∙ c.if-not-is_next.true))

pub returns-in_err-field-clause-fault : goal.returns-in_err-field-clause-fault
unfolding content_field_fault
returns-in_err-field-clause-fault c =
    exit _ _ c.in_err-field.field-0.0 c.from_residual.ensures.1 (rw (sym c.is_next.ensures ∙ c.if-not-is_next.false, c.in_err-field.ensures.fault) refl)

pub returns-in_err-content-clause-fault : goal.returns-in_err-content-clause-fault
unfolding content_field_fault
returns-in_err-content-clause-fault c =
    exit _ _ c.in_err-content.field-0.0 c.from_residual-in_err-content.ensures.1
    (rw (
      sym c.is_next.ensures ∙ c.if-not-is_next.false,
      c.in_ok-field.ensures.ok,
      ← c.parts_of.ensures (spot_of c.args.reader.now) c.in_ok-field.ensures.item,
      c.in_err-content.ensures.fault,
    ) refl)

pub returns-clause-ok : goal.returns-clause-ok
unfolding content_field_fault
returns-clause-ok c =
    rw (
      sym c.is_next.ensures ∙ c.if-not-is_next.false,
      c.in_ok-field.ensures.ok,
      ← c.parts_of.ensures (spot_of c.args.reader.now) c.in_ok-field.ensures.item,
      c.in_ok-content.ensures.ok,
    ) refl

pub returns-clause-content : goal.returns-clause-content
unfolding content_field_at
returns-clause-content c =
    rw (
      sym c.is_next.ensures ∙ c.if-not-is_next.false,
      ← c.parts_of.ensures (spot_of c.args.reader.now) c.in_ok-field.ensures.item,
    ) (ap (λ (x : List ℕ). Some x) c.in_ok-content.ensures.content)

pub returns-clause-next : goal.returns-clause-next
returns-clause-next c =
    c.in_ok-field.ensures.next ∙ sym (after_next context_constructed (spot_of c.args.reader.now) (sym c.is_next.ensures ∙ c.if-not-is_next.false))
