use Rattle.std.proofs.Common.{◌≡◌, refl, sym, ap, ◌∙◌, Some}
use Rattle.sz_der.specs.Spots.{after, content_at, inside, spot_of}
use Rattle.sz_cms.specs.MessageFault.{attribute_fault, Fault, type_at, values_spot}
use Rattle.sz_cms.proofs.Readings.{exit_all, known_more}
use Rattle.sz_cms.proofs.attributes.take_attribute.Goals as goal

pub returns-in_err-parts-clause-fault : goal.returns-in_err-parts-clause-fault
unfolding attribute_fault
returns-in_err-parts-clause-fault c =
    exit_all _ _ c.in_err-parts.field-0.0 c.from_residual.ensures.1
    (λ earlier known. rw (c.in_err-parts.ensures.fault) refl)

pub returns-in_err-identifier-clause-fault : goal.returns-in_err-identifier-clause-fault
unfolding attribute_fault
returns-in_err-identifier-clause-fault c =
    exit_all _ _ c.in_err-identifier.field-0.0 c.from_residual-in_err-identifier.ensures.1
    (λ earlier known. rw (c.in_ok-parts.ensures.ok, ← c.in_ok-parts.ensures.inside, c.in_err-identifier.ensures.fault) refl)

pub returns-then-has-clause-fault : goal.returns-then-has-clause-fault
unfolding attribute_fault
returns-then-has-clause-fault c =
    λ earlier known. rw (
      c.in_ok-parts.ensures.ok,
      ← c.in_ok-parts.ensures.inside,
      c.in_ok-identifier.ensures.ok,
      ← c.in_ok-identifier.ensures.item.content,
      ← c.has.ensures earlier known,
      c.if-has.true,
    )
    (ap (λ (x : Fault). Some x) (sym (c.part_fault.ensures (spot_of c.in_ok-parts.parts) c.in_ok-identifier.ensures.item)))

pub returns-in_err-values-clause-fault : goal.returns-in_err-values-clause-fault
unfolding attribute_fault
returns-in_err-values-clause-fault c =
    exit_all _ _ c.in_err-values.field-0.0 c.from_residual-in_err-values.ensures.1
    (λ earlier known. rw (
      c.in_ok-parts.ensures.ok,
      ← c.in_ok-parts.ensures.inside,
      c.in_ok-identifier.ensures.ok,
      ← c.in_ok-identifier.ensures.item.content,
      ← c.has.ensures earlier known,
      c.if-has.false,
      ← c.in_ok-identifier.ensures.next,
      c.in_err-values.ensures.fault,
    ) refl)

pub returns-in_err-more-clause-fault : goal.returns-in_err-more-clause-fault
unfolding attribute_fault
returns-in_err-more-clause-fault c =
    exit_all _ _ c.in_err-more.field-0.0 c.from_residual-in_err-more.ensures.1
    (λ earlier known. rw (
      c.in_ok-parts.ensures.ok,
      ← c.in_ok-parts.ensures.inside,
      c.in_ok-identifier.ensures.ok,
      ← c.in_ok-identifier.ensures.item.content,
      ← c.has.ensures earlier known,
      c.if-has.false,
      ← c.in_ok-identifier.ensures.next,
      c.in_ok-values.ensures.ok,
      ← c.in_ok-values.ensures.inside,
      c.in_err-more.ensures.fault,
    ) refl)

pub returns-in_err-expect_end-clause-fault : goal.returns-in_err-expect_end-clause-fault
unfolding attribute_fault
returns-in_err-expect_end-clause-fault c =
    exit_all _ _ c.in_err-expect_end.field-0.0 c.from_residual-in_err-expect_end.ensures.1
    (λ earlier known. rw (
      c.in_ok-parts.ensures.ok,
      ← c.in_ok-parts.ensures.inside,
      c.in_ok-identifier.ensures.ok,
      ← c.in_ok-identifier.ensures.item.content,
      ← c.has.ensures earlier known,
      c.if-has.false,
      ← c.in_ok-identifier.ensures.next,
      c.in_ok-values.ensures.ok,
      ← c.in_ok-values.ensures.inside,
      c.in_ok-more.ensures.ok,
      ← c.in_ok-values.ensures.next,
      c.in_err-expect_end.ensures.fault,
    ) refl)

pub returns-clause-ok : goal.returns-clause-ok
unfolding attribute_fault
returns-clause-ok c =
    λ earlier known. rw (
      c.in_ok-parts.ensures.ok,
      ← c.in_ok-parts.ensures.inside,
      c.in_ok-identifier.ensures.ok,
      ← c.in_ok-identifier.ensures.item.content,
      ← c.has.ensures earlier known,
      c.if-has.false,
      ← c.in_ok-identifier.ensures.next,
      c.in_ok-values.ensures.ok,
      ← c.in_ok-values.ensures.inside,
      c.in_ok-more.ensures.ok,
      ← c.in_ok-values.ensures.next,
      c.in_ok-expect_end.ensures.ok,
    ) refl

pub returns-clause-known : goal.returns-clause-known
returns-clause-known c =
    λ earlier known.
    let type : c.in_ok-identifier.identifier.content.now ≡ type_at (spot_of c.args.reader.now) =
    c.in_ok-identifier.ensures.item.content ∙ ap content_at c.in_ok-parts.ensures.inside in
    let place : spot_of c.in_ok-values.values ≡ inside (values_spot (spot_of c.args.reader.now)) =
    c.in_ok-values.ensures.inside ∙ ap inside (c.in_ok-identifier.ensures.next ∙ ap after c.in_ok-parts.ensures.inside) in
    let fresh = sym (c.has.ensures earlier known) ∙ c.if-has.false in
    known_more earlier (spot_of c.args.reader.now) c.args.known c.in_ok-more.more known (rw (type, place) at c.in_ok-more.ensures.known) (rw type at fresh)
