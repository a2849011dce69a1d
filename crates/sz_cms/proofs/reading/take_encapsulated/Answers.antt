use Rattle.std.proofs.Common.{refl, ap, ◌∙◌}
use Rattle.sz_der.specs.Spots.{after, content_at}
use Rattle.sz_der.proofs.Steps.{exit}
use Rattle.sz_cms.specs.MessageFault.{content_fault}
use Rattle.sz_cms.specs.Places.{content_field_at}
use Rattle.sz_cms.proofs.reading.take_encapsulated.Goals as goal

pub returns-in_err-parts-clause-fault : goal.returns-in_err-parts-clause-fault
unfolding content_fault
returns-in_err-parts-clause-fault c =
    exit _ _ c.in_err-parts.field-0.0 c.from_residual.ensures.1
    (rw (c.in_err-parts.ensures.fault) refl)

pub returns-in_err-identifier-clause-fault : goal.returns-in_err-identifier-clause-fault
unfolding content_fault
returns-in_err-identifier-clause-fault c =
    exit _ _ c.in_err-identifier.field-0.0 c.from_residual-in_err-identifier.ensures.1
    (rw (c.in_ok-parts.ensures.ok, ← c.in_ok-parts.ensures.inside, c.in_err-identifier.ensures.fault) refl)

pub returns-in_err-content-clause-fault : goal.returns-in_err-content-clause-fault
unfolding content_fault
returns-in_err-content-clause-fault c =
    exit _ _ c.in_err-content.field-0.0 c.from_residual-in_err-content.ensures.1
    (rw (
      c.in_ok-parts.ensures.ok,
      ← c.in_ok-parts.ensures.inside,
      c.in_ok-identifier.ensures.ok,
      ← c.in_ok-identifier.ensures.next,
      c.in_err-content.ensures.fault,
    ) refl)

pub returns-in_err-expect_end-clause-fault : goal.returns-in_err-expect_end-clause-fault
unfolding content_fault
returns-in_err-expect_end-clause-fault c =
    exit _ _ c.in_err-expect_end.field-0.0 c.from_residual-in_err-expect_end.ensures.1
    (rw (
      c.in_ok-parts.ensures.ok,
      ← c.in_ok-parts.ensures.inside,
      c.in_ok-identifier.ensures.ok,
      ← c.in_ok-identifier.ensures.next,
      c.in_ok-content.ensures.ok,
      ← c.in_ok-content.ensures.next,
      c.in_err-expect_end.ensures.fault,
    ) refl)

pub returns-clause-ok : goal.returns-clause-ok
unfolding content_fault
returns-clause-ok c =
    rw (
      c.in_ok-parts.ensures.ok,
      ← c.in_ok-parts.ensures.inside,
      c.in_ok-identifier.ensures.ok,
      ← c.in_ok-identifier.ensures.next,
      c.in_ok-content.ensures.ok,
      ← c.in_ok-content.ensures.next,
      c.in_ok-expect_end.ensures.ok,
    ) refl

pub returns-clause-kind : goal.returns-clause-kind
returns-clause-kind c =
    c.in_ok-identifier.ensures.item.content ∙ ap content_at c.in_ok-parts.ensures.inside

pub returns-clause-content : goal.returns-clause-content
returns-clause-content c =
    c.in_ok-content.ensures.content ∙ ap content_field_at (c.in_ok-identifier.ensures.next ∙ ap after c.in_ok-parts.ensures.inside)
