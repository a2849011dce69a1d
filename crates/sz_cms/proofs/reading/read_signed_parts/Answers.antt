use Rattle.std.proofs.Common.{refl, ap, ◌∙◌}
use Rattle.sz_der.specs.Spots.{after, after_optional, content_at, inside, Spot}
use Rattle.sz_der.specs.Tags.{context_constructed}
use Rattle.sz_der.proofs.Steps.{exit}
use Rattle.sz_cms.specs.MessageFault.{crls_tag, signed_parts_fault}
use Rattle.sz_cms.specs.Places.{choices_at, content_field_at, signed_from, signers_at}
use Rattle.sz_cms.proofs.Readings.{kind_identifier, kind_named, same_signed}
use Rattle.sz_cms.proofs.reading.read_signed_parts.Goals as goal

pub returns-in_err-take_integer-clause-fault : goal.returns-in_err-take_integer-clause-fault
unfolding signed_parts_fault
returns-in_err-take_integer-clause-fault c =
    exit _ _ c.in_err-take_integer.field-0.0 c.from_residual.ensures.1
    (rw (c.in_err-take_integer.ensures.fault) refl)

pub returns-in_err-take_algorithms-clause-fault : goal.returns-in_err-take_algorithms-clause-fault
unfolding signed_parts_fault
returns-in_err-take_algorithms-clause-fault c =
    exit _ _ c.in_err-take_algorithms.field-0.0 c.from_residual-in_err-take_algorithms.ensures.1
    (rw (c.in_ok-take_integer.ensures.ok, ← c.in_ok-take_integer.ensures.next, c.in_err-take_algorithms.ensures.fault) refl)

pub returns-in_err-identifier-clause-fault : goal.returns-in_err-identifier-clause-fault
unfolding signed_parts_fault
returns-in_err-identifier-clause-fault c =
    exit _ _ c.in_err-identifier.field-0.0 c.from_residual-in_err-identifier.ensures.1
    (rw (
      c.in_ok-take_integer.ensures.ok,
      ← c.in_ok-take_integer.ensures.next,
      c.in_ok-take_algorithms.ensures.ok,
      ← c.in_ok-take_algorithms.ensures.next,
      c.in_err-identifier.ensures.fault,
    ) refl)

pub returns-in_err-certs-clause-fault : goal.returns-in_err-certs-clause-fault
unfolding signed_parts_fault
returns-in_err-certs-clause-fault c =
    exit _ _ c.in_err-certs.field-0.0 c.from_residual-in_err-certs.ensures.1
    (rw (
      c.in_ok-take_integer.ensures.ok,
      ← c.in_ok-take_integer.ensures.next,
      c.in_ok-take_algorithms.ensures.ok,
      ← c.in_ok-take_algorithms.ensures.next,
      c.in_ok-identifier.ensures.ok,
      ← c.in_ok-identifier.ensures.next,
      c.in_err-certs.ensures.fault,
    ) refl)

pub returns-in_err-crls-clause-fault : goal.returns-in_err-crls-clause-fault
unfolding signed_parts_fault
returns-in_err-crls-clause-fault c =
    exit _ _ c.in_err-crls.field-0.0 c.from_residual-in_err-crls.ensures.1
    (rw (
      c.in_ok-take_integer.ensures.ok,
      ← c.in_ok-take_integer.ensures.next,
      c.in_ok-take_algorithms.ensures.ok,
      ← c.in_ok-take_algorithms.ensures.next,
      c.in_ok-identifier.ensures.ok,
      ← c.in_ok-identifier.ensures.next,
      c.in_ok-certs.ensures.ok,
      ← c.in_ok-certs.ensures.next,
      c.in_err-crls.ensures.fault,
    ) refl)

pub returns-in_err-signers-clause-fault : goal.returns-in_err-signers-clause-fault
unfolding signed_parts_fault
returns-in_err-signers-clause-fault c =
    exit _ _ c.in_err-signers.field-0.0 c.from_residual-in_err-signers.ensures.1
    (rw (
      c.in_ok-take_integer.ensures.ok,
      ← c.in_ok-take_integer.ensures.next,
      c.in_ok-take_algorithms.ensures.ok,
      ← c.in_ok-take_algorithms.ensures.next,
      c.in_ok-identifier.ensures.ok,
      ← c.in_ok-identifier.ensures.next,
      c.in_ok-certs.ensures.ok,
      ← c.in_ok-certs.ensures.next,
      c.in_ok-crls.ensures.ok,
      ← c.in_ok-crls.ensures.next,
      c.in_err-signers.ensures.fault,
    ) refl)

pub returns-in_err-expect_end-clause-fault : goal.returns-in_err-expect_end-clause-fault
unfolding signed_parts_fault
returns-in_err-expect_end-clause-fault c =
    exit _ _ c.in_err-expect_end.field-0.0 c.from_residual-in_err-expect_end.ensures.1
    (rw (
      c.in_ok-take_integer.ensures.ok,
      ← c.in_ok-take_integer.ensures.next,
      c.in_ok-take_algorithms.ensures.ok,
      ← c.in_ok-take_algorithms.ensures.next,
      c.in_ok-identifier.ensures.ok,
      ← c.in_ok-identifier.ensures.next,
      c.in_ok-certs.ensures.ok,
      ← c.in_ok-certs.ensures.next,
      c.in_ok-crls.ensures.ok,
      ← c.in_ok-crls.ensures.next,
      c.in_ok-signers.ensures.ok,
      ← c.in_ok-signers.ensures.next,
      c.in_err-expect_end.ensures.fault,
    ) refl)

pub returns-clause-ok : goal.returns-clause-ok
unfolding signed_parts_fault
returns-clause-ok c =
    rw (
      c.in_ok-take_integer.ensures.ok,
      ← c.in_ok-take_integer.ensures.next,
      c.in_ok-take_algorithms.ensures.ok,
      ← c.in_ok-take_algorithms.ensures.next,
      c.in_ok-identifier.ensures.ok,
      ← c.in_ok-identifier.ensures.next,
      c.in_ok-certs.ensures.ok,
      ← c.in_ok-certs.ensures.next,
      c.in_ok-crls.ensures.ok,
      ← c.in_ok-crls.ensures.next,
      c.in_ok-signers.ensures.ok,
      ← c.in_ok-signers.ensures.next,
      c.in_ok-expect_end.ensures.ok,
    ) refl

pub returns-clause-signed : goal.returns-clause-signed
unfolding signed_from
returns-clause-signed c =
    let one = c.in_ok-take_integer.ensures.next in
    let two = c.in_ok-take_algorithms.ensures.next ∙ ap after one in
    let three = c.in_ok-identifier.ensures.next ∙ ap after two in
    let four = c.in_ok-certs.ensures.next ∙ ap (after_optional context_constructed) three in
    let five = c.in_ok-crls.ensures.next ∙ ap (after_optional crls_tag) four in
    same_signed _ _ _ _ _ _ _ _ _ _
    (kind_identifier c.of.result c.in_ok-identifier.identifier.now c.of.ensures ∙ c.in_ok-identifier.ensures.kind
    ∙ ap (λ (spot : Spot). content_at (inside spot)) two)
    (c.in_ok-identifier.ensures.content ∙ ap (λ (spot : Spot). content_field_at (after (inside spot))) two)
    (c.in_ok-certs.ensures.kept ∙ ap (choices_at context_constructed) three) (c.in_ok-crls.ensures.kept ∙ ap (choices_at crls_tag) four)
    (c.in_ok-signers.ensures.signers ∙ ap signers_at five)

pub returns-clause-named : goal.returns-clause-named
returns-clause-named c =
    kind_named c.of.result c.in_ok-identifier.identifier.now c.of.ensures
