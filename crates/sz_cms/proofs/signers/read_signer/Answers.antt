use Rattle.std.proofs.Common.{refl, ap, ◌∙◌}
use Rattle.sz_der.specs.Spots.{after, after_optional, content_at}
use Rattle.sz_der.specs.Tags.{context_constructed}
use Rattle.sz_der.proofs.Steps.{exit}
use Rattle.sz_cms.specs.MessageFault.{signer_parts_fault}
use Rattle.sz_cms.specs.Places.{algorithm_at, attributes_at, identifier_at, signer_from}
use Rattle.sz_cms.proofs.Readings.{by_hss_is, same_signer}
use Rattle.sz_cms.proofs.signers.read_signer.Goals as goal

pub returns-in_err-take_integer-clause-fault : goal.returns-in_err-take_integer-clause-fault
unfolding signer_parts_fault
returns-in_err-take_integer-clause-fault c =
    exit _ _ c.in_err-take_integer.field-0.0 c.from_residual.ensures.1
    (rw (c.in_err-take_integer.ensures.fault) refl)

pub returns-in_err-identifier-clause-fault : goal.returns-in_err-identifier-clause-fault
unfolding signer_parts_fault
returns-in_err-identifier-clause-fault c =
    exit _ _ c.in_err-identifier.field-0.0 c.from_residual-in_err-identifier.ensures.1
    (rw (c.in_ok-take_integer.ensures.ok, ← c.in_ok-take_integer.ensures.next, c.in_err-identifier.ensures.fault) refl)

pub returns-in_err-digest-clause-fault : goal.returns-in_err-digest-clause-fault
unfolding signer_parts_fault
returns-in_err-digest-clause-fault c =
    exit _ _ c.in_err-digest.field-0.0 c.from_residual-in_err-digest.ensures.1
    (rw (
      c.in_ok-take_integer.ensures.ok,
      ← c.in_ok-take_integer.ensures.next,
      c.in_ok-identifier.ensures.ok,
      ← c.in_ok-identifier.ensures.next,
      c.in_err-digest.ensures.fault,
    ) refl)

pub returns-in_err-attributes-clause-fault : goal.returns-in_err-attributes-clause-fault
unfolding signer_parts_fault
returns-in_err-attributes-clause-fault c =
    exit _ _ c.in_err-attributes.field-0.0 c.from_residual-in_err-attributes.ensures.1
    (rw (
      c.in_ok-take_integer.ensures.ok,
      ← c.in_ok-take_integer.ensures.next,
      c.in_ok-identifier.ensures.ok,
      ← c.in_ok-identifier.ensures.next,
      c.in_ok-digest.ensures.ok,
      ← c.in_ok-digest.ensures.next,
      c.in_err-attributes.ensures.fault,
    ) refl)

pub returns-in_err-scheme-clause-fault : goal.returns-in_err-scheme-clause-fault
unfolding signer_parts_fault
returns-in_err-scheme-clause-fault c =
    exit _ _ c.in_err-scheme.field-0.0 c.from_residual-in_err-scheme.ensures.1
    (rw (
      c.in_ok-take_integer.ensures.ok,
      ← c.in_ok-take_integer.ensures.next,
      c.in_ok-identifier.ensures.ok,
      ← c.in_ok-identifier.ensures.next,
      c.in_ok-digest.ensures.ok,
      ← c.in_ok-digest.ensures.next,
      c.in_ok-attributes.ensures.ok,
      ← c.in_ok-attributes.ensures.next,
      c.in_err-scheme.ensures.fault,
    ) refl)

pub returns-in_err-signature-clause-fault : goal.returns-in_err-signature-clause-fault
unfolding signer_parts_fault
returns-in_err-signature-clause-fault c =
    exit _ _ c.in_err-signature.field-0.0 c.from_residual-in_err-signature.ensures.1
    (rw (
      c.in_ok-take_integer.ensures.ok,
      ← c.in_ok-take_integer.ensures.next,
      c.in_ok-identifier.ensures.ok,
      ← c.in_ok-identifier.ensures.next,
      c.in_ok-digest.ensures.ok,
      ← c.in_ok-digest.ensures.next,
      c.in_ok-attributes.ensures.ok,
      ← c.in_ok-attributes.ensures.next,
      c.in_ok-scheme.ensures.ok,
      ← c.in_ok-scheme.ensures.next,
      c.in_err-signature.ensures.fault,
    ) refl)

pub returns-in_err-skip_unsigned-clause-fault : goal.returns-in_err-skip_unsigned-clause-fault
unfolding signer_parts_fault
returns-in_err-skip_unsigned-clause-fault c =
    exit _ _ c.in_err-skip_unsigned.field-0.0 c.from_residual-in_err-skip_unsigned.ensures.1
    (rw (
      c.in_ok-take_integer.ensures.ok,
      ← c.in_ok-take_integer.ensures.next,
      c.in_ok-identifier.ensures.ok,
      ← c.in_ok-identifier.ensures.next,
      c.in_ok-digest.ensures.ok,
      ← c.in_ok-digest.ensures.next,
      c.in_ok-attributes.ensures.ok,
      ← c.in_ok-attributes.ensures.next,
      c.in_ok-scheme.ensures.ok,
      ← c.in_ok-scheme.ensures.next,
      c.in_ok-signature.ensures.ok,
      ← c.in_ok-signature.ensures.next,
      c.in_err-skip_unsigned.ensures.fault,
    ) refl)

pub returns-in_err-expect_end-clause-fault : goal.returns-in_err-expect_end-clause-fault
unfolding signer_parts_fault
returns-in_err-expect_end-clause-fault c =
    exit _ _ c.in_err-expect_end.field-0.0 c.from_residual-in_err-expect_end.ensures.1
    (rw (
      c.in_ok-take_integer.ensures.ok,
      ← c.in_ok-take_integer.ensures.next,
      c.in_ok-identifier.ensures.ok,
      ← c.in_ok-identifier.ensures.next,
      c.in_ok-digest.ensures.ok,
      ← c.in_ok-digest.ensures.next,
      c.in_ok-attributes.ensures.ok,
      ← c.in_ok-attributes.ensures.next,
      c.in_ok-scheme.ensures.ok,
      ← c.in_ok-scheme.ensures.next,
      c.in_ok-signature.ensures.ok,
      ← c.in_ok-signature.ensures.next,
      c.in_ok-skip_unsigned.ensures.ok,
      ← c.in_ok-skip_unsigned.ensures.next,
      c.in_err-expect_end.ensures.fault,
    ) refl)

pub returns-clause-ok : goal.returns-clause-ok
unfolding signer_parts_fault
returns-clause-ok c =
    rw (
      c.in_ok-take_integer.ensures.ok,
      ← c.in_ok-take_integer.ensures.next,
      c.in_ok-identifier.ensures.ok,
      ← c.in_ok-identifier.ensures.next,
      c.in_ok-digest.ensures.ok,
      ← c.in_ok-digest.ensures.next,
      c.in_ok-attributes.ensures.ok,
      ← c.in_ok-attributes.ensures.next,
      c.in_ok-scheme.ensures.ok,
      ← c.in_ok-scheme.ensures.next,
      c.in_ok-signature.ensures.ok,
      ← c.in_ok-signature.ensures.next,
      c.in_ok-skip_unsigned.ensures.ok,
      ← c.in_ok-skip_unsigned.ensures.next,
      c.in_ok-expect_end.ensures.ok,
    ) refl

pub returns-clause-signer : goal.returns-clause-signer
unfolding signer_from
returns-clause-signer c =
    let one = c.in_ok-take_integer.ensures.next in
    let two = c.in_ok-identifier.ensures.next ∙ ap after one in
    let three = c.in_ok-digest.ensures.next ∙ ap after two in
    let four = c.in_ok-attributes.ensures.next ∙ ap (after_optional context_constructed) three in
    let five = c.in_ok-scheme.ensures.next ∙ ap after four in
    same_signer _ _ _ _ _ _ _ _ (c.in_ok-identifier.ensures.identifier ∙ ap identifier_at one)
    (c.signs_by_hss.ensures ∙ by_hss_is _ _ _ _ (c.in_ok-digest.ensures.algorithm ∙ ap algorithm_at two)
    (c.in_ok-scheme.ensures.algorithm ∙ ap algorithm_at four))
    (c.in_ok-attributes.ensures.attributes ∙ ap attributes_at three) (c.in_ok-signature.ensures.item.content ∙ ap content_at five)
