use Rattle.std.proofs.Common.{refl, ap, subst, ◌∙◌}
use Rattle.sz_der.specs.Spots.{after, after_optional, content_at, inside, Spot, whole_at}
use Rattle.sz_der.proofs.Steps.{exit}
use Rattle.sz_x509.specs.CertFault.{tbs_parts_fault}
use Rattle.sz_x509.specs.CertPlaces.{extension_spots, key_at, RestrictedAt, seconds_at}
use Rattle.sz_x509.specs.View.{extensions_of, fields_of}
use Rattle.sz_x509.specs.Tags.{issuer_unique_id_tag, subject_unique_id_tag}
use Rattle.sz_x509.proofs.tbs.read_tbs.Goals as goal

pub returns-in_err-take_version-clause-fault : goal.returns-in_err-take_version-clause-fault
unfolding tbs_parts_fault
returns-in_err-take_version-clause-fault c =
    exit _ _ c.in_err-take_version.field-0.0 c.from_residual.ensures.1
    (rw c.in_err-take_version.ensures.fault refl)

pub returns-in_err-serial-clause-fault : goal.returns-in_err-serial-clause-fault
unfolding tbs_parts_fault
returns-in_err-serial-clause-fault c =
    exit _ _ c.in_err-serial.field-0.0 c.from_residual-in_err-serial.ensures.1
    (rw (
      c.in_ok-take_version.ensures.ok,
      ← c.in_ok-take_version.ensures.next,
      c.in_err-serial.ensures.fault,
    ) refl)

pub returns-in_err-take_algorithm-clause-fault : goal.returns-in_err-take_algorithm-clause-fault
unfolding tbs_parts_fault
returns-in_err-take_algorithm-clause-fault c =
    exit _ _ c.in_err-take_algorithm.field-0.0 c.from_residual-in_err-take_algorithm.ensures.1
    (rw (
      c.in_ok-take_version.ensures.ok,
      ← c.in_ok-take_version.ensures.next,
      c.in_ok-serial.ensures.ok,
      ← c.in_ok-serial.ensures.next,
      c.in_err-take_algorithm.ensures.fault,
    ) refl)

pub returns-in_err-issuer-clause-fault : goal.returns-in_err-issuer-clause-fault
unfolding tbs_parts_fault
returns-in_err-issuer-clause-fault c =
    exit _ _ c.in_err-issuer.field-0.0 c.from_residual-in_err-issuer.ensures.1
    (rw (
      c.in_ok-take_version.ensures.ok,
      ← c.in_ok-take_version.ensures.next,
      c.in_ok-serial.ensures.ok,
      ← c.in_ok-serial.ensures.next,
      c.in_ok-take_algorithm.ensures.ok,
      ← c.in_ok-take_algorithm.ensures.next,
      c.in_err-issuer.ensures.fault,
    ) refl)

pub returns-in_err-not_before-clause-fault : goal.returns-in_err-not_before-clause-fault
unfolding tbs_parts_fault
returns-in_err-not_before-clause-fault c =
    exit _ _ c.in_err-not_before.field-0.0 c.from_residual-in_err-not_before.ensures.1
    (rw (
      c.in_ok-take_version.ensures.ok,
      ← c.in_ok-take_version.ensures.next,
      c.in_ok-serial.ensures.ok,
      ← c.in_ok-serial.ensures.next,
      c.in_ok-take_algorithm.ensures.ok,
      ← c.in_ok-take_algorithm.ensures.next,
      c.in_ok-issuer.ensures.ok,
      ← c.in_ok-issuer.ensures.next,
      c.in_err-not_before.ensures.fault,
    ) refl)

pub returns-in_err-subject-clause-fault : goal.returns-in_err-subject-clause-fault
unfolding tbs_parts_fault
returns-in_err-subject-clause-fault c =
    exit _ _ c.in_err-subject.field-0.0 c.from_residual-in_err-subject.ensures.1
    (rw (
      c.in_ok-take_version.ensures.ok,
      ← c.in_ok-take_version.ensures.next,
      c.in_ok-serial.ensures.ok,
      ← c.in_ok-serial.ensures.next,
      c.in_ok-take_algorithm.ensures.ok,
      ← c.in_ok-take_algorithm.ensures.next,
      c.in_ok-issuer.ensures.ok,
      ← c.in_ok-issuer.ensures.next,
      c.in_ok-not_before.ensures.ok,
      ← c.in_ok-not_before.ensures.next,
      c.in_err-subject.ensures.fault,
    ) refl)

pub returns-in_err-key-clause-fault : goal.returns-in_err-key-clause-fault
unfolding tbs_parts_fault
returns-in_err-key-clause-fault c =
    exit _ _ c.in_err-key.field-0.0 c.from_residual-in_err-key.ensures.1
    (rw (
      c.in_ok-take_version.ensures.ok,
      ← c.in_ok-take_version.ensures.next,
      c.in_ok-serial.ensures.ok,
      ← c.in_ok-serial.ensures.next,
      c.in_ok-take_algorithm.ensures.ok,
      ← c.in_ok-take_algorithm.ensures.next,
      c.in_ok-issuer.ensures.ok,
      ← c.in_ok-issuer.ensures.next,
      c.in_ok-not_before.ensures.ok,
      ← c.in_ok-not_before.ensures.next,
      c.in_ok-subject.ensures.ok,
      ← c.in_ok-subject.ensures.next,
      c.in_err-key.ensures.fault,
    ) refl)

pub returns-in_err-skip_unique_id-clause-fault : goal.returns-in_err-skip_unique_id-clause-fault
unfolding tbs_parts_fault
returns-in_err-skip_unique_id-clause-fault c =
    exit _ _ c.in_err-skip_unique_id.field-0.0 c.from_residual-in_err-skip_unique_id.ensures.1
    (rw (
      c.in_ok-take_version.ensures.ok,
      ← c.in_ok-take_version.ensures.next,
      c.in_ok-serial.ensures.ok,
      ← c.in_ok-serial.ensures.next,
      c.in_ok-take_algorithm.ensures.ok,
      ← c.in_ok-take_algorithm.ensures.next,
      c.in_ok-issuer.ensures.ok,
      ← c.in_ok-issuer.ensures.next,
      c.in_ok-not_before.ensures.ok,
      ← c.in_ok-not_before.ensures.next,
      c.in_ok-subject.ensures.ok,
      ← c.in_ok-subject.ensures.next,
      c.in_ok-key.ensures.ok,
      ← c.in_ok-key.ensures.next,
      c.in_err-skip_unique_id.ensures.fault,
    ) refl)

pub returns-in_err-skip_unique_id-2-clause-fault : goal.returns-in_err-skip_unique_id-2-clause-fault
unfolding tbs_parts_fault
returns-in_err-skip_unique_id-2-clause-fault c =
    exit _ _ c.in_err-skip_unique_id-2.field-0.0 c.from_residual-in_err-skip_unique_id-2.ensures.1
    (rw (
      c.in_ok-take_version.ensures.ok,
      ← c.in_ok-take_version.ensures.next,
      c.in_ok-serial.ensures.ok,
      ← c.in_ok-serial.ensures.next,
      c.in_ok-take_algorithm.ensures.ok,
      ← c.in_ok-take_algorithm.ensures.next,
      c.in_ok-issuer.ensures.ok,
      ← c.in_ok-issuer.ensures.next,
      c.in_ok-not_before.ensures.ok,
      ← c.in_ok-not_before.ensures.next,
      c.in_ok-subject.ensures.ok,
      ← c.in_ok-subject.ensures.next,
      c.in_ok-key.ensures.ok,
      ← c.in_ok-key.ensures.next,
      c.in_ok-skip_unique_id.ensures.ok,
      ← c.in_ok-skip_unique_id.ensures.next,
      c.in_err-skip_unique_id-2.ensures.fault,
    ) refl)

pub returns-in_err-restrictions-clause-fault : goal.returns-in_err-restrictions-clause-fault
unfolding tbs_parts_fault
returns-in_err-restrictions-clause-fault c =
    exit _ _ c.in_err-restrictions.field-0.0 c.from_residual-in_err-restrictions.ensures.1
    (rw (
      c.in_ok-take_version.ensures.ok,
      ← c.in_ok-take_version.ensures.next,
      c.in_ok-serial.ensures.ok,
      ← c.in_ok-serial.ensures.next,
      c.in_ok-take_algorithm.ensures.ok,
      ← c.in_ok-take_algorithm.ensures.next,
      c.in_ok-issuer.ensures.ok,
      ← c.in_ok-issuer.ensures.next,
      c.in_ok-not_before.ensures.ok,
      ← c.in_ok-not_before.ensures.next,
      c.in_ok-subject.ensures.ok,
      ← c.in_ok-subject.ensures.next,
      c.in_ok-key.ensures.ok,
      ← c.in_ok-key.ensures.next,
      c.in_ok-skip_unique_id.ensures.ok,
      ← c.in_ok-skip_unique_id.ensures.next,
      c.in_ok-skip_unique_id-2.ensures.ok,
      ← c.in_ok-skip_unique_id-2.ensures.next,
      c.in_err-restrictions.ensures.fault,
    ) refl)

pub returns-in_err-expect_end-clause-fault : goal.returns-in_err-expect_end-clause-fault
unfolding tbs_parts_fault
returns-in_err-expect_end-clause-fault c =
    exit _ _ c.in_err-expect_end.field-0.0 c.from_residual-in_err-expect_end.ensures.1
    (rw (
      c.in_ok-take_version.ensures.ok,
      ← c.in_ok-take_version.ensures.next,
      c.in_ok-serial.ensures.ok,
      ← c.in_ok-serial.ensures.next,
      c.in_ok-take_algorithm.ensures.ok,
      ← c.in_ok-take_algorithm.ensures.next,
      c.in_ok-issuer.ensures.ok,
      ← c.in_ok-issuer.ensures.next,
      c.in_ok-not_before.ensures.ok,
      ← c.in_ok-not_before.ensures.next,
      c.in_ok-subject.ensures.ok,
      ← c.in_ok-subject.ensures.next,
      c.in_ok-key.ensures.ok,
      ← c.in_ok-key.ensures.next,
      c.in_ok-skip_unique_id.ensures.ok,
      ← c.in_ok-skip_unique_id.ensures.next,
      c.in_ok-skip_unique_id-2.ensures.ok,
      ← c.in_ok-skip_unique_id-2.ensures.next,
      c.in_ok-restrictions.ensures.ok,
      ← c.in_ok-restrictions.ensures.next,
      c.in_err-expect_end.ensures.fault,
    ) refl)

pub returns-clause-ok : goal.returns-clause-ok
unfolding tbs_parts_fault
returns-clause-ok c =
    rw (
      c.in_ok-take_version.ensures.ok,
      ← c.in_ok-take_version.ensures.next,
      c.in_ok-serial.ensures.ok,
      ← c.in_ok-serial.ensures.next,
      c.in_ok-take_algorithm.ensures.ok,
      ← c.in_ok-take_algorithm.ensures.next,
      c.in_ok-issuer.ensures.ok,
      ← c.in_ok-issuer.ensures.next,
      c.in_ok-not_before.ensures.ok,
      ← c.in_ok-not_before.ensures.next,
      c.in_ok-subject.ensures.ok,
      ← c.in_ok-subject.ensures.next,
      c.in_ok-key.ensures.ok,
      ← c.in_ok-key.ensures.next,
      c.in_ok-skip_unique_id.ensures.ok,
      ← c.in_ok-skip_unique_id.ensures.next,
      c.in_ok-skip_unique_id-2.ensures.ok,
      ← c.in_ok-skip_unique_id-2.ensures.next,
      c.in_ok-restrictions.ensures.ok,
      ← c.in_ok-restrictions.ensures.next,
      c.in_ok-expect_end.ensures.ok,
    ) refl

pub returns-clause-fields : goal.returns-clause-fields
unfolding fields_of
returns-clause-fields c =
    let serial = c.in_ok-take_version.ensures.next in
    let algorithm = c.in_ok-serial.ensures.next ∙ ap after serial in
    let issuer = c.in_ok-take_algorithm.ensures.next ∙ ap after algorithm in
    let validity = c.in_ok-issuer.ensures.next ∙ ap after issuer in
    let subject = c.in_ok-not_before.ensures.next ∙ ap after validity in
    let key = c.in_ok-subject.ensures.next ∙ ap after subject in
    let issuer_id = c.in_ok-key.ensures.next ∙ ap after key in
    let subject_id = c.in_ok-skip_unique_id.ensures.next ∙ ap (λ (s : Spot). after_optional issuer_unique_id_tag s) issuer_id in
    let extensions = c.in_ok-skip_unique_id-2.ensures.next ∙ ap (λ (s : Spot). after_optional subject_unique_id_tag s) subject_id in
    record {
      serial = c.in_ok-serial.ensures.octets ∙ ap content_at serial;
      issuer = c.in_ok-issuer.ensures.item.whole ∙ ap whole_at issuer;
      not_before = c.in_ok-not_before.ensures.first ∙ ap (λ (s : Spot). seconds_at (inside s)) validity;
      not_after = c.in_ok-not_before.ensures.last ∙ ap (λ (s : Spot). seconds_at (after (inside s))) validity;
      subject = c.in_ok-subject.ensures.item.whole ∙ ap whole_at subject;
      key = c.in_ok-key.ensures.key ∙ ap key_at key;
      restrictions = subst (λ (s : Spot). RestrictedAt (extension_spots s) (extensions_of c.in_ok-restrictions.restrictions)) extensions
          c.in_ok-restrictions.ensures.restricted;
    }
