use Rattle.std.proofs.Common.{refl, ap, ◌∙◌}
use Rattle.sz_der.specs.Spots.{after, whole_at}
use Rattle.sz_der.proofs.Steps.{exit}
use Rattle.sz_x509.specs.CertPlaces.{seconds_at}
use Rattle.sz_x509.specs.CrlFault.{after_next_update, list_parts_fault}
use Rattle.sz_x509.specs.CrlPlaces.{entries_at, next_update_at}
use Rattle.sz_x509.specs.CrlView.{list_fields}
use Rattle.sz_x509.proofs.tbs_list.read_list.Goals as goal

pub returns-in_err-skip_version-clause-fault : goal.returns-in_err-skip_version-clause-fault
unfolding list_parts_fault
returns-in_err-skip_version-clause-fault c =
    exit _ _ c.in_err-skip_version.field-0.0 c.from_residual.ensures.1
    (rw c.in_err-skip_version.ensures.fault refl)

pub returns-in_err-take_algorithm-clause-fault : goal.returns-in_err-take_algorithm-clause-fault
unfolding list_parts_fault
returns-in_err-take_algorithm-clause-fault c =
    exit _ _ c.in_err-take_algorithm.field-0.0 c.from_residual-in_err-take_algorithm.ensures.1
    (rw (
      c.in_ok-skip_version.ensures.ok,
      ← c.in_ok-skip_version.ensures.next,
      c.in_err-take_algorithm.ensures.fault,
    ) refl)

pub returns-in_err-issuer-clause-fault : goal.returns-in_err-issuer-clause-fault
unfolding list_parts_fault
returns-in_err-issuer-clause-fault c =
    exit _ _ c.in_err-issuer.field-0.0 c.from_residual-in_err-issuer.ensures.1
    (rw (
      c.in_ok-skip_version.ensures.ok,
      ← c.in_ok-skip_version.ensures.next,
      c.in_ok-take_algorithm.ensures.ok,
      ← c.in_ok-take_algorithm.ensures.next,
      c.in_err-issuer.ensures.fault,
    ) refl)

pub returns-in_err-this_update-clause-fault : goal.returns-in_err-this_update-clause-fault
unfolding list_parts_fault
returns-in_err-this_update-clause-fault c =
    exit _ _ c.in_err-this_update.field-0.0 c.from_residual-in_err-this_update.ensures.1
    (rw (
      c.in_ok-skip_version.ensures.ok,
      ← c.in_ok-skip_version.ensures.next,
      c.in_ok-take_algorithm.ensures.ok,
      ← c.in_ok-take_algorithm.ensures.next,
      c.in_ok-issuer.ensures.ok,
      ← c.in_ok-issuer.ensures.next,
      c.in_err-this_update.ensures.fault,
    ) refl)

pub returns-in_err-next_update-clause-fault : goal.returns-in_err-next_update-clause-fault
unfolding list_parts_fault
returns-in_err-next_update-clause-fault c =
    exit _ _ c.in_err-next_update.field-0.0 c.from_residual-in_err-next_update.ensures.1
    (rw (
      c.in_ok-skip_version.ensures.ok,
      ← c.in_ok-skip_version.ensures.next,
      c.in_ok-take_algorithm.ensures.ok,
      ← c.in_ok-take_algorithm.ensures.next,
      c.in_ok-issuer.ensures.ok,
      ← c.in_ok-issuer.ensures.next,
      c.in_ok-this_update.ensures.ok,
      ← c.in_ok-this_update.ensures.next,
      c.in_err-next_update.ensures.fault,
    ) refl)

pub returns-in_err-entries-clause-fault : goal.returns-in_err-entries-clause-fault
unfolding list_parts_fault
returns-in_err-entries-clause-fault c =
    exit _ _ c.in_err-entries.field-0.0 c.from_residual-in_err-entries.ensures.1
    (rw (
      c.in_ok-skip_version.ensures.ok,
      ← c.in_ok-skip_version.ensures.next,
      c.in_ok-take_algorithm.ensures.ok,
      ← c.in_ok-take_algorithm.ensures.next,
      c.in_ok-issuer.ensures.ok,
      ← c.in_ok-issuer.ensures.next,
      c.in_ok-this_update.ensures.ok,
      ← c.in_ok-this_update.ensures.next,
      c.in_ok-next_update.ensures.ok,
      ← c.in_ok-next_update.ensures.next,
      c.in_err-entries.ensures.fault,
    ) refl)

pub returns-in_err-skip_list_extensions-clause-fault : goal.returns-in_err-skip_list_extensions-clause-fault
unfolding list_parts_fault
returns-in_err-skip_list_extensions-clause-fault c =
    exit _ _ c.in_err-skip_list_extensions.field-0.0 c.from_residual-in_err-skip_list_extensions.ensures.1
    (rw (
      c.in_ok-skip_version.ensures.ok,
      ← c.in_ok-skip_version.ensures.next,
      c.in_ok-take_algorithm.ensures.ok,
      ← c.in_ok-take_algorithm.ensures.next,
      c.in_ok-issuer.ensures.ok,
      ← c.in_ok-issuer.ensures.next,
      c.in_ok-this_update.ensures.ok,
      ← c.in_ok-this_update.ensures.next,
      c.in_ok-next_update.ensures.ok,
      ← c.in_ok-next_update.ensures.next,
      c.in_ok-entries.ensures.ok,
      ← c.in_ok-entries.ensures.next,
      c.in_err-skip_list_extensions.ensures.fault,
    ) refl)

pub returns-in_err-expect_end-clause-fault : goal.returns-in_err-expect_end-clause-fault
unfolding list_parts_fault
returns-in_err-expect_end-clause-fault c =
    exit _ _ c.in_err-expect_end.field-0.0 c.from_residual-in_err-expect_end.ensures.1
    (rw (
      c.in_ok-skip_version.ensures.ok,
      ← c.in_ok-skip_version.ensures.next,
      c.in_ok-take_algorithm.ensures.ok,
      ← c.in_ok-take_algorithm.ensures.next,
      c.in_ok-issuer.ensures.ok,
      ← c.in_ok-issuer.ensures.next,
      c.in_ok-this_update.ensures.ok,
      ← c.in_ok-this_update.ensures.next,
      c.in_ok-next_update.ensures.ok,
      ← c.in_ok-next_update.ensures.next,
      c.in_ok-entries.ensures.ok,
      ← c.in_ok-entries.ensures.next,
      c.in_ok-skip_list_extensions.ensures.ok,
      ← c.in_ok-skip_list_extensions.ensures.next,
      c.in_err-expect_end.ensures.fault,
    ) refl)

pub returns-clause-ok : goal.returns-clause-ok
unfolding list_parts_fault
returns-clause-ok c =
    rw (
      c.in_ok-skip_version.ensures.ok,
      ← c.in_ok-skip_version.ensures.next,
      c.in_ok-take_algorithm.ensures.ok,
      ← c.in_ok-take_algorithm.ensures.next,
      c.in_ok-issuer.ensures.ok,
      ← c.in_ok-issuer.ensures.next,
      c.in_ok-this_update.ensures.ok,
      ← c.in_ok-this_update.ensures.next,
      c.in_ok-next_update.ensures.ok,
      ← c.in_ok-next_update.ensures.next,
      c.in_ok-entries.ensures.ok,
      ← c.in_ok-entries.ensures.next,
      c.in_ok-skip_list_extensions.ensures.ok,
      ← c.in_ok-skip_list_extensions.ensures.next,
      c.in_ok-expect_end.ensures.ok,
    ) refl

pub returns-clause-fields : goal.returns-clause-fields
unfolding list_fields
returns-clause-fields c =
    let issuer = c.in_ok-take_algorithm.ensures.next ∙ ap after c.in_ok-skip_version.ensures.next in
    let this_update = c.in_ok-issuer.ensures.next ∙ ap after issuer in
    let next_update = c.in_ok-this_update.ensures.next ∙ ap after this_update in
    let revoked = c.in_ok-next_update.ensures.next ∙ ap after_next_update next_update in
    record {
      issuer = c.in_ok-issuer.ensures.item.whole ∙ ap whole_at issuer;
      this_update = c.in_ok-this_update.ensures.seconds ∙ ap seconds_at this_update;
      next_update = c.in_ok-next_update.ensures.seconds ∙ ap next_update_at next_update;
      entries = c.in_ok-entries.ensures.entries ∙ ap entries_at revoked;
    }
