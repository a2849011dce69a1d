use Rattle.std.proofs.Common.{refl, ap, subst, ◌∙◌}
use Rattle.sz_der.specs.Spots.{after, inside, Spot, spot_of, whole_at}
use Rattle.sz_der.proofs.Steps.{exit, outer_at}
use Rattle.sz_x509.specs.CertFault.{octets_at}
use Rattle.sz_x509.specs.CrlFault.{crl_fault}
use Rattle.sz_x509.specs.CrlPlaces.{ListAt}
use Rattle.sz_x509.specs.CrlView.{list_fields, list_view}
use Rattle.sz_x509.proofs.crl.read_parts.Goals as goal

pub returns-in_err-parts-clause-fault : goal.returns-in_err-parts-clause-fault
unfolding crl_fault
returns-in_err-parts-clause-fault c =
    let outer = outer_at c.args.bytes.now c.over-outer.result c.over-outer.ensures.left c.over-outer.ensures.end in
    exit _ _ c.in_err-parts.field-0.0 c.from_residual.ensures.1
    (rw (
      ← outer,
      c.in_err-parts.ensures.fault,
    ) refl)

pub returns-in_err-tbs-clause-fault : goal.returns-in_err-tbs-clause-fault
unfolding crl_fault
returns-in_err-tbs-clause-fault c =
    let outer = outer_at c.args.bytes.now c.over-outer.result c.over-outer.ensures.left c.over-outer.ensures.end in
    exit _ _ c.in_err-tbs.field-0.0 c.from_residual-in_err-tbs.ensures.1
    (rw (
      ← outer,
      c.in_ok-parts.ensures.ok,
      ← c.in_ok-parts.ensures.inside,
      c.in_err-tbs.ensures.fault,
    ) refl)

pub returns-in_err-fields-clause-fault : goal.returns-in_err-fields-clause-fault
unfolding crl_fault
returns-in_err-fields-clause-fault c =
    let outer = outer_at c.args.bytes.now c.over-outer.result c.over-outer.ensures.left c.over-outer.ensures.end in
    let inner = c.parts_of.ensures (spot_of c.in_ok-parts.parts) c.in_ok-tbs.ensures.item in
    exit _ _ c.in_err-fields.field-0.0 c.from_residual-in_err-fields.ensures.1
    (rw (
      ← outer,
      c.in_ok-parts.ensures.ok,
      ← c.in_ok-parts.ensures.inside,
      c.in_ok-tbs.ensures.ok,
      ← inner,
      c.in_err-fields.ensures.fault,
    ) refl)

pub returns-in_err-take_algorithm-clause-fault : goal.returns-in_err-take_algorithm-clause-fault
unfolding crl_fault
returns-in_err-take_algorithm-clause-fault c =
    let outer = outer_at c.args.bytes.now c.over-outer.result c.over-outer.ensures.left c.over-outer.ensures.end in
    let inner = c.parts_of.ensures (spot_of c.in_ok-parts.parts) c.in_ok-tbs.ensures.item in
    exit _ _ c.in_err-take_algorithm.field-0.0 c.from_residual-in_err-take_algorithm.ensures.1
    (rw (
      ← outer,
      c.in_ok-parts.ensures.ok,
      ← c.in_ok-parts.ensures.inside,
      c.in_ok-tbs.ensures.ok,
      ← inner,
      c.in_ok-fields.ensures.ok,
      ← c.in_ok-tbs.ensures.next,
      c.in_err-take_algorithm.ensures.fault,
    ) refl)

pub returns-in_err-signature-clause-fault : goal.returns-in_err-signature-clause-fault
unfolding crl_fault
returns-in_err-signature-clause-fault c =
    let outer = outer_at c.args.bytes.now c.over-outer.result c.over-outer.ensures.left c.over-outer.ensures.end in
    let inner = c.parts_of.ensures (spot_of c.in_ok-parts.parts) c.in_ok-tbs.ensures.item in
    exit _ _ c.in_err-signature.field-0.0 c.from_residual-in_err-signature.ensures.1
    (rw (
      ← outer,
      c.in_ok-parts.ensures.ok,
      ← c.in_ok-parts.ensures.inside,
      c.in_ok-tbs.ensures.ok,
      ← inner,
      c.in_ok-fields.ensures.ok,
      ← c.in_ok-tbs.ensures.next,
      c.in_ok-take_algorithm.ensures.ok,
      ← c.in_ok-take_algorithm.ensures.next,
      c.in_err-signature.ensures.fault,
    ) refl)

pub returns-in_err-expect_end-clause-fault : goal.returns-in_err-expect_end-clause-fault
unfolding crl_fault
returns-in_err-expect_end-clause-fault c =
    let outer = outer_at c.args.bytes.now c.over-outer.result c.over-outer.ensures.left c.over-outer.ensures.end in
    let inner = c.parts_of.ensures (spot_of c.in_ok-parts.parts) c.in_ok-tbs.ensures.item in
    exit _ _ c.in_err-expect_end.field-0.0 c.from_residual-in_err-expect_end.ensures.1
    (rw (
      ← outer,
      c.in_ok-parts.ensures.ok,
      ← c.in_ok-parts.ensures.inside,
      c.in_ok-tbs.ensures.ok,
      ← inner,
      c.in_ok-fields.ensures.ok,
      ← c.in_ok-tbs.ensures.next,
      c.in_ok-take_algorithm.ensures.ok,
      ← c.in_ok-take_algorithm.ensures.next,
      c.in_ok-signature.ensures.ok,
      ← c.in_ok-signature.ensures.next,
      c.in_err-expect_end.ensures.fault,
    ) refl)

pub returns-in_err-expect_end-2-clause-fault : goal.returns-in_err-expect_end-2-clause-fault
unfolding crl_fault
returns-in_err-expect_end-2-clause-fault c =
    let outer = outer_at c.args.bytes.now c.over-outer.result c.over-outer.ensures.left c.over-outer.ensures.end in
    let inner = c.parts_of.ensures (spot_of c.in_ok-parts.parts) c.in_ok-tbs.ensures.item in
    exit _ _ c.in_err-expect_end-2.field-0.0 c.from_residual-in_err-expect_end-2.ensures.1
    (rw (
      ← outer,
      c.in_ok-parts.ensures.ok,
      ← c.in_ok-parts.ensures.inside,
      c.in_ok-tbs.ensures.ok,
      ← inner,
      c.in_ok-fields.ensures.ok,
      ← c.in_ok-tbs.ensures.next,
      c.in_ok-take_algorithm.ensures.ok,
      ← c.in_ok-take_algorithm.ensures.next,
      c.in_ok-signature.ensures.ok,
      ← c.in_ok-signature.ensures.next,
      c.in_ok-expect_end.ensures.ok,
      ← c.in_ok-parts.ensures.next,
      c.in_err-expect_end-2.ensures.fault,
    ) refl)

pub returns-clause-ok : goal.returns-clause-ok
unfolding crl_fault
returns-clause-ok c =
    let outer = outer_at c.args.bytes.now c.over-outer.result c.over-outer.ensures.left c.over-outer.ensures.end in
    let inner = c.parts_of.ensures (spot_of c.in_ok-parts.parts) c.in_ok-tbs.ensures.item in
    rw (
      ← outer,
      c.in_ok-parts.ensures.ok,
      ← c.in_ok-parts.ensures.inside,
      c.in_ok-tbs.ensures.ok,
      ← inner,
      c.in_ok-fields.ensures.ok,
      ← c.in_ok-tbs.ensures.next,
      c.in_ok-take_algorithm.ensures.ok,
      ← c.in_ok-take_algorithm.ensures.next,
      c.in_ok-signature.ensures.ok,
      ← c.in_ok-signature.ensures.next,
      c.in_ok-expect_end.ensures.ok,
      ← c.in_ok-parts.ensures.next,
      c.in_ok-expect_end-2.ensures.ok,
    ) refl

pub returns-clause-fields : goal.returns-clause-fields
unfolding list_fields list_view
returns-clause-fields c =
    let outer = outer_at c.args.bytes.now c.over-outer.result c.over-outer.ensures.left c.over-outer.ensures.end in
    let inner = c.parts_of.ensures (spot_of c.in_ok-parts.parts) c.in_ok-tbs.ensures.item in
    let tbs = c.in_ok-parts.ensures.inside ∙ ap inside outer in
    let algorithm = c.in_ok-tbs.ensures.next ∙ ap after tbs in
    let signature = c.in_ok-take_algorithm.ensures.next ∙ ap after algorithm in
    let at = subst (λ (s : Spot). ListAt s (list_fields c.in_ok-fields.fields)) (inner ∙ ap inside tbs) c.in_ok-fields.ensures.fields in
    record {
      whole = refl;
      tbs = c.in_ok-tbs.ensures.item.whole ∙ ap whole_at tbs;
      parts = record { issuer = at.issuer; this_update = at.this_update; next_update = at.next_update; entries = at.entries };
      signature = c.in_ok-signature.ensures.octets ∙ ap octets_at signature;
    }
