use Rattle.std.specs.Prelude.{bytes_eq}
use Rattle.std.proofs.Common.{◌≡◌, true, false, None, Some, refl, sym, ap, ◌∙◌}
use Rattle.std.proofs.lemmas.Bool.{not-false, not-true}
use Rattle.std.proofs.lemmas.Result.{MatchResult-weaker, on_ok_weaker}
use Rattle.sz_der.specs.Spots.{content_at, spot_of}
use Rattle.sz_der.proofs.Steps.{exit, same_content}
use Rattle.sz_x509.specs.CertFault.{algorithm_fault, end, Fault}
use Rattle.sz_x509.specs.declared.fault.CertKind.TheVariants as kinds
use Rattle.sz_x509.specs.Identifiers.{hss_lms_oid}
use Rattle.sz_x509.proofs.parts.take_algorithm.Goals as goal

pub returns-in_err-parts-clause-fault : goal.returns-in_err-parts-clause-fault
unfolding algorithm_fault
returns-in_err-parts-clause-fault c =
    exit _ _ c.in_err-parts.field-0.0 c.from_residual.ensures.1 (rw c.in_err-parts.ensures.fault refl)

pub returns-in_err-identifier-clause-fault : goal.returns-in_err-identifier-clause-fault
unfolding algorithm_fault
returns-in_err-identifier-clause-fault c =
    exit _ _ c.in_err-identifier.field-0.0 c.from_residual-in_err-identifier.ensures.1
    (rw (c.in_ok-parts.ensures.ok, ← c.in_ok-parts.ensures.inside, c.in_err-identifier.ensures.fault) refl)

pub returns-then-ne-clause-fault : goal.returns-then-ne-clause-fault
unfolding algorithm_fault
returns-then-ne-clause-fault c =
    let is = c.in_ok-identifier.ensures.item in
    let test : bytes_eq (content_at (spot_of c.in_ok-parts.parts)) hss_lms_oid ≡ false =
    same_content (spot_of c.in_ok-parts.parts) c.in_ok-identifier.identifier hss_lms_oid c.as_slice.result.now is c.as_slice.ensures
    ∙ not-true _ (sym c.if-ne.ensures) in
    rw (c.in_ok-parts.ensures.ok, ← c.in_ok-parts.ensures.inside, c.in_ok-identifier.ensures.ok, test)
    (ap (λ (x : Fault). Some x) (sym (c.part_fault.ensures (spot_of c.in_ok-parts.parts) is)))

pub returns-clause-ok : goal.returns-clause-ok
unfolding algorithm_fault
returns-clause-ok c =
    let is = c.in_ok-identifier.ensures.item in
    let test : bytes_eq (content_at (spot_of c.in_ok-parts.parts)) hss_lms_oid ≡ true =
    same_content (spot_of c.in_ok-parts.parts) c.in_ok-identifier.identifier hss_lms_oid c.as_slice.result.now is c.as_slice.ensures
    ∙ not-false _ (sym c.if-ne.ensures) in
    on_ok_weaker c.expect_end.result (λ (e : end kinds.Algorithm (spot_of c.take_part.new.reader) ≡ None). rw (
      c.in_ok-parts.ensures.ok,
      ← c.in_ok-parts.ensures.inside,
      c.in_ok-identifier.ensures.ok,
      test,
      ← c.in_ok-identifier.ensures.next,
      e,
    ) refl) c.expect_end.ensures.ok

pub returns-clause-fault : goal.returns-clause-fault
unfolding algorithm_fault
returns-clause-fault c =
    let is = c.in_ok-identifier.ensures.item in
    let test : bytes_eq (content_at (spot_of c.in_ok-parts.parts)) hss_lms_oid ≡ true =
    same_content (spot_of c.in_ok-parts.parts) c.in_ok-identifier.identifier hss_lms_oid c.as_slice.result.now is c.as_slice.ensures
    ∙ not-false _ (sym c.if-ne.ensures) in
    MatchResult-weaker c.expect_end.result c.expect_end.ensures.fault (λ x p. p) (λ fault e. rw (
      c.in_ok-parts.ensures.ok,
      ← c.in_ok-parts.ensures.inside,
      c.in_ok-identifier.ensures.ok,
      test,
      ← c.in_ok-identifier.ensures.next,
      e,
    ) refl)
