use Rattle.std.specs.Prelude.{bytes_eq}
use Rattle.std.proofs.Common.{refl, sym, ap, ◌∙◌, List, ℕ}
use Rattle.sz_der.proofs.Steps.{exit}
use Rattle.sz_cms.specs.MessageFault.{values_fault}
use Rattle.sz_cms.proofs.Readings.{not_digest}
use Rattle.sz_cms.proofs.attributes.KnownValues.with.Goals as goal

pub returns-in_err-value-clause-fault : goal.returns-in_err-value-clause-fault
unfolding values_fault
returns-in_err-value-clause-fault c =
    exit _ _ c.in_err-value.field-0.0 c.from_residual.ensures.1 (rw (
      ap (λ (x : List ℕ). bytes_eq c.args.identifier.now x) (sym c.as_slice.ensures) ∙ sym c.if-eq.ensures,
      c.in_err-value.ensures.fault,
    ) refl)

pub returns-then-eq-clause-ok : goal.returns-then-eq-clause-ok
unfolding values_fault
returns-then-eq-clause-ok c =
    rw (ap (λ (x : List ℕ). bytes_eq c.args.identifier.now x) (sym c.as_slice.ensures) ∙ sym c.if-eq.ensures, c.in_ok-value.ensures.ok) refl

pub returns-then-eq-clause-known : goal.returns-then-eq-clause-known
returns-then-eq-clause-known c =
    let is = ap (λ (x : List ℕ). bytes_eq c.args.identifier.now x) (sym c.as_slice.ensures) ∙ sym c.if-eq.ensures in record {
      content_type = rw (
        is,
        c.in_ok-value.ensures.content,
      ) refl;
      digest = rw (not_digest c.args.identifier.now is) refl;
    }

pub returns-in_err-value-2-clause-fault : goal.returns-in_err-value-2-clause-fault
unfolding values_fault
returns-in_err-value-2-clause-fault c =
    exit _ _ c.in_err-value-2.field-0.0 c.from_residual-in_err-value-2.ensures.1 (rw (
      ap (λ (x : List ℕ). bytes_eq c.args.identifier.now x) (sym c.as_slice.ensures) ∙ sym c.if-eq.ensures,
      ap (λ (x : List ℕ). bytes_eq c.args.identifier.now x) (sym c.as_slice-2.ensures) ∙ sym c.if-eq-2.ensures,
      c.in_err-value-2.ensures.fault,
    ) refl)

pub returns-then-eq-2-clause-ok : goal.returns-then-eq-2-clause-ok
unfolding values_fault
returns-then-eq-2-clause-ok c =
    rw (
      ap (λ (x : List ℕ). bytes_eq c.args.identifier.now x) (sym c.as_slice.ensures) ∙ sym c.if-eq.ensures,
      ap (λ (x : List ℕ). bytes_eq c.args.identifier.now x) (sym c.as_slice-2.ensures) ∙ sym c.if-eq-2.ensures,
      c.in_ok-value-2.ensures.ok,
    ) refl

pub returns-then-eq-2-clause-known : goal.returns-then-eq-2-clause-known
returns-then-eq-2-clause-known c =
    record {
      content_type = rw (ap (λ (x : List ℕ). bytes_eq c.args.identifier.now x) (sym c.as_slice.ensures) ∙ sym c.if-eq.ensures) refl;
      digest = rw (
        ap (λ (x : List ℕ). bytes_eq c.args.identifier.now x) (sym c.as_slice-2.ensures) ∙ sym c.if-eq-2.ensures,
        c.in_ok-value-2.ensures.content,
      ) refl;
    }

pub returns-clause-ok : goal.returns-clause-ok
unfolding values_fault
returns-clause-ok c =
    rw (
      ap (λ (x : List ℕ). bytes_eq c.args.identifier.now x) (sym c.as_slice.ensures) ∙ sym c.if-eq.ensures,
      ap (λ (x : List ℕ). bytes_eq c.args.identifier.now x) (sym c.as_slice-2.ensures) ∙ sym c.if-eq-2.ensures,
    ) refl

pub returns-clause-known : goal.returns-clause-known
returns-clause-known c =
    let is_type = ap (λ (x : List ℕ). bytes_eq c.args.identifier.now x) (sym c.as_slice.ensures) ∙ sym c.if-eq.ensures in
    let is_digest = ap (λ (x : List ℕ). bytes_eq c.args.identifier.now x) (sym c.as_slice-2.ensures) ∙ sym c.if-eq-2.ensures in
    record { content_type = rw is_type refl; digest = rw is_digest refl }
