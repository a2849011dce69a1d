use Rattle.std.specs.Prelude.{bytes_eq}
use Rattle.std.proofs.Common.{refl, sym, ap, ◌∙◌, List, ℕ}
use Rattle.sz_der.proofs.Steps.{exit}
use Rattle.sz_cms.specs.Message.{SignedData}
use Rattle.sz_cms.specs.MessageFault.{inner_fault}
use Rattle.sz_cms.specs.Places.{inner_at}
use Rattle.sz_cms.proofs.Readings.{kind_identifier, kind_named}
use Rattle.sz_cms.proofs.reading.read_inner.Goals as goal

pub returns-in_err-signed-clause-fault : goal.returns-in_err-signed-clause-fault
unfolding inner_fault
returns-in_err-signed-clause-fault c =
    exit _ _ c.in_err-signed.field-0.0 c.from_residual.ensures.1 (rw (
      ap (λ (x : List ℕ). bytes_eq c.args.identifier.now x) (sym c.as_slice.ensures) ∙ sym c.if-eq.ensures,
      c.in_err-signed.ensures.fault,
    ) refl)

pub returns-then-eq-clause-ok : goal.returns-then-eq-clause-ok
unfolding inner_fault
returns-then-eq-clause-ok c =
    rw (ap (λ (x : List ℕ). bytes_eq c.args.identifier.now x) (sym c.as_slice.ensures) ∙ sym c.if-eq.ensures, c.in_ok-signed.ensures.ok) refl

pub returns-then-eq-clause-info : goal.returns-then-eq-clause-info
unfolding inner_at
returns-then-eq-clause-info c =
    rw (ap (λ (x : List ℕ). bytes_eq c.args.identifier.now x) (sym c.as_slice.ensures) ∙ sym c.if-eq.ensures) (ap SignedData c.in_ok-signed.ensures.signed)

pub returns-then-eq-2-clause-ok : goal.returns-then-eq-2-clause-ok
unfolding inner_fault
returns-then-eq-2-clause-ok c =
    rw (
      ap (λ (x : List ℕ). bytes_eq c.args.identifier.now x) (sym c.as_slice.ensures) ∙ sym c.if-eq.ensures,
      ap (λ (x : List ℕ). bytes_eq c.args.identifier.now x) (sym c.as_slice-2.ensures) ∙ sym c.if-eq-2.ensures,
    ) refl

pub returns-then-eq-2-clause-info : goal.returns-then-eq-2-clause-info
unfolding inner_at
returns-then-eq-2-clause-info c =
    rw (
      ap (λ (x : List ℕ). bytes_eq c.args.identifier.now x) (sym c.as_slice.ensures) ∙ sym c.if-eq.ensures,
      ap (λ (x : List ℕ). bytes_eq c.args.identifier.now x) (sym c.as_slice-2.ensures) ∙ sym c.if-eq-2.ensures,
      kind_identifier c.of-kind.result c.args.identifier.now c.of-kind.ensures,
    ) refl

pub returns-then-eq-2-clause-named : goal.returns-then-eq-2-clause-named
returns-then-eq-2-clause-named c =
    kind_named c.of-kind.result c.args.identifier.now c.of-kind.ensures

pub returns-in_err-content-clause-fault : goal.returns-in_err-content-clause-fault
unfolding inner_fault
returns-in_err-content-clause-fault c =
    exit _ _ c.in_err-content.field-0.0 c.from_residual-in_err-content.ensures.1 (rw (
      ap (λ (x : List ℕ). bytes_eq c.args.identifier.now x) (sym c.as_slice.ensures) ∙ sym c.if-eq.ensures,
      ap (λ (x : List ℕ). bytes_eq c.args.identifier.now x) (sym c.as_slice-2.ensures) ∙ sym c.if-eq-2.ensures,
      c.in_err-content.ensures.fault,
    ) refl)

pub returns-clause-ok : goal.returns-clause-ok
unfolding inner_fault
returns-clause-ok c =
    rw (
      ap (λ (x : List ℕ). bytes_eq c.args.identifier.now x) (sym c.as_slice.ensures) ∙ sym c.if-eq.ensures,
      ap (λ (x : List ℕ). bytes_eq c.args.identifier.now x) (sym c.as_slice-2.ensures) ∙ sym c.if-eq-2.ensures,
      c.in_ok-content.ensures.ok,
    ) refl

pub returns-clause-info : goal.returns-clause-info
unfolding inner_at
returns-clause-info c =
    rw (
      ap (λ (x : List ℕ). bytes_eq c.args.identifier.now x) (sym c.as_slice.ensures) ∙ sym c.if-eq.ensures,
      ap (λ (x : List ℕ). bytes_eq c.args.identifier.now x) (sym c.as_slice-2.ensures) ∙ sym c.if-eq-2.ensures,
      kind_identifier c.of-kind.result c.args.identifier.now c.of-kind.ensures,
      c.in_ok-content.ensures.content,
    ) refl

pub returns-clause-named : goal.returns-clause-named
returns-clause-named c =
    kind_named c.of-kind.result c.args.identifier.now c.of-kind.ensures
