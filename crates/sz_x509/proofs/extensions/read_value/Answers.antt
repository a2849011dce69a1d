use Rattle.std.proofs.Common.{Some, refl, sym, ap, ◌∙◌}
use Rattle.sz_der.specs.Spots.{spot_of}
use Rattle.sz_der.proofs.Steps.{exit}
use Rattle.sz_x509.specs.CertFault.{value_fault}
use Rattle.sz_x509.specs.View.{extensions_of}
use Rattle.sz_x509.specs.Identifiers.{basic_constraints_oid, key_usage_oid, subject_key_identifier_oid}
use Rattle.sz_x509.proofs.Adding.{adds_basic_constraints, adds_key_identifier, adds_key_usage, adds_nothing, compared}
use Rattle.sz_x509.proofs.extensions.read_value.Goals.{then-eq+in_ok-ca, else-eq+then-eq-2+in_ok-read_key_usage, else-eq+else-eq-2+then-eq-3+in_ok-read_key_identifier, else-eq+else-eq-2+else-eq-3}
use Rattle.sz_x509.proofs.extensions.read_value.Goals as goal

pub returns-in_err-ca-clause-fault : goal.returns-in_err-ca-clause-fault
unfolding value_fault
returns-in_err-ca-clause-fault c =
    let basic = compared c.args.identifier.now basic_constraints_oid c.as_slice.result.now c.as_slice.ensures ∙ sym c.if-eq.ensures in
    exit _ _ c.in_err-ca.field-0.0 c.from_residual.ensures.1 (rw (basic, c.in_err-ca.ensures.fault) refl)

pub returns-in_err-read_key_usage-clause-fault : goal.returns-in_err-read_key_usage-clause-fault
unfolding value_fault
returns-in_err-read_key_usage-clause-fault c =
    let basic = compared c.args.identifier.now basic_constraints_oid c.as_slice.result.now c.as_slice.ensures ∙ sym c.if-eq.ensures in
    let usage = compared c.args.identifier.now key_usage_oid c.as_slice-else-eq.result.now c.as_slice-else-eq.ensures ∙ sym c.if-eq-2.ensures in
    exit _ _ c.in_err-read_key_usage.field-0.0 c.from_residual-in_err-read_key_usage.ensures.1
    (rw (basic, usage, c.in_err-read_key_usage.ensures.fault) refl)

pub returns-in_err-read_key_identifier-clause-fault :
    goal.returns-in_err-read_key_identifier-clause-fault
unfolding value_fault
returns-in_err-read_key_identifier-clause-fault c =
    let basic = compared c.args.identifier.now basic_constraints_oid c.as_slice.result.now c.as_slice.ensures ∙ sym c.if-eq.ensures in
    let usage = compared c.args.identifier.now key_usage_oid c.as_slice-else-eq.result.now c.as_slice-else-eq.ensures ∙ sym c.if-eq-2.ensures in
    let key_id = compared c.args.identifier.now subject_key_identifier_oid c.as_slice-else-eq-2.result.now c.as_slice-else-eq-2.ensures
    ∙ sym c.if-eq-3.ensures in
    exit _ _ c.in_err-read_key_identifier.field-0.0 c.from_residual-in_err-read_key_identifier.ensures.1
    (rw (basic, usage, key_id, c.in_err-read_key_identifier.ensures.fault) refl)

pub returns-clause-ok : goal.returns-clause-ok
unfolding value_fault
returns-clause-ok c =
    let basic = compared c.args.identifier.now basic_constraints_oid c.as_slice.result.now c.as_slice.ensures in
    elim c.if-eq.branch [
      | then-eq+in_ok-ca w ↦ rw (basic ∙ sym w.if-eq.ensures, w.in_ok-ca.ensures.ok) refl
      | else-eq+then-eq-2+in_ok-read_key_usage w ↦
          let usage = compared c.args.identifier.now key_usage_oid w.as_slice-else-eq.result.now w.as_slice-else-eq.ensures in
          rw (basic ∙ sym w.if-eq.ensures, usage ∙ sym w.if-eq-2.ensures, w.in_ok-read_key_usage.ensures.ok) refl
      | else-eq+else-eq-2+then-eq-3+in_ok-read_key_identifier w ↦
          let usage = compared c.args.identifier.now key_usage_oid w.as_slice-else-eq.result.now w.as_slice-else-eq.ensures in
          let key_id = compared c.args.identifier.now subject_key_identifier_oid w.as_slice-else-eq-2.result.now w.as_slice-else-eq-2.ensures in
          rw (
            basic ∙ sym w.if-eq.ensures,
            usage ∙ sym w.if-eq-2.ensures,
            key_id ∙ sym w.if-eq-3.ensures,
            w.in_ok-read_key_identifier.ensures.ok,
          ) refl
      | else-eq+else-eq-2+else-eq-3 w ↦
          let usage = compared c.args.identifier.now key_usage_oid w.as_slice-else-eq.result.now w.as_slice-else-eq.ensures in
          let key_id = compared c.args.identifier.now subject_key_identifier_oid w.as_slice-else-eq-2.result.now w.as_slice-else-eq-2.ensures in
          rw (basic ∙ sym w.if-eq.ensures, usage ∙ sym w.if-eq-2.ensures, key_id ∙ sym w.if-eq-3.ensures) refl
    ]

pub returns-clause-adds : goal.returns-clause-adds
returns-clause-adds c =
    let value = spot_of c.args.value.now in
    let identifier = c.args.identifier.now in
    let old = extensions_of c.args.restrictions in
    let basic = compared c.args.identifier.now basic_constraints_oid c.as_slice.result.now c.as_slice.ensures in
    elim c.if-eq.branch [
      | then-eq+in_ok-ca w ↦
          rw w.found-is (adds_basic_constraints identifier value old w.in_ok-ca.ca w.in_ok-ca.path_len (basic ∙ sym w.if-eq.ensures)
          w.in_ok-ca.ensures.ca w.in_ok-ca.ensures.path_len)
      | else-eq+then-eq-2+in_ok-read_key_usage w ↦
          let usage = compared c.args.identifier.now key_usage_oid w.as_slice-else-eq.result.now w.as_slice-else-eq.ensures in
          rw w.found-is (adds_key_usage identifier value old (Some w.in_ok-read_key_usage.field-0) (usage ∙ sym w.if-eq-2.ensures)
          w.in_ok-read_key_usage.ensures.usage)
      | else-eq+else-eq-2+then-eq-3+in_ok-read_key_identifier w ↦
          let key_id = compared c.args.identifier.now subject_key_identifier_oid w.as_slice-else-eq-2.result.now w.as_slice-else-eq-2.ensures in
          rw w.found-is (adds_key_identifier identifier value old (Some w.in_ok-read_key_identifier.field-0.now) (key_id ∙ sym w.if-eq-3.ensures)
          (ap (λ x. Some x) w.in_ok-read_key_identifier.ensures.key_id))
      | else-eq+else-eq-2+else-eq-3 w ↦
          let usage = compared c.args.identifier.now key_usage_oid w.as_slice-else-eq.result.now w.as_slice-else-eq.ensures in
          let key_id = compared c.args.identifier.now subject_key_identifier_oid w.as_slice-else-eq-2.result.now w.as_slice-else-eq-2.ensures in
          rw w.found-is (adds_nothing identifier value old (basic ∙ sym w.if-eq.ensures) (usage ∙ sym w.if-eq-2.ensures) (key_id ∙ sym w.if-eq-3.ensures))
    ]
