use Rattle.std.proofs.Common.{refl}
use Rattle.sz_der.proofs.Steps.{exit}
use Rattle.sz_x509.specs.CertFault.{basic_constraints_fault}
use Rattle.sz_x509.proofs.extensions.read_basic_constraints.Goals as goal

pub returns-in_err-parts-clause-fault : goal.returns-in_err-parts-clause-fault
unfolding basic_constraints_fault
returns-in_err-parts-clause-fault c =
    exit _ _ c.in_err-parts.field-0.0 c.from_residual.ensures.1 (rw c.in_err-parts.ensures.fault refl)

pub returns-in_err-ca-clause-fault : goal.returns-in_err-ca-clause-fault
unfolding basic_constraints_fault
returns-in_err-ca-clause-fault c =
    exit _ _ c.in_err-ca.field-0.0 c.from_residual-in_err-ca.ensures.1
    (rw (c.in_ok-parts.ensures.ok, ← c.in_ok-parts.ensures.inside, c.in_err-ca.ensures.fault) refl)

pub returns-in_err-path_len-clause-fault : goal.returns-in_err-path_len-clause-fault
unfolding basic_constraints_fault
returns-in_err-path_len-clause-fault c =
    exit _ _ c.in_err-path_len.field-0.0 c.from_residual-in_err-path_len.ensures.1
    (rw (
      c.in_ok-parts.ensures.ok,
      ← c.in_ok-parts.ensures.inside,
      c.in_ok-ca.ensures.ok,
      ← c.in_ok-ca.ensures.next,
      c.in_err-path_len.ensures.fault,
    ) refl)

pub returns-in_err-expect_end-clause-fault : goal.returns-in_err-expect_end-clause-fault
unfolding basic_constraints_fault
returns-in_err-expect_end-clause-fault c =
    exit _ _ c.in_err-expect_end.field-0.0 c.from_residual-in_err-expect_end.ensures.1
    (rw (
      c.in_ok-parts.ensures.ok,
      ← c.in_ok-parts.ensures.inside,
      c.in_ok-ca.ensures.ok,
      ← c.in_ok-ca.ensures.next,
      c.in_ok-path_len.ensures.ok,
      ← c.in_ok-path_len.ensures.next,
      c.in_err-expect_end.ensures.fault,
    ) refl)

pub returns-in_err-expect_end-2-clause-fault : goal.returns-in_err-expect_end-2-clause-fault
unfolding basic_constraints_fault
returns-in_err-expect_end-2-clause-fault c =
    exit _ _ c.in_err-expect_end-2.field-0.0 c.from_residual-in_err-expect_end-2.ensures.1
    (rw (
      c.in_ok-parts.ensures.ok,
      ← c.in_ok-parts.ensures.inside,
      c.in_ok-ca.ensures.ok,
      ← c.in_ok-ca.ensures.next,
      c.in_ok-path_len.ensures.ok,
      ← c.in_ok-path_len.ensures.next,
      c.in_ok-expect_end.ensures.ok,
      ← c.in_ok-parts.ensures.next,
      c.in_err-expect_end-2.ensures.fault,
    ) refl)

pub returns-clause-ok : goal.returns-clause-ok
unfolding basic_constraints_fault
returns-clause-ok c =
    rw (
      c.in_ok-parts.ensures.ok,
      ← c.in_ok-parts.ensures.inside,
      c.in_ok-ca.ensures.ok,
      ← c.in_ok-ca.ensures.next,
      c.in_ok-path_len.ensures.ok,
      ← c.in_ok-path_len.ensures.next,
      c.in_ok-expect_end.ensures.ok,
      ← c.in_ok-parts.ensures.next,
      c.in_ok-expect_end-2.ensures.ok,
    ) refl
