use Rattle.std.proofs.Common.{refl}
use Rattle.sz_der.proofs.Steps.{exit}
use Rattle.sz_x509.specs.CertFault.{key_identifier_fault}
use Rattle.sz_x509.proofs.extensions.read_key_identifier.Goals as goal

pub returns-in_err-item-clause-fault : goal.returns-in_err-item-clause-fault
unfolding key_identifier_fault
returns-in_err-item-clause-fault c =
    exit _ _ c.in_err-item.field-0.0 c.from_residual.ensures.1 (rw c.in_err-item.ensures.fault refl)

pub returns-in_err-expect_end-clause-fault : goal.returns-in_err-expect_end-clause-fault
unfolding key_identifier_fault
returns-in_err-expect_end-clause-fault c =
    exit _ _ c.in_err-expect_end.field-0.0 c.from_residual-in_err-expect_end.ensures.1
    (rw (c.in_ok-item.ensures.ok, ← c.in_ok-item.ensures.next, c.in_err-expect_end.ensures.fault) refl)

pub returns-clause-ok : goal.returns-clause-ok
unfolding key_identifier_fault
returns-clause-ok c = rw (c.in_ok-item.ensures.ok, ← c.in_ok-item.ensures.next, c.in_ok-expect_end.ensures.ok) refl
