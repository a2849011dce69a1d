use Rattle.std.proofs.Common.{refl}
use Rattle.sz_der.proofs.Steps.{exit}
use Rattle.sz_cms.specs.MessageFault.{octets_fault}
use Rattle.sz_cms.proofs.reading.read_octets.Goals as goal

pub returns-in_err-octets-clause-fault : goal.returns-in_err-octets-clause-fault
unfolding octets_fault
returns-in_err-octets-clause-fault c =
    exit _ _ c.in_err-octets.field-0.0 c.from_residual.ensures.1
    (rw (c.in_err-octets.ensures.fault) refl)

pub returns-in_err-expect_end-clause-fault : goal.returns-in_err-expect_end-clause-fault
unfolding octets_fault
returns-in_err-expect_end-clause-fault c =
    exit _ _ c.in_err-expect_end.field-0.0 c.from_residual-in_err-expect_end.ensures.1
    (rw (c.in_ok-octets.ensures.ok, ← c.in_ok-octets.ensures.next, c.in_err-expect_end.ensures.fault) refl)

pub returns-clause-ok : goal.returns-clause-ok
unfolding octets_fault
returns-clause-ok c =
    rw (c.in_ok-octets.ensures.ok, ← c.in_ok-octets.ensures.next, c.in_ok-expect_end.ensures.ok) refl
