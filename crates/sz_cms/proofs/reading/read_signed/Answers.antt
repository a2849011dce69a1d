use Rattle.std.proofs.Common.{refl}
use Rattle.sz_der.proofs.Steps.{exit}
use Rattle.sz_cms.specs.MessageFault.{signed_fault}
use Rattle.sz_cms.proofs.reading.read_signed.Goals as goal

pub returns-in_err-data-clause-fault : goal.returns-in_err-data-clause-fault
unfolding signed_fault
returns-in_err-data-clause-fault c =
    exit _ _ c.in_err-data.field-0.0 c.from_residual.ensures.1 (rw c.in_err-data.ensures.fault refl)

pub returns-in_err-signed-clause-fault : goal.returns-in_err-signed-clause-fault
unfolding signed_fault
returns-in_err-signed-clause-fault c =
    exit _ _ c.in_err-signed.field-0.0 c.from_residual-in_err-signed.ensures.1
    (rw (c.in_ok-data.ensures.ok, ← c.in_ok-data.ensures.inside, c.in_err-signed.ensures.fault) refl)

pub returns-in_err-expect_end-clause-fault : goal.returns-in_err-expect_end-clause-fault
unfolding signed_fault
returns-in_err-expect_end-clause-fault c =
    exit _ _ c.in_err-expect_end.field-0.0 c.from_residual-in_err-expect_end.ensures.1
    (rw (
      c.in_ok-data.ensures.ok,
      ← c.in_ok-data.ensures.inside,
      c.in_ok-signed.ensures.ok,
      ← c.in_ok-data.ensures.next,
      c.in_err-expect_end.ensures.fault,
    ) refl)

pub returns-clause-ok : goal.returns-clause-ok
unfolding signed_fault
returns-clause-ok c =
    rw (c.in_ok-data.ensures.ok, ← c.in_ok-data.ensures.inside, c.in_ok-signed.ensures.ok, ← c.in_ok-data.ensures.next, c.in_ok-expect_end.ensures.ok) refl

pub returns-clause-signed : goal.returns-clause-signed
returns-clause-signed c =
    rw (← c.in_ok-data.ensures.inside) c.in_ok-signed.ensures.signed
