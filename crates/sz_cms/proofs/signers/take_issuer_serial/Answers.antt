use Rattle.std.proofs.Common.{refl}
use Rattle.sz_der.proofs.Steps.{exit}
use Rattle.sz_cms.specs.MessageFault.{issuer_serial_fault}
use Rattle.sz_cms.specs.Places.{issuer_serial_at}
use Rattle.sz_cms.proofs.signers.take_issuer_serial.Goals as goal

pub returns-in_err-parts-clause-fault : goal.returns-in_err-parts-clause-fault
unfolding issuer_serial_fault
returns-in_err-parts-clause-fault c =
    exit _ _ c.in_err-parts.field-0.0 c.from_residual.ensures.1
    (rw (c.in_err-parts.ensures.fault) refl)

pub returns-in_err-issuer-clause-fault : goal.returns-in_err-issuer-clause-fault
unfolding issuer_serial_fault
returns-in_err-issuer-clause-fault c =
    exit _ _ c.in_err-issuer.field-0.0 c.from_residual-in_err-issuer.ensures.1
    (rw (c.in_ok-parts.ensures.ok, ← c.in_ok-parts.ensures.inside, c.in_err-issuer.ensures.fault) refl)

pub returns-in_err-serial-clause-fault : goal.returns-in_err-serial-clause-fault
unfolding issuer_serial_fault
returns-in_err-serial-clause-fault c =
    exit _ _ c.in_err-serial.field-0.0 c.from_residual-in_err-serial.ensures.1
    (rw (
      c.in_ok-parts.ensures.ok,
      ← c.in_ok-parts.ensures.inside,
      c.in_ok-issuer.ensures.ok,
      ← c.in_ok-issuer.ensures.next,
      c.in_err-serial.ensures.fault,
    ) refl)

pub returns-in_err-expect_end-clause-fault : goal.returns-in_err-expect_end-clause-fault
unfolding issuer_serial_fault
returns-in_err-expect_end-clause-fault c =
    exit _ _ c.in_err-expect_end.field-0.0 c.from_residual-in_err-expect_end.ensures.1
    (rw (
      c.in_ok-parts.ensures.ok,
      ← c.in_ok-parts.ensures.inside,
      c.in_ok-issuer.ensures.ok,
      ← c.in_ok-issuer.ensures.next,
      c.in_ok-serial.ensures.ok,
      ← c.in_ok-serial.ensures.next,
      c.in_err-expect_end.ensures.fault,
    ) refl)

pub returns-clause-ok : goal.returns-clause-ok
unfolding issuer_serial_fault
returns-clause-ok c =
    rw (
      c.in_ok-parts.ensures.ok,
      ← c.in_ok-parts.ensures.inside,
      c.in_ok-issuer.ensures.ok,
      ← c.in_ok-issuer.ensures.next,
      c.in_ok-serial.ensures.ok,
      ← c.in_ok-serial.ensures.next,
      c.in_ok-expect_end.ensures.ok,
    ) refl

pub returns-clause-identifier : goal.returns-clause-identifier
unfolding issuer_serial_at
returns-clause-identifier c =
    rw (c.in_ok-issuer.ensures.item.whole, ← c.in_ok-parts.ensures.inside, ← c.in_ok-issuer.ensures.next, c.in_ok-serial.ensures.octets) refl
