use Rattle.std.proofs.Common.{refl}
use Rattle.sz_der.proofs.Steps.{at_end_is, exit, not_at_end}
use Rattle.sz_cms.specs.MessageFault.{one_fault}
use Rattle.sz_cms.proofs.Readings.{place_is}
use Rattle.sz_cms.proofs.attributes.read_one.Goals as goal

pub returns-then-is_at_end-clause-fault : goal.returns-then-is_at_end-clause-fault
unfolding one_fault
returns-then-is_at_end-clause-fault c =
    rw (at_end_is c.args.first.now (c.if-is_at_end.ensures.0 refl), c.place.ensures) (place_is c.args.first.now)

pub returns-in_err-value-clause-fault : goal.returns-in_err-value-clause-fault
unfolding one_fault
returns-in_err-value-clause-fault c =
    exit _ _ c.in_err-value.field-0.0 c.from_residual.ensures.1
    (rw (not_at_end c.args.first.now c.is_at_end.result c.is_at_end.ensures c.if-is_at_end.false, c.in_err-value.ensures.fault) refl)

pub returns-in_err-expect_end-clause-fault : goal.returns-in_err-expect_end-clause-fault
unfolding one_fault
returns-in_err-expect_end-clause-fault c =
    exit _ _ c.in_err-expect_end.field-0.0 c.from_residual-in_err-expect_end.ensures.1
    (rw (
      not_at_end c.args.first.now c.is_at_end.result c.is_at_end.ensures c.if-is_at_end.false,
      c.in_ok-value.ensures.ok,
      ← c.in_ok-value.ensures.next,
      c.in_err-expect_end.ensures.fault,
    ) refl)

pub returns-clause-ok : goal.returns-clause-ok
unfolding one_fault
returns-clause-ok c =
    rw (
      not_at_end c.args.first.now c.is_at_end.result c.is_at_end.ensures c.if-is_at_end.false,
      c.in_ok-value.ensures.ok,
      ← c.in_ok-value.ensures.next,
      c.in_ok-expect_end.ensures.ok,
    ) refl
