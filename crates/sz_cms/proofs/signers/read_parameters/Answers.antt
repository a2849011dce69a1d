use Rattle.std.proofs.Common.{refl}
use Rattle.sz_der.proofs.Steps.{at_end_is, exit, not_at_end}
use Rattle.sz_cms.specs.MessageFault.{parameters_fault}
use Rattle.sz_cms.specs.Places.{parameters_at}
use Rattle.sz_cms.proofs.signers.read_parameters.Goals as goal

pub returns-then-is_at_end-clause-ok : goal.returns-then-is_at_end-clause-ok
unfolding parameters_fault
returns-then-is_at_end-clause-ok c =
    rw (at_end_is c.args.first.now (c.if-is_at_end.ensures.0 refl)) refl

pub returns-then-is_at_end-clause-whole : goal.returns-then-is_at_end-clause-whole
unfolding parameters_at
returns-then-is_at_end-clause-whole c =
    rw (at_end_is c.args.first.now (c.if-is_at_end.ensures.0 refl)) refl

pub returns-in_err-parameters-clause-fault : goal.returns-in_err-parameters-clause-fault
unfolding parameters_fault
returns-in_err-parameters-clause-fault c =
    exit _ _ c.in_err-parameters.field-0.0 c.from_residual.ensures.1
    (rw (not_at_end c.args.first.now c.is_at_end.result c.is_at_end.ensures c.if-is_at_end.false, c.in_err-parameters.ensures.fault) refl)

pub returns-in_err-expect_end-clause-fault : goal.returns-in_err-expect_end-clause-fault
unfolding parameters_fault
returns-in_err-expect_end-clause-fault c =
    exit _ _ c.in_err-expect_end.field-0.0 c.from_residual-in_err-expect_end.ensures.1
    (rw (
      not_at_end c.args.first.now c.is_at_end.result c.is_at_end.ensures c.if-is_at_end.false,
      c.in_ok-parameters.ensures.ok,
      ← c.in_ok-parameters.ensures.next,
      c.in_err-expect_end.ensures.fault,
    ) refl)

pub returns-clause-ok : goal.returns-clause-ok
unfolding parameters_fault
returns-clause-ok c =
    rw (
      not_at_end c.args.first.now c.is_at_end.result c.is_at_end.ensures c.if-is_at_end.false,
      c.in_ok-parameters.ensures.ok,
      ← c.in_ok-parameters.ensures.next,
      c.in_ok-expect_end.ensures.ok,
    ) refl

pub returns-clause-whole : goal.returns-clause-whole
unfolding parameters_at
returns-clause-whole c =
    rw (not_at_end c.args.first.now c.is_at_end.result c.is_at_end.ensures c.if-is_at_end.false) c.in_ok-parameters.ensures.item.whole
