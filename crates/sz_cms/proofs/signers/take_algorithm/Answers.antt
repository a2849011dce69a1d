use Rattle.std.proofs.Common.{refl}
use Rattle.sz_der.proofs.Steps.{exit}
use Rattle.sz_cms.specs.MessageFault.{algorithm_fault}
use Rattle.sz_cms.specs.Places.{algorithm_at}
use Rattle.sz_cms.proofs.signers.take_algorithm.Goals as goal

pub returns-in_err-parts-clause-fault : goal.returns-in_err-parts-clause-fault
unfolding algorithm_fault
returns-in_err-parts-clause-fault c =
    exit _ _ c.in_err-parts.field-0.0 c.from_residual.ensures.1
    (rw (c.in_err-parts.ensures.fault) refl)

pub returns-in_err-identifier-clause-fault : goal.returns-in_err-identifier-clause-fault
unfolding algorithm_fault
returns-in_err-identifier-clause-fault c =
    exit _ _ c.in_err-identifier.field-0.0 c.from_residual-in_err-identifier.ensures.1
    (rw (c.in_ok-parts.ensures.ok, ← c.in_ok-parts.ensures.inside, c.in_err-identifier.ensures.fault) refl)

pub returns-in_err-parameters-clause-fault : goal.returns-in_err-parameters-clause-fault
unfolding algorithm_fault
returns-in_err-parameters-clause-fault c =
    exit _ _ c.in_err-parameters.field-0.0 c.from_residual-in_err-parameters.ensures.1
    (rw (
      c.in_ok-parts.ensures.ok,
      ← c.in_ok-parts.ensures.inside,
      c.in_ok-identifier.ensures.ok,
      ← c.in_ok-identifier.ensures.next,
      c.in_err-parameters.ensures.fault,
    ) refl)

pub returns-clause-ok : goal.returns-clause-ok
unfolding algorithm_fault
returns-clause-ok c =
    rw (
      c.in_ok-parts.ensures.ok,
      ← c.in_ok-parts.ensures.inside,
      c.in_ok-identifier.ensures.ok,
      ← c.in_ok-identifier.ensures.next,
      c.in_ok-parameters.ensures.ok,
    ) refl

pub returns-clause-algorithm : goal.returns-clause-algorithm
unfolding algorithm_at
returns-clause-algorithm c =
    rw (c.in_ok-identifier.ensures.item.content, ← c.in_ok-parts.ensures.inside, ← c.in_ok-identifier.ensures.next, c.in_ok-parameters.ensures.whole) refl
