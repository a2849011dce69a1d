use Rattle.std.proofs.Common.{refl}
use Rattle.std.proofs.lemmas.Result.{MatchResult-weaker}
use Rattle.sz_der.proofs.Steps.{exit}
use Rattle.sz_cms.specs.MessageFault.{signers_fault}
use Rattle.sz_cms.specs.Places.{signers_at}
use Rattle.sz_cms.proofs.reading.take_signers.Goals as goal

pub returns-in_err-each-clause-fault : goal.returns-in_err-each-clause-fault
unfolding signers_fault
returns-in_err-each-clause-fault c =
    exit _ _ c.in_err-each.field-0.0 c.from_residual.ensures.1 (rw c.in_err-each.ensures.fault refl)

pub returns-clause-ok : goal.returns-clause-ok
unfolding signers_fault
returns-clause-ok c =
    MatchResult-weaker c.read_signers.result c.read_signers.ensures.ok (λ x e. rw (c.in_ok-each.ensures.ok, ← c.in_ok-each.ensures.inside, e) refl) (λ x p. p)

pub returns-clause-fault : goal.returns-clause-fault
unfolding signers_fault
returns-clause-fault c =
    MatchResult-weaker c.read_signers.result c.read_signers.ensures.fault (λ x p. p) (λ x e. rw (
      c.in_ok-each.ensures.ok,
      ← c.in_ok-each.ensures.inside,
      e,
    ) refl)

pub returns-clause-signers : goal.returns-clause-signers
unfolding signers_at
returns-clause-signers c =
    rw (← c.in_ok-each.ensures.inside) c.read_signers.ensures.signers
