use Rattle.std.proofs.Common.{arith}
use Rattle.std.proofs.lemmas.Result.{err_from_is_err_and}
use Rattle.sz_record.proofs.Anchors.{anchors_taken, anchors_wrong, count_wrong, going_on}
use Rattle.sz_record.proofs.reading.read_anchors.Goals as goal

pub returns-in_err-count-clause-wrong : goal.returns-in_err-count-clause-wrong
returns-in_err-count-clause-wrong c =
    let p = err_from_is_err_and c.from_residual.result c.from_residual.ensures.1 in
    rw (p.1, p.2)
    (count_wrong _ _ c.in_err-count.ensures.wrong)

pub returns-in_err-anchor-clause-wrong : goal.returns-in_err-anchor-clause-wrong
returns-in_err-anchor-clause-wrong c =
    let p = err_from_is_err_and c.from_residual-in_err-anchor.result c.from_residual-in_err-anchor.ensures.1 in
    rw (p.1, p.2)
    (anchors_wrong _ _ _ _ _ _ _ c.in_ok-count.ensures.taken c.anchors.invariant c.anchors-test.true
    c.in_err-anchor.ensures.wrong)

pub anchors-preserved : goal.anchors-preserved
anchors-preserved c =
    rw c.in_ok-push.ensures.ok
    (going_on _ _ _ _ _ _ _ c.anchors.invariant c.anchors-test.true c.in_ok-anchor.ensures.taken
    c.in_ok-anchor.ensures.most)

pub returns-clause-taken : goal.returns-clause-taken
returns-clause-taken c =
    anchors_taken _ _ _ _ _ _ c.in_ok-count.ensures.taken c.anchors.invariant (omega (arith, c.anchors-test.false))
