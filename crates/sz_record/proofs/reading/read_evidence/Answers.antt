use Rattle.std.proofs.lemmas.Result.{err_from_is_err_and}
use Rattle.sz_record.proofs.Fields.{takes_next, takes_none, wrong_first, wrong_next}
use Rattle.sz_record.specs.Spelling.{evidence_bytes}
use Rattle.sz_record.specs.Stored.{evidence_field}
use Rattle.sz_record.proofs.reading.read_evidence.Goals as goal

pub returns-clause-taken : goal.returns-clause-taken
unfolding evidence_bytes evidence_field
returns-clause-taken c =
    takes_next c.in_ok-ci.ensures.taken
    (takes_next c.in_ok-oc.ensures.taken
    (takes_next c.in_ok-ov.ensures.taken
    (takes_none _)))

pub returns-in_err-ci-clause-wrong : goal.returns-in_err-ci-clause-wrong
unfolding evidence_field
returns-in_err-ci-clause-wrong c =
    let p = err_from_is_err_and c.from_residual.result c.from_residual.ensures.1 in
    rw (p.1, p.2)
    (wrong_first _ c.in_err-ci.ensures.wrong)

pub returns-in_err-oc-clause-wrong : goal.returns-in_err-oc-clause-wrong
unfolding evidence_field
returns-in_err-oc-clause-wrong c =
    let p = err_from_is_err_and c.from_residual-in_err-oc.result c.from_residual-in_err-oc.ensures.1 in
    rw (p.1, p.2)
    (wrong_next c.in_ok-ci.ensures.taken
    (wrong_first _ c.in_err-oc.ensures.wrong))

pub returns-in_err-ov-clause-wrong : goal.returns-in_err-ov-clause-wrong
unfolding evidence_field
returns-in_err-ov-clause-wrong c =
    let p = err_from_is_err_and c.from_residual-in_err-ov.result c.from_residual-in_err-ov.ensures.1 in
    rw (p.1, p.2)
    (wrong_next c.in_ok-ci.ensures.taken
    (wrong_next c.in_ok-oc.ensures.taken
    (wrong_first _ c.in_err-ov.ensures.wrong)))
