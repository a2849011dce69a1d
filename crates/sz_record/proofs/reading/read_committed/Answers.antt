use Rattle.std.proofs.lemmas.Result.{err_from_is_err_and}
use Rattle.sz_record.proofs.Fields.{takes_next, takes_none, wrong_first, wrong_next}
use Rattle.sz_record.specs.Spelling.{committed_bytes}
use Rattle.sz_record.specs.Stored.{committed_field}
use Rattle.sz_record.proofs.reading.read_committed.Goals as goal

pub returns-clause-taken : goal.returns-clause-taken
unfolding committed_bytes committed_field
returns-clause-taken c =
    takes_next c.in_ok-when.ensures.taken
    (takes_next c.in_ok-evidence.ensures.taken
    (takes_next c.in_ok-handling.ensures.taken
    (takes_next c.in_ok-pre.ensures.taken
    (takes_next c.in_ok-configuration.ensures.taken
    (takes_next c.in_ok-post.ensures.taken
    (takes_none _))))))

pub returns-in_err-when-clause-wrong : goal.returns-in_err-when-clause-wrong
unfolding committed_field
returns-in_err-when-clause-wrong c =
    let p = err_from_is_err_and c.from_residual.result c.from_residual.ensures.1 in
    rw (p.1, p.2)
    (wrong_first _ c.in_err-when.ensures.wrong)

pub returns-in_err-evidence-clause-wrong : goal.returns-in_err-evidence-clause-wrong
unfolding committed_field
returns-in_err-evidence-clause-wrong c =
    let p = err_from_is_err_and c.from_residual-in_err-evidence.result c.from_residual-in_err-evidence.ensures.1 in
    rw (p.1, p.2)
    (wrong_next c.in_ok-when.ensures.taken
    (wrong_first _ c.in_err-evidence.ensures.wrong))

pub returns-in_err-handling-clause-wrong : goal.returns-in_err-handling-clause-wrong
unfolding committed_field
returns-in_err-handling-clause-wrong c =
    let p = err_from_is_err_and c.from_residual-in_err-handling.result c.from_residual-in_err-handling.ensures.1 in
    rw (p.1, p.2)
    (wrong_next c.in_ok-when.ensures.taken
    (wrong_next c.in_ok-evidence.ensures.taken
    (wrong_first _ c.in_err-handling.ensures.wrong)))

pub returns-in_err-pre-clause-wrong : goal.returns-in_err-pre-clause-wrong
unfolding committed_field
returns-in_err-pre-clause-wrong c =
    let p = err_from_is_err_and c.from_residual-in_err-pre.result c.from_residual-in_err-pre.ensures.1 in
    rw (p.1, p.2)
    (wrong_next c.in_ok-when.ensures.taken
    (wrong_next c.in_ok-evidence.ensures.taken
    (wrong_next c.in_ok-handling.ensures.taken
    (wrong_first _ c.in_err-pre.ensures.wrong))))

pub returns-in_err-configuration-clause-wrong : goal.returns-in_err-configuration-clause-wrong
unfolding committed_field
returns-in_err-configuration-clause-wrong c =
    let p = err_from_is_err_and c.from_residual-in_err-configuration.result c.from_residual-in_err-configuration.ensures.1 in
    rw (p.1, p.2)
    (wrong_next c.in_ok-when.ensures.taken
    (wrong_next c.in_ok-evidence.ensures.taken
    (wrong_next c.in_ok-handling.ensures.taken
    (wrong_next c.in_ok-pre.ensures.taken
    (wrong_first _ c.in_err-configuration.ensures.wrong)))))

pub returns-in_err-post-clause-wrong : goal.returns-in_err-post-clause-wrong
unfolding committed_field
returns-in_err-post-clause-wrong c =
    let p = err_from_is_err_and c.from_residual-in_err-post.result c.from_residual-in_err-post.ensures.1 in
    rw (p.1, p.2)
    (wrong_next c.in_ok-when.ensures.taken
    (wrong_next c.in_ok-evidence.ensures.taken
    (wrong_next c.in_ok-handling.ensures.taken
    (wrong_next c.in_ok-pre.ensures.taken
    (wrong_next c.in_ok-configuration.ensures.taken
    (wrong_first _ c.in_err-post.ensures.wrong))))))
