use Rattle.std.proofs.lemmas.Result.{err_from_is_err_and}
use Rattle.sz_record.proofs.Fields.{takes_next, takes_none, wrong_first, wrong_next}
use Rattle.sz_record.specs.Spelling.{moment_bytes}
use Rattle.sz_record.specs.Stored.{moment_field}
use Rattle.sz_record.proofs.reading.read_moment.Goals as goal

pub returns-clause-taken : goal.returns-clause-taken
unfolding moment_bytes moment_field
returns-clause-taken c =
    takes_next c.in_ok-time.ensures.taken
    (takes_next c.in_ok-nonce.ensures.taken
    (takes_none _))

pub returns-in_err-time-clause-wrong : goal.returns-in_err-time-clause-wrong
unfolding moment_field
returns-in_err-time-clause-wrong c =
    let p = err_from_is_err_and c.from_residual.result c.from_residual.ensures.1 in
    rw (p.1, p.2)
    (wrong_first _ c.in_err-time.ensures.wrong)

pub returns-in_err-nonce-clause-wrong : goal.returns-in_err-nonce-clause-wrong
unfolding moment_field
returns-in_err-nonce-clause-wrong c =
    let p = err_from_is_err_and c.from_residual-in_err-nonce.result c.from_residual-in_err-nonce.ensures.1 in
    rw (p.1, p.2)
    (wrong_next c.in_ok-time.ensures.taken
    (wrong_first _ c.in_err-nonce.ensures.wrong))
