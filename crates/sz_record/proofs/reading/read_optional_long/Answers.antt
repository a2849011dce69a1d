use Rattle.std.proofs.lemmas.Result.{err_from_is_err_and}
use Rattle.sz_record.specs.Spelling.{long_bytes}
use Rattle.sz_record.proofs.Fields.{takes_absent, takes_present, wrong_optional, wrong_present}
use Rattle.sz_record.proofs.reading.read_optional_long.Goals as goal

pub returns-in_err-there-clause-wrong : goal.returns-in_err-there-clause-wrong
returns-in_err-there-clause-wrong c =
    let p = err_from_is_err_and c.from_residual.result c.from_residual.ensures.1 in
    rw (p.1, p.2)
    (wrong_optional _ c.in_err-there.ensures.wrong)

pub returns-in_err-read_long-clause-wrong : goal.returns-in_err-read_long-clause-wrong
returns-in_err-read_long-clause-wrong c =
    let p = err_from_is_err_and c.from_residual-in_err-read_long.result c.from_residual-in_err-read_long.ensures.1 in
    rw (p.1, p.2)
    (wrong_present c.in_ok-there.ensures.taken c.if-there-eq0.false c.in_err-read_long.ensures.wrong)

pub returns-then-there-eq0-clause-taken : goal.returns-then-there-eq0-clause-taken
returns-then-there-eq0-clause-taken c =
    takes_absent _ long_bytes c.in_ok-there.ensures.taken c.if-there-eq0.true

pub returns-clause-taken : goal.returns-clause-taken
returns-clause-taken c =
    takes_present long_bytes _ c.in_ok-there.ensures.taken c.if-there-eq0.false c.in_ok-read_long.ensures.taken
