use Rattle.std.proofs.Common.{ℕ, ◌<◌, get_or, rules, arith}
use Rattle.std.specs.Int.{w64}
use Rattle.std.proofs.lemmas.Result.{err_from_is_err_and}
use Rattle.sz_record.proofs.Numbers.{number_short, out_64, taken_64}
use Rattle.sz_record.proofs.unread.Unread.number64.Goals as goal

pub returns-in_err-array-clause-wrong : goal.returns-in_err-array-clause-wrong
returns-in_err-array-clause-wrong c =
    let p = err_from_is_err_and c.from_residual.result c.from_residual.ensures.1 in
    rw (p.1, p.2)
    (number_short w64 _ _ _ _ c.in_err-array.ensures.wrong)

pub returns-else-read-most-clause-wrong : goal.returns-else-read-most-clause-wrong
returns-else-read-most-clause-wrong c =
    let small : (i : ℕ) → get_or c.in_ok-array.field-0 i 0 < 256 = search rules in
    out_64 _ _ _ _ _ c.in_ok-array.ensures.taken c.in_ok-array.ensures.count small c.from_be_bytes-read.ensures
    (omega arith) (omega arith)

pub returns-then-read-most-clause-taken : goal.returns-then-read-most-clause-taken
returns-then-read-most-clause-taken c =
    let small : (i : ℕ) → get_or c.in_ok-array.field-0 i 0 < 256 = search rules in
    taken_64 _ _ _ _ _ _ c.in_ok-array.ensures.taken c.in_ok-array.ensures.count small c.from_be_bytes-read.ensures
    (omega arith) (omega arith) (omega arith)
