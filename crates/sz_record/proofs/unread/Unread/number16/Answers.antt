use Rattle.std.proofs.Common.{ℕ, ◌<◌, get_or, rules, arith}
use Rattle.std.specs.Int.{w16}
use Rattle.std.proofs.lemmas.Result.{err_from_is_err_and}
use Rattle.sz_record.proofs.Numbers.{number_short, out_16}
use Rattle.sz_record.proofs.unread.Unread.number16.Goals as goal

pub returns-in_err-array-clause-wrong : goal.returns-in_err-array-clause-wrong
returns-in_err-array-clause-wrong c =
    let p = err_from_is_err_and c.from_residual.result c.from_residual.ensures.1 in
    rw (p.1, p.2)
    (number_short w16 _ _ _ _ c.in_err-array.ensures.wrong)

pub returns-else-low-read-clause-wrong : goal.returns-else-low-read-clause-wrong
returns-else-low-read-clause-wrong c =
    let small : (i : ℕ) → get_or c.in_ok-array.field-0 i 0 < 256 = search rules in
    out_16 _ _ _ _ _ _ c.in_ok-array.ensures.taken c.in_ok-array.ensures.count small c.from_be_bytes-read.ensures
    (omega arith) c.else-low-read.either
