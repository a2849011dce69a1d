use Rattle.std.specs.Int.{w8}
use Rattle.std.proofs.lemmas.Result.{err_from_is_err_and}
use Rattle.sz_record.proofs.Numbers.{number_short, out_8, single}
use Rattle.sz_record.proofs.unread.Unread.byte.Goals as goal

pub returns-in_err-byte-clause-wrong : goal.returns-in_err-byte-clause-wrong
returns-in_err-byte-clause-wrong c =
    let p = err_from_is_err_and c.from_residual.result c.from_residual.ensures.1 in
    rw (p.1, p.2)
    (number_short w8 _ _ _ _ c.in_err-byte.ensures.wrong)

pub returns-else-low-byte-clause-wrong : goal.returns-else-low-byte-clause-wrong
returns-else-low-byte-clause-wrong c =
    out_8 _ _ _ _ _ _ c.in_ok-byte.ensures.taken (single c.in_ok-byte.field-0 c.in_ok-byte.ensures.count) c.else-low-byte.either
