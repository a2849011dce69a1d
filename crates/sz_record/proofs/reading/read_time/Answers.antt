use Rattle.std.proofs.Common.{ℕ, ◌<◌, get_or, rules, arith}
use Rattle.std.specs.Prelude.{FitsSigned}
use Rattle.std.specs.Int.{w64}
use Rattle.sz_record.proofs.Numbers.{time_taken}
use Rattle.sz_record.proofs.reading.read_time.Goals as goal

pub returns-clause-taken : goal.returns-clause-taken
returns-clause-taken c =
    let small : (i : ℕ) → get_or c.in_ok-array.field-0 i 0 < 256 = search rules in
    let fits : FitsSigned w64 c.cast_signed.result = search rules in
    time_taken _ _ _ _ _ c.in_ok-array.ensures.taken c.in_ok-array.ensures.count small c.from_be_bytes-number.ensures
    (omega arith) c.cast_signed.ensures fits
