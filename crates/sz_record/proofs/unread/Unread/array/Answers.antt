use Rattle.std.proofs.Common.{List, ℕ, length, ap, ◌∙◌, arith, length-take-le}
use Rattle.sz_record.proofs.Numbers.{bytes_short, bytes_split}
use Rattle.sz_record.proofs.unread.Unread.array.Goals as goal

pub returns-in-Some-clause-taken : goal.returns-in-Some-clause-taken
returns-in-Some-clause-taken g c =
    let h = c.in-Some.ensures.cases in
    bytes_split _ _ _ _ (omega (arith, h.2)) h.0 h.1
    (ap (λ (s : List ℕ). length s) h.0 ∙ length-take-le _ _ (omega (arith, h.2)))

pub returns-in-None-clause-wrong : goal.returns-in-None-clause-wrong
returns-in-None-clause-wrong g c = bytes_short _ _ c.in-None.ensures.cases
