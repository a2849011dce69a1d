use Rattle.std.proofs.Common.{sym, arith}
use Rattle.std.proofs.lemmas.Nat.{and_mask}
use Rattle.sz_lms.proofs.DigitBits.{digit-none, digit-shifted, digit-within}
use Rattle.sz_lms.proofs.digits.digit.Goals as goal

pub returns-in_default-clause-value : goal.returns-in_default-clause-value
returns-in_default-clause-value c =
    let past = rw (c.width-width.ensures, c.from.ensures) at c.in_default.ensures.lookup.3 in
    sym (digit-none _ c.args.i c.args.bytes.now past)

pub returns-clause-value : goal.returns-clause-value
returns-clause-value c =
    let within = rw (c.width-width.ensures, c.from.ensures) at c.in-Some.ensures.lookup.3.0 in
    let byte = rw (c.width-width.ensures, c.from.ensures) at (c.in-Some.ensures.lookup.3.1 0) in
    rw (c.last_digit.ensures, and_mask, c.width-width.ensures, c.from.ensures, byte)
    (sym (digit-shifted c.args.kind c.args.i c.args.bytes.now (λ k. omega (arith, c.type_inv.bytes k)) (digit-within c.args.kind c.args.i _ within)))
