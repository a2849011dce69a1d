use Rattle.std.proofs.Common.{refl}
use Rattle.sz_base.proofs.Numerals.{IsUtf8-numeral, parsed_none}
use Rattle.sz_base.proofs.numbers.number.Goals as goal

pub returns-in_default-clause-none : goal.returns-in_default-clause-none
returns-in_default-clause-none c =
    let form = c.if-not-is_numeral.ensures.0 refl in
    absurd (c.in_default.ensures.cases.0 (IsUtf8-numeral c.args.text.now form))

pub returns-clause-none : goal.returns-clause-none
returns-clause-none c =
    let form = c.if-not-is_numeral.ensures.0 refl in
    parsed_none c.args.text.now c.in-Ok.digits.now c.parse.result c.ok.result c.in-Ok.ensures.cases.0
    c.ok.ensures.value c.parse.ensures.value.0 form
