use Rattle.std.proofs.lemmas.Fmt.{IsAscii-from_digits}
use Rattle.std.proofs.lemmas.Str.{IsUtf8-from_ascii}
use Rattle.sz_base.proofs.Numerals.{own}
use Rattle.sz_http.proofs.Lengths.{no_length}
use Rattle.sz_http.proofs.fields.length_of.Goals as goal

pub returns-in_default-clause-none : goal.returns-in_default-clause-none
returns-in_default-clause-none c =
    let digits = c.are_digits.ensures.0 c.if-not-are_digits.false in
    absurd (c.in_default.ensures.cases.0 (IsUtf8-from_ascii c.args.text.now (IsAscii-from_digits c.args.text.now (own.to c.args.text.now digits))))

pub returns-clause-none : goal.returns-clause-none
returns-clause-none c =
    let digits = c.are_digits.ensures.0 c.if-not-are_digits.false in
    no_length c.args.text.now c.in-Ok.digits.now c.parse.result c.ok.result c.in-Ok.ensures.cases.0 c.ok.ensures.value c.parse.ensures.value.0 digits
