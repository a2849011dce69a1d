use Rattle.std.proofs.Common.{sym, ◌∙◌}
use Rattle.sz_http.proofs.HeadSteps.{code_digit, code_refused}
use Rattle.sz_http.proofs.head_place.in_code.Goals as goal

pub returns-then-is_ascii_digit-clause-leads : goal.returns-then-is_ascii_digit-clause-leads
returns-then-is_ascii_digit-clause-leads c = λ kind bytes.
    code_digit kind bytes c.args.count c.args.byte c.if-count-eq0.false (sym c.is_ascii_digit.ensures.value ∙ c.if-is_ascii_digit.true)

pub returns-clause-leads : goal.returns-clause-leads
returns-clause-leads c = λ kind bytes.
    code_refused kind bytes c.args.count c.args.byte c.if-count-eq0.false (sym c.is_ascii_digit.ensures.value ∙ c.if-is_ascii_digit.false)
