use Rattle.std.proofs.Common.{sym, ◌∙◌}
use Rattle.sz_http.proofs.HeadSteps.{value_goes_on, value_ends}
use Rattle.sz_http.proofs.head_place.in_value.Goals as goal

pub returns-then-is_header_value_token-clause-leads : goal.returns-then-is_header_value_token-clause-leads
returns-then-is_header_value_token-clause-leads c = λ kind bytes.
    value_goes_on kind bytes c.args.room c.args.byte (sym c.is_header_value_token.ensures ∙ c.if-is_header_value_token.true)

pub returns-clause-leads : goal.returns-clause-leads
returns-clause-leads c = λ kind bytes.
    value_ends kind bytes c.args.room c.args.byte c.at_line_end.result
    (sym c.is_header_value_token.ensures ∙ c.if-is_header_value_token.false) (c.at_line_end.ensures.leads kind bytes)
