use Rattle.std.proofs.Common.{sym, ◌∙◌}
use Rattle.sz_http.proofs.Comes.{came_method}
use Rattle.sz_http.proofs.HeadSteps.{start_method, start_refused}
use Rattle.sz_http.proofs.head_place.at_method.Goals as goal

pub returns-then-is_header_name_token-clause-leads : goal.returns-then-is_header_name_token-clause-leads
returns-then-is_header_name_token-clause-leads c = λ kind bytes other.
    start_method kind bytes c.args.byte other (sym c.is_header_name_token.ensures ∙ c.if-is_header_name_token.true)

pub returns-then-is_header_name_token-clause-came : goal.returns-then-is_header_name_token-clause-came
returns-then-is_header_name_token-clause-came c = λ kind bytes other.
    came_method kind bytes c.args.byte other (sym c.is_header_name_token.ensures ∙ c.if-is_header_name_token.true)

pub returns-clause-leads : goal.returns-clause-leads
returns-clause-leads c = λ kind bytes other.
    start_refused kind bytes c.args.byte other (sym c.is_header_name_token.ensures ∙ c.if-is_header_name_token.false)
