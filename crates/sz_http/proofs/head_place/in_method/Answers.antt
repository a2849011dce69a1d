use Rattle.std.proofs.Common.{sym, ◌∙◌}
use Rattle.sz_http.proofs.Comes.{came_more_method}
use Rattle.sz_http.proofs.HeadSteps.{method_token, method_space, method_refused}
use Rattle.sz_http.proofs.head_place.in_method.Goals as goal

pub returns-then-is_header_name_token-clause-leads : goal.returns-then-is_header_name_token-clause-leads
returns-then-is_header_name_token-clause-leads c = λ kind.
    method_token kind _ c.args.byte (sym c.is_header_name_token.ensures ∙ c.if-is_header_name_token.true)

pub returns-then-is_header_name_token-clause-came : goal.returns-then-is_header_name_token-clause-came
returns-then-is_header_name_token-clause-came c = λ kind.
    came_more_method kind c.args.bytes.now c.args.byte (sym c.is_header_name_token.ensures ∙ c.if-is_header_name_token.true)

pub returns-then-byte-eq32-clause-leads : goal.returns-then-byte-eq32-clause-leads
returns-then-byte-eq32-clause-leads c = λ kind. method_space kind c.args.bytes.now c.args.byte c.if-byte-eq32.true

pub returns-clause-leads : goal.returns-clause-leads
returns-clause-leads c = λ kind.
    method_refused kind _ c.args.byte (sym c.is_header_name_token.ensures ∙ c.if-is_header_name_token.false) c.if-byte-eq32.false
