use Rattle.std.proofs.Common.{sym, ◌∙◌}
use Rattle.sz_http.proofs.HeadSteps.{name_goes_on, name_ends, name_refused}
use Rattle.sz_http.proofs.head_place.in_name.Goals as goal

pub returns-then-is_header_name_token-clause-leads : goal.returns-then-is_header_name_token-clause-leads
returns-then-is_header_name_token-clause-leads c = λ kind bytes.
    name_goes_on kind bytes c.args.room c.args.byte (sym c.is_header_name_token.ensures ∙ c.if-is_header_name_token.true)

pub returns-then-byte-eq58-clause-leads : goal.returns-then-byte-eq58-clause-leads
returns-then-byte-eq58-clause-leads c = λ kind bytes. name_ends kind bytes c.args.room c.args.byte c.if-byte-eq58.true

pub returns-clause-leads : goal.returns-clause-leads
returns-clause-leads c = λ kind bytes.
    name_refused kind bytes c.args.room c.args.byte (sym c.is_header_name_token.ensures ∙ c.if-is_header_name_token.false) c.if-byte-eq58.false
