use Rattle.sz_http.proofs.HeadSteps.{no_reason}
use Rattle.sz_http.proofs.head_place.after_code.Goals as goal

pub returns-clause-leads : goal.returns-clause-leads
returns-clause-leads c = λ kind bytes.
    no_reason kind bytes c.args.byte c.at_line_end.result c.if-byte-eq32.false (c.at_line_end.ensures.leads kind bytes)
