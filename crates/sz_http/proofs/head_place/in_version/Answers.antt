use Rattle.sz_http.proofs.HeadSteps.{version_goes_on, version_named}
use Rattle.sz_http.proofs.head_place.in_version.Goals as goal

pub returns-then-count-clause-leads : goal.returns-then-count-clause-leads
returns-then-count-clause-leads c = λ bytes.
    version_goes_on c.args.kind bytes c.args.count c.args.byte c.at_due.result c.if-count.true (c.at_due.ensures.leads c.args.kind bytes)

pub returns-clause-leads : goal.returns-clause-leads
returns-clause-leads c = λ bytes.
    version_named c.args.kind bytes c.args.count c.args.byte c.at_minor.result c.if-count.false (c.at_minor.ensures.leads bytes)
