use Rattle.std.proofs.Common.{◌∙◌}
use Rattle.std.proofs.lemmas.Result.{err_from_is_err_and}
use Rattle.sz_dns.specs.Record.{in_fields, in_name}
use Rattle.sz_dns.specs.declared.fault.DnsKind.TheVariants.{Short}
use Rattle.sz_dns.proofs.Told.{one_place, told}
use Rattle.sz_dns.proofs.record.skip_question.Goals as goal

pub returns-in_err-name-clause-refused : goal.returns-in_err-name-clause-refused
returns-in_err-name-clause-refused c =
    let p = err_from_is_err_and c.from_residual.result c.from_residual.ensures.1 in
    rw (p.1, p.2)
    (λ kind place e.
    let found = c.in_err-name.ensures.refused kind place e in
    (in_name found.0, found.1 ∙ one_place kind _ _ _ c.at_front-places.ensures.part c.at_front-places.ensures.name))

pub returns-clause-refused : goal.returns-clause-refused
returns-clause-refused c =
    told _ c.fault.result Short _ c.fault.ensures
    (in_fields c.in_ok-name.ensures.ok c.in-None.ensures.cases, c.at_front-places.ensures.part)
