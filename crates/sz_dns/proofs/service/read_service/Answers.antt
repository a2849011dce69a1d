use Rattle.std.proofs.Common.{arith, refl}
use Rattle.std.proofs.lemmas.Result.{err_from_is_err_and}
use Rattle.sz_dns.specs.Service.{in_target, IsServiceFault, too_short}
use Rattle.sz_dns.specs.declared.fault.DnsFault.TheVariants.{Bad}
use Rattle.sz_dns.specs.declared.fault.DnsKind.TheVariants.{Short}
use Rattle.sz_dns.specs.declared.service.Service.{Service}
use Rattle.sz_dns.proofs.Splits.{rejoined, service_at}
use Rattle.sz_dns.proofs.Told.{told}
use Rattle.sz_dns.proofs.service.read_service.Goals as goal

pub returns-in_default-clause-refused : goal.returns-in_default-clause-refused
returns-in_default-clause-refused c =
    told (IsServiceFault c.args.message.now c.args.contents.now c.args.start c.args.inside) (Bad Short c.args.start) Short c.args.start refl
    (too_short c.in_default.ensures.cases)

pub returns-in_err-target-clause-refused : goal.returns-in_err-target-clause-refused
returns-in_err-target-clause-refused c =
    let split = c.in-Some.ensures.cases in
    let whole = rejoined c.args.contents.now c.in-Some.fixed.now c.in-Some.name.now 6 split.1 split.2 in
    let p = err_from_is_err_and c.from_residual.result c.from_residual.ensures.1 in
    rw (p.1, p.2)
    (λ kind place e.
    let found = c.in_err-target.ensures.refused kind place e in
    let at = found.1 in
    rw at (in_target c.in-Some.fixed.now c.in-Some.name.now whole split.3 found.0))

pub returns-clause-ok : goal.returns-clause-ok
returns-clause-ok c =
    let split = c.in-Some.ensures.cases in
    let whole = rejoined c.args.contents.now c.in-Some.fixed.now c.in-Some.name.now 6 split.1 split.2 in
    let service : Service = record { priority = c.number.result; port = c.number-2.result; target = c.in_ok-target.target.labels } in
    service_at c.args.message.now c.args.contents.now c.in-Some.fixed.now c.in-Some.name.now c.in_ok-target.target.rest.now service
    (λ k. omega (arith, c.type_inv.contents k)) whole split.3 c.number.ensures c.number-2.ensures c.in_ok-target.ensures.ok
