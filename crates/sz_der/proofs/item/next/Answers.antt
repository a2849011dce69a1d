use Rattle.std.proofs.Common.{arith}
use Rattle.sz_der.proofs.Places.{found, extends, only, none_there}
use Rattle.sz_der.proofs.item.next.Goals as goal

pub returns-in-Ok-clause-found : goal.returns-in-Ok-clause-found
returns-in-Ok-clause-found c =
    found c.args.bytes.now c.args.place c.rest_from-rest.result.now c.in-Ok.extent.header c.in-Ok.extent.content
    (λ i. omega (arith, c.type_inv.bytes i)) c.rest_from-rest.ensures c.in-Ok.ensures.header c.in-Ok.ensures.content c.in-Ok.ensures.within
    c.in-Ok.ensures.no_fault

pub returns-in-Ok-clause-extends : goal.returns-in-Ok-clause-extends
returns-in-Ok-clause-extends c =
    extends c.args.bytes.now c.args.place c.rest_from-rest.result.now c.in-Ok.extent.header c.in-Ok.extent.content
    (λ i. omega (arith, c.type_inv.bytes i)) c.rest_from-rest.ensures c.in-Ok.ensures.header c.in-Ok.ensures.content c.in-Ok.ensures.within

pub returns-in-Ok-clause-only : goal.returns-in-Ok-clause-only
returns-in-Ok-clause-only c =
    only c.args.bytes.now c.args.place c.rest_from-rest.result.now c.in-Ok.extent.header c.in-Ok.extent.content
    (λ i. omega (arith, c.type_inv.bytes i)) c.rest_from-rest.ensures c.in-Ok.ensures.header c.in-Ok.ensures.content c.in-Ok.ensures.within

pub returns-in-Err-clause-only : goal.returns-in-Err-clause-only
returns-in-Err-clause-only c = λ tag content whole stands.
    absurd (none_there c.args.bytes.now c.args.place c.rest_from-rest.result.now c.in-Err.kind c.rest_from-rest.ensures c.in-Err.ensures.fault
    tag content whole stands)
