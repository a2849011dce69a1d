use Rattle.std.proofs.Common.{arith}
use Rattle.sz_dhcp.proofs.Options6.{inside_of, inside_of_one}
use Rattle.sz_dhcp.proofs.message6.option_of.Goals as goal

pub returns-in_err-low-clause-none : goal.returns-in_err-low-clause-none
returns-in_err-low-clause-none c =
    rw c.from_residual-in_err-low.ensures
    (λ begun. inside_of_one c.args.bytes.now _ _ c.in_ok-high.ensures.cases.0 c.in_err-low.ensures.cases)

pub returns-in_err-found-clause-none : goal.returns-in_err-found-clause-none
returns-in_err-found-clause-none c =
    rw c.from_residual-in_err-found.ensures
    (λ begun. inside_of c.args.bytes.now _ _ _ _ (omega arith) c.in_ok-high.ensures.cases.0 c.in_ok-low.ensures.cases.0 c.in_err-found.ensures.none)
