use Rattle.std.proofs.Common.{arith}
use Rattle.sz_dhcp.proofs.Options4.{unfinished_at_more, unfinished_at_none}
use Rattle.sz_dhcp.proofs.message4.value_after.Goals as goal

pub returns-in_err-size-clause-none : goal.returns-in_err-size-clause-none
returns-in_err-size-clause-none c = rw c.from_residual.ensures (unfinished_at_none c.args.bytes.now c.in_err-size.ensures.cases)

pub returns-in_err-value-clause-none : goal.returns-in_err-value-clause-none
returns-in_err-value-clause-none c =
    rw c.from_residual-in_err-value.ensures
    (unfinished_at_more c.args.bytes.now _ _ c.in_ok-size.ensures.cases.0 (omega (arith, c.in_err-value.ensures.cases)))
