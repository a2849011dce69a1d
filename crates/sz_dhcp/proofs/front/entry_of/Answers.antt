use Rattle.std.proofs.Common.{arith, rules}
use Rattle.sz_dhcp.proofs.Entries.{unfinished_at_more, unfinished_at_none, unfinished_at_one}
use Rattle.sz_dhcp.proofs.front.entry_of.Goals as goal

pub returns-in_err-high-clause-none : goal.returns-in_err-high-clause-none
returns-in_err-high-clause-none c = rw c.from_residual.ensures (unfinished_at_none c.args.bytes.now c.in_err-high.ensures.cases)

pub returns-in_err-low-clause-none : goal.returns-in_err-low-clause-none
returns-in_err-low-clause-none c =
    rw c.from_residual-in_err-low.ensures
    (unfinished_at_one c.args.bytes.now _ _ c.in_ok-high.ensures.cases.0 c.in_err-low.ensures.cases)

pub returns-in_err-value-clause-none : goal.returns-in_err-value-clause-none
returns-in_err-value-clause-none c =
    rw c.from_residual-in_err-value.ensures
    (unfinished_at_more c.args.bytes.now _ _ _ _ c.in_ok-high.ensures.cases.0 c.in_ok-low.ensures.cases.0 (search rules)
    (omega (arith, c.in_err-value.ensures.cases)))
