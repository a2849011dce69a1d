use Rattle.std.proofs.Common.{[], ◌∷◌, ◌++◌}
use Rattle.std.proofs.lemmas.Result.{err_from_is_err_and}
use Rattle.sz_dhcp.specs.DhcpOption.{DhcpOption}
use Rattle.sz_dhcp.specs.Message6.{IsFault6, too_short}
use Rattle.sz_dhcp.specs.declared.fault.DhcpKind.TheVariants.{Short}
use Rattle.sz_dhcp.proofs.Steps6.{fault_in_its_list, fault_in_option, one_more}
use Rattle.sz_dhcp.proofs.Told.{told}
use Rattle.sz_dhcp.proofs.message6.v6.Goals as goal

pub returns-in_default-clause-refused : goal.returns-in_default-clause-refused
returns-in_default-clause-refused c = told (IsFault6 c.args.message.now) Short 0 (too_short c.in_default.ensures.cases)

pub returns-in_err-option-clause-refused : goal.returns-in_err-option-clause-refused
returns-in_err-option-clause-refused c =
    let read = c.options.invariant in
    let p = err_from_is_err_and c.from_residual.result c.from_residual.ensures.1 in
    rw (p.1, p.2)
    (fault_in_option c.args.message.now read.1 c.options.left.now _ read.0 c.options.targets read.2 c.in_err-option.ensures.refused)

pub returns-in_err-push_list-clause-refused : goal.returns-in_err-push_list-clause-refused
returns-in_err-push_list-clause-refused c =
    let read = c.options.invariant in
    let first = rw c.in-Some-2.is at c.in_ok-option.ensures.some in
    let item : DhcpOption = record { code = c.in-Some-2.option.code; value = c.in-Some-2.option.value.now } in
    let p = err_from_is_err_and c.from_residual-in_err-push_list.result c.from_residual-in_err-push_list.ensures.1 in
    rw (p.1, p.2)
    (fault_in_its_list c.args.message.now read.1 c.options.left.now c.in-Some-2.option.rest.now _ read.0 c.options.targets item read.2
    first c.in_err-push_list.ensures.refused)

pub options-preserved : goal.options-preserved
options-preserved c =
    let read = c.options.invariant in
    let first = rw c.in-Some-2.is at c.in_ok-option.ensures.some in
    let item : DhcpOption = record { code = c.in-Some-2.option.code; value = c.in-Some-2.option.value.now } in
    let own = c.in_ok-push_list.ensures.ok in
    let more =
    one_more c.args.message.now read.1 c.options.left.now c.in-Some-2.option.rest.now read.0 c.options.targets own.0 item read.2 first own.1 in
    (read.0 ++ item ∷ [], read.1 ++ first.own, rw own.2 more)
