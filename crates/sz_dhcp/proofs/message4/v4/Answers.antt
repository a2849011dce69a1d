use Rattle.std.proofs.Common.{◌∙◌}
use Rattle.std.proofs.lemmas.Result.{err_from_is_err_and}
use Rattle.sz_dhcp.proofs.Fields.{fault_in_list}
use Rattle.sz_dhcp.proofs.message4.v4.Goals as goal

pub returns-in_err-push_targets-clause-refused : goal.returns-in_err-push_targets-clause-refused
returns-in_err-push_targets-clause-refused c =
    let list = c.in_ok-list.ensures.ok in
    let p = err_from_is_err_and c.from_residual-in_err-push_targets.result c.from_residual-in_err-push_targets.ensures.1 in
    rw (p.1, p.2)
    (fault_in_list c.args.message.now c.as_slice.result.now _ list.0 list.1 list.2 list.3 (c.as_slice.ensures ∙ list.4)
    c.in_err-push_targets.ensures.refused)
