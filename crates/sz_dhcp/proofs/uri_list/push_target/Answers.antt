use Rattle.std.proofs.Common.{inr, refl, sym, [], append-nil}
use Rattle.sz_dhcp.proofs.uri_list.push_target.Goals as goal

pub returns-in-Err-Form : goal.returns-in-Err-Form
returns-in-Err-Form c =
    let refused = rw c.in-Err-Form.field-0-is at c.in-Err-Form.ensures.refused in
    ([], inr (refused refl, refl), sym (append-nil c.args.targets.now))
