use Rattle.std.proofs.lemmas.Result.{err_from_is_err_and}
use Rattle.sz_record.proofs.Fields.{takes_next, takes_none, wrong_first, wrong_next}
use Rattle.sz_record.specs.Spelling.{identity_bytes}
use Rattle.sz_record.specs.Stored.{identity_field}
use Rattle.sz_record.proofs.reading.read_identity.Goals as goal

pub returns-clause-taken : goal.returns-clause-taken
unfolding identity_bytes identity_field
returns-clause-taken c =
    takes_next c.in_ok-serial.ensures.taken
    (takes_next c.in_ok-os_name.ensures.taken
    (takes_next c.in_ok-os_version.ensures.taken
    (takes_next c.in_ok-anchors.ensures.taken
    (takes_none _))))

pub returns-in_err-serial-clause-wrong : goal.returns-in_err-serial-clause-wrong
unfolding identity_field
returns-in_err-serial-clause-wrong c =
    let p = err_from_is_err_and c.from_residual.result c.from_residual.ensures.1 in
    rw (p.1, p.2)
    (wrong_first _ c.in_err-serial.ensures.wrong)

pub returns-in_err-os_name-clause-wrong : goal.returns-in_err-os_name-clause-wrong
unfolding identity_field
returns-in_err-os_name-clause-wrong c =
    let p = err_from_is_err_and c.from_residual-in_err-os_name.result c.from_residual-in_err-os_name.ensures.1 in
    rw (p.1, p.2)
    (wrong_next c.in_ok-serial.ensures.taken
    (wrong_first _ c.in_err-os_name.ensures.wrong))

pub returns-in_err-os_version-clause-wrong : goal.returns-in_err-os_version-clause-wrong
unfolding identity_field
returns-in_err-os_version-clause-wrong c =
    let p = err_from_is_err_and c.from_residual-in_err-os_version.result c.from_residual-in_err-os_version.ensures.1 in
    rw (p.1, p.2)
    (wrong_next c.in_ok-serial.ensures.taken
    (wrong_next c.in_ok-os_name.ensures.taken
    (wrong_first _ c.in_err-os_version.ensures.wrong)))

pub returns-in_err-anchors-clause-wrong : goal.returns-in_err-anchors-clause-wrong
unfolding identity_field
returns-in_err-anchors-clause-wrong c =
    let p = err_from_is_err_and c.from_residual-in_err-anchors.result c.from_residual-in_err-anchors.ensures.1 in
    rw (p.1, p.2)
    (wrong_next c.in_ok-serial.ensures.taken
    (wrong_next c.in_ok-os_name.ensures.taken
    (wrong_next c.in_ok-os_version.ensures.taken
    (wrong_first _ c.in_err-anchors.ensures.wrong))))
