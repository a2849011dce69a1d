use Rattle.std.proofs.lemmas.Result.{err_from_is_err_and}
use Rattle.sz_record.proofs.Fields.{takes_next, takes_none, wrong_first, wrong_next}
use Rattle.sz_record.specs.Spelling.{device_bytes}
use Rattle.sz_record.specs.Stored.{device_field}
use Rattle.sz_record.proofs.reading.read_device.Goals as goal

pub returns-clause-taken : goal.returns-clause-taken
unfolding device_bytes device_field
returns-clause-taken c =
    takes_next c.in_ok-identity.ensures.taken
    (takes_next c.in_ok-running_name.ensures.taken
    (takes_next c.in_ok-running_version.ensures.taken
    (takes_next c.in_ok-image.ensures.taken
    (takes_next c.in_ok-onboarded.ensures.taken
    (takes_none _)))))

pub returns-in_err-identity-clause-wrong : goal.returns-in_err-identity-clause-wrong
unfolding device_field
returns-in_err-identity-clause-wrong c =
    let p = err_from_is_err_and c.from_residual.result c.from_residual.ensures.1 in
    rw (p.1, p.2)
    (wrong_first _ c.in_err-identity.ensures.wrong)

pub returns-in_err-running_name-clause-wrong : goal.returns-in_err-running_name-clause-wrong
unfolding device_field
returns-in_err-running_name-clause-wrong c =
    let p = err_from_is_err_and c.from_residual-in_err-running_name.result c.from_residual-in_err-running_name.ensures.1 in
    rw (p.1, p.2)
    (wrong_next c.in_ok-identity.ensures.taken
    (wrong_first _ c.in_err-running_name.ensures.wrong))

pub returns-in_err-running_version-clause-wrong : goal.returns-in_err-running_version-clause-wrong
unfolding device_field
returns-in_err-running_version-clause-wrong c =
    let p = err_from_is_err_and c.from_residual-in_err-running_version.result c.from_residual-in_err-running_version.ensures.1 in
    rw (p.1, p.2)
    (wrong_next c.in_ok-identity.ensures.taken
    (wrong_next c.in_ok-running_name.ensures.taken
    (wrong_first _ c.in_err-running_version.ensures.wrong)))

pub returns-in_err-image-clause-wrong : goal.returns-in_err-image-clause-wrong
unfolding device_field
returns-in_err-image-clause-wrong c =
    let p = err_from_is_err_and c.from_residual-in_err-image.result c.from_residual-in_err-image.ensures.1 in
    rw (p.1, p.2)
    (wrong_next c.in_ok-identity.ensures.taken
    (wrong_next c.in_ok-running_name.ensures.taken
    (wrong_next c.in_ok-running_version.ensures.taken
    (wrong_first _ c.in_err-image.ensures.wrong))))

pub returns-in_err-onboarded-clause-wrong : goal.returns-in_err-onboarded-clause-wrong
unfolding device_field
returns-in_err-onboarded-clause-wrong c =
    let p = err_from_is_err_and c.from_residual-in_err-onboarded.result c.from_residual-in_err-onboarded.ensures.1 in
    rw (p.1, p.2)
    (wrong_next c.in_ok-identity.ensures.taken
    (wrong_next c.in_ok-running_name.ensures.taken
    (wrong_next c.in_ok-running_version.ensures.taken
    (wrong_next c.in_ok-image.ensures.taken
    (wrong_first _ c.in_err-onboarded.ensures.wrong)))))
