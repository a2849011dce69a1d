use Rattle.std.proofs.Common.{arith, refl}
use Rattle.std.proofs.lemmas.Result.{err_from_is_err_and}
use Rattle.sz_record.proofs.Faults.{device_wrong, first_behind, first_none, record_taken, stored_taken, version_wrong}
use Rattle.sz_record.proofs.reading.read_payload.Goals as goal

pub returns-in_err-version-clause-wrong : goal.returns-in_err-version-clause-wrong
returns-in_err-version-clause-wrong c =
    let p = err_from_is_err_and c.from_residual.result c.from_residual.ensures.1 in
    rw (p.1, p.2)
    (version_wrong _ _ _ c.in_err-version.ensures.wrong)

pub returns-in_err-device-clause-wrong : goal.returns-in_err-device-clause-wrong
returns-in_err-device-clause-wrong c =
    let p = err_from_is_err_and c.from_residual-in_err-device.result c.from_residual-in_err-device.ensures.1 in
    rw (p.1, p.2)
    (device_wrong _ _ _ _ _ c.in_ok-version.ensures.taken c.in_err-device.ensures.wrong)

pub returns-then-behind-gt0-clause-wrong : goal.returns-then-behind-gt0-clause-wrong
returns-then-behind-gt0-clause-wrong c =
    first_behind _ _ _ _ _ (record_taken _ _ _ _ _ _ c.in_ok-version.ensures.taken c.in_ok-device.ensures.taken) refl
    (omega arith)

pub returns-clause-ok : goal.returns-clause-ok
returns-clause-ok c =
    stored_taken _ _ _ _ _ _ c.in_ok-version.ensures.taken c.in_ok-device.ensures.taken (omega arith)
    c.in_ok-device.ensures.storable c.in_ok-device.ensures.within c.device_widths.ensures

pub returns-clause-faultless : goal.returns-clause-faultless
returns-clause-faultless c =
    first_none _ _ _ _ (record_taken _ _ _ _ _ _ c.in_ok-version.ensures.taken c.in_ok-device.ensures.taken)
    (omega arith)
