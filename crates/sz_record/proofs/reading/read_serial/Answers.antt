use Rattle.std.proofs.Common.{ap, Err}
use Rattle.std.proofs.lemmas.Result.{err_from_is_err_and}
use Rattle.sz_record.specs.Stored.{is_serial_text, serial_field}
use Rattle.sz_record.proofs.Fields.{wrong_passing}
use Rattle.sz_record.proofs.Parts.{serial_taken, serial_wrong}
use Rattle.sz_record.proofs.reading.read_serial.Goals as goal

pub returns-in_err-text-clause-wrong : goal.returns-in_err-text-clause-wrong
unfolding serial_field
returns-in_err-text-clause-wrong c =
    let p = err_from_is_err_and c.from_residual.result c.from_residual.ensures.1 in
    rw (p.1, p.2)
    (wrong_passing is_serial_text c.in_err-text.ensures.wrong)

pub returns-in-Ok-clause-taken : goal.returns-in-Ok-clause-taken
returns-in-Ok-clause-taken c =
    serial_taken _ _ _ _ c.in_ok-text.ensures.taken c.in-Ok.ensures.reads.ok c.in-Ok.ensures.reads.form

pub returns-in-Err-Form-clause-wrong : goal.returns-in-Err-Form-clause-wrong
returns-in-Err-Form-clause-wrong c =
    serial_wrong _ _ _ c.in_ok-text.ensures.taken c.in_ok-text.ensures.low c.in_ok-text.ensures.most
    (c.in-Err-Form.ensures.reads.refused.0 (ap (λ e. Err e) c.in-Err-Form.field-0-is))
