use Rattle.sz_evidence.proofs.OneValue.{carried_fits}
use Rattle.sz_evidence.proofs.laws.authorised_is_for_the_serial_number.Goals as goal

pub returns : goal.returns
returns c = λ identity when evidence onboarding voucher is carries.
    (carried_fits evidence.ov identity when is.voucher voucher is.voucher_ok carries).serial_number
