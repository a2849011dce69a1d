use Rattle.sz_evidence.proofs.OneValue.{carried_fits}
use Rattle.sz_evidence.proofs.laws.authorised_has_the_nonce.Goals as goal

pub returns : goal.returns
returns c = λ identity when evidence onboarding voucher is carries.
    (carried_fits evidence.ov identity when is.voucher voucher is.voucher_ok carries).nonce
