use Rattle.sz_artifacts.proofs.Fitting.{fits, fitting}
use Rattle.sz_artifacts.proofs.voucher.laws.judged_vouchers_fit.Goals as goal

pub returns : goal.returns
returns c = λ voucher serial when. (fits voucher serial when, fitting voucher serial when)
