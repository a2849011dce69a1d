use Rattle.sz_artifacts.proofs.OneVoucher.{one_voucher, read_voucher, voucher_fault_none}
use Rattle.sz_artifacts.proofs.voucher.laws.faultless_values_are_vouchers.Goals as goal

pub returns-clause-exactly : goal.returns-clause-exactly
returns-clause-exactly c = λ value. (read_voucher value, λ found. voucher_fault_none value found.0 found.1)

pub returns-clause-one_voucher : goal.returns-clause-one_voucher
returns-clause-one_voucher c = one_voucher
