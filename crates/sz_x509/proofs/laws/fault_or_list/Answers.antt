use Rattle.sz_x509.proofs.CrlWhole.{crl_clear, list_from_none, one_list}
use Rattle.sz_x509.proofs.laws.fault_or_list.Goals as goal

pub returns-clause-exactly : goal.returns-clause-exactly
returns-clause-exactly c = λ bytes fits. (list_from_none bytes fits, λ is. (crl_clear bytes is.0 is.1).0)

pub returns-clause-one_list : goal.returns-clause-one_list
returns-clause-one_list c = one_list
