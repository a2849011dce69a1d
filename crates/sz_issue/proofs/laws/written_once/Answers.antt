use Rattle.sz_issue.proofs.CertificateOnce.{one_tbs}
use Rattle.sz_issue.proofs.ListOnce.{one_list}
use Rattle.sz_issue.proofs.SharedParts.{one_signed}
use Rattle.sz_issue.proofs.laws.written_once.Goals as goal

pub returns-clause-tbs : goal.returns-clause-tbs
returns-clause-tbs c = one_tbs

pub returns-clause-list : goal.returns-clause-list
returns-clause-list c = one_list

pub returns-clause-signed : goal.returns-clause-signed
returns-clause-signed c = one_signed
