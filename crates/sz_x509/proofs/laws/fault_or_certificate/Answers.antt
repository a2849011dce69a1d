use Rattle.sz_x509.proofs.OneCertificate.{certificate_from_none, one_certificate}
use Rattle.sz_x509.proofs.Whole.{cert_clear}
use Rattle.sz_x509.proofs.laws.fault_or_certificate.Goals as goal

pub returns-clause-exactly : goal.returns-clause-exactly
returns-clause-exactly c = λ bytes fits. (certificate_from_none bytes fits, λ is. (cert_clear bytes is.0 is.1).0)

pub returns-clause-one_certificate : goal.returns-clause-one_certificate
returns-clause-one_certificate c = one_certificate
