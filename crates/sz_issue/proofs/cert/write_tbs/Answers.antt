use Rattle.std.proofs.Common.{ℕ, List}
use Rattle.std.proofs.lemmas.Result.{IfOk-weaker}
use Rattle.sz_x509.specs.Certificate.{Certificate, IsTbs}
use Rattle.sz_issue.specs.Certificate.{IsWrittenTbs, Says, cert_values}
use Rattle.sz_issue.proofs.CertificateSaid.{says}
use Rattle.sz_issue.proofs.cert.write_tbs.Goals as goal

pub returns-clause-says : goal.returns-clause-says
returns-clause-says c =
    let values = cert_values c.args.spec.now in
    IfOk-weaker c.write_each.result (IsWrittenTbs values) (λ (tbs : List ℕ). (fields : Certificate) × Says values fields × IsTbs fields tbs) (says values)
    c.write_each.ensures
