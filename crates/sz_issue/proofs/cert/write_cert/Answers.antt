use Rattle.std.proofs.Common.{ℕ, List}
use Rattle.std.proofs.lemmas.Result.{IfOk-weaker}
use Rattle.sz_x509.specs.Certificate.{CertOf}
use Rattle.sz_issue.specs.Certificate.{signed}
use Rattle.sz_issue.specs.Parts.{IsSignedForm}
use Rattle.sz_issue.proofs.CertificateSaid.{is_certificate}
use Rattle.sz_issue.proofs.cert.write_cert.Goals as goal

pub returns-clause-certificate : goal.returns-clause-certificate
returns-clause-certificate c =
    λ fields is. IfOk-weaker c.join_signed.result (IsSignedForm c.args.tbs.now c.args.signature.now)
    (λ (whole : List ℕ). CertOf whole (signed fields c.args.tbs.now c.args.signature.now whole))
    (λ whole. is_certificate fields c.args.tbs.now c.args.signature.now whole is) c.join_signed.ensures
