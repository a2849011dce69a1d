use Rattle.std.proofs.lemmas.Result.{IfOk-weaker}
use Rattle.sz_cms.specs.Written.{certs_signed}
use Rattle.sz_cms.proofs.WrittenParts.{certs_say, signed_info}
use Rattle.sz_cms.proofs.writing.write_certs.Goals as goal

pub returns-clause-written : goal.returns-clause-written
returns-clause-written c = IfOk-weaker c.content_info.result _ _
    (λ bytes info. record { signed = c.in_ok-signed.signed; is_signed = c.in_ok-signed.ensures; is_info = rw c.as_slice.ensures at info })
    c.content_info.ensures

pub returns-clause-says : goal.returns-clause-says
returns-clause-says c =
    let certs = c.args.certs.now in
    let crls = c.args.crls.now in
    let said = certs_say certs crls c.in_ok-signed.signed c.in_ok-signed.ensures c.requires.certs c.requires.crls in
    IfOk-weaker c.content_info.result _ _
    (λ bytes info. signed_info (certs_signed certs crls) c.in_ok-signed.signed bytes said (rw c.as_slice.ensures at info))
    c.content_info.ensures
