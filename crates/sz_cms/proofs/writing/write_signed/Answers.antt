use Rattle.std.proofs.lemmas.Result.{IfOk-weaker}
use Rattle.sz_cms.specs.Kind.{identifier_of}
use Rattle.sz_cms.specs.Written.{message_signed, written_signer}
use Rattle.sz_cms.proofs.WrittenParts.{message_says, signed_info, signer_says}
use Rattle.sz_cms.proofs.writing.write_signed.Goals as goal

pub returns-clause-written : goal.returns-clause-written
returns-clause-written c = IfOk-weaker c.content_info.result _ _
    (λ bytes info. record {
      signer = c.in_ok-signer.signer;
      signed = c.in_ok-signed.signed;
      is_signer = c.in_ok-signer.ensures;
      is_signed = rw c.as_slice.ensures at c.in_ok-signed.ensures;
      is_info = rw c.as_slice-2.ensures at info;
    })
    c.content_info.ensures

pub returns-clause-says : goal.returns-clause-says
returns-clause-says c =
    let kind = identifier_of c.args.kind in
    let content = c.args.content.now in
    let signer = written_signer kind content c.args.issuer.now c.args.serial.now c.args.attributes.now c.args.signature.now in
    let is_signer = signer_says c.args.issuer.now c.args.serial.now c.args.attributes.now c.args.signature.now c.in_ok-signer.signer
    c.in_ok-signer.ensures kind content c.requires.attributes in
    let signed = message_says kind content c.in_ok-signer.signer c.in_ok-signed.signed c.args.certs.now signer
    (rw c.as_slice.ensures at c.in_ok-signed.ensures) c.requires.certs is_signer in
    IfOk-weaker c.content_info.result _ _
    (λ bytes info. signed_info (message_signed kind content c.args.certs.now signer) c.in_ok-signed.signed bytes signed
    (rw c.as_slice-2.ensures at info))
    c.content_info.ensures
