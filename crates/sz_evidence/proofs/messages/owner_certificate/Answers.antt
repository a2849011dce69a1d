use Rattle.sz_cms.specs.Kind.{identifier_of}
use Rattle.sz_evidence.specs.Judgement.{First, owner_rules}
use Rattle.sz_evidence.specs.declared.reason.Artifact.TheVariants as artifact
use Rattle.sz_evidence.specs.declared.reason.Reason.TheVariants as reason
use Rattle.sz_evidence.proofs.Steps.{first_plain_owner, is_plain, reason_is}
use Rattle.sz_evidence.proofs.messages.owner_certificate.Goals as goal

pub returns-in-Plain-clause-refused : goal.returns-in-Plain-clause-refused
returns-in-Plain-clause-refused c =
    let oc = c.args.oc.now in
    let content = c.in-Plain.content in
    let of = is_plain c.as_slice.result.now c.in-Some.bytes c.in_ok-signed.field-0 c.in-Plain.kind content c.in_ok-signed.ensures.ok c.as_slice.ensures
    c.in-Plain.is in
    reason_is (First (owner_rules oc)) c.bad_cms.result (reason.BadCms artifact.Owner) c.bad_cms.ensures
    (first_plain_owner oc c.in-Some.bytes (identifier_of c.in-Plain.kind) content.now c.in-Some.is of)
