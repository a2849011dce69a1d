use Rattle.std.proofs.Common.{◌≡◌, sym, ◌∙◌}
use Rattle.sz_cms.specs.Message.{SignedData}
use Rattle.sz_cms.specs.View.{info_of, signed_of}
use Rattle.sz_cms.specs.Identifiers.{voucher_oid}
use Rattle.sz_evidence.specs.Judgement.{First, message_rules}
use Rattle.sz_evidence.specs.declared.reason.Artifact.TheVariants as artifact
use Rattle.sz_evidence.specs.declared.reason.Reason.TheVariants as reason
use Rattle.sz_evidence.proofs.Steps.{apart, first_other_voucher, is_signed_data, plain_no_voucher, read_there, reason_is}
use Rattle.sz_evidence.proofs.messages.voucher_message.Goals as goal

pub returns-in_default-2-clause-refused : goal.returns-in_default-2-clause-refused
returns-in_default-2-clause-refused c =
    let ov = c.args.ov.now in
    let info = c.in_ok-signed.field-0 in
    let of = read_there c.as_slice.result.now c.in-Some.bytes info c.in_ok-signed.ensures.ok c.as_slice.ensures in
    reason_is (First (message_rules ov)) c.bad_cms.result (reason.BadCms artifact.Voucher) c.bad_cms.ensures
    (first_other_voucher ov c.in-Some.bytes (info_of info) c.in-Some.is of (plain_no_voucher info c.in_default-2.not-Signed))

pub returns-then-ne-clause-refused : goal.returns-then-ne-clause-refused
returns-then-ne-clause-refused c =
    let ov = c.args.ov.now in
    let signed = c.in-Signed.signed in
    let of = is_signed_data c.as_slice.result.now c.in-Some.bytes c.in_ok-signed.field-0 signed c.in_ok-signed.ensures.ok c.as_slice.ensures
    c.in-Signed.is in
    let other : (signed_of signed).kind ≡ voucher_oid → ⊥ = λ same. apart c.identifier.result.now c.as_slice-2.result.now c.ne.result c.if-ne.true c.ne.ensures
    (c.identifier.ensures ∙ same ∙ sym c.as_slice-2.ensures) in
    reason_is (First (message_rules ov)) c.bad_cms-then-ne.result (reason.BadCms artifact.Voucher) c.bad_cms-then-ne.ensures
    (first_other_voucher ov c.in-Some.bytes (SignedData (signed_of signed)) c.in-Some.is of other)
