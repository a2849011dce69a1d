use Rattle.std.proofs.Common.{subst}
use Rattle.std.proofs.lemmas.Result.{IfErr-weaker}
use Rattle.sz_cms.specs.Kind.{identifier_of}
use Rattle.sz_cms.specs.View.{signed_of}
use Rattle.sz_artifacts.specs.Conveyed.{conveyed_fault, ConveyedOf}
use Rattle.sz_artifacts.specs.declared.conveyed.Conveyed.{Conveyed}
use Rattle.sz_artifacts.specs.declared.conveyed.Conveyed.TheVariants as conveyed
use Rattle.sz_evidence.specs.Judgement.{First, IsRefusedFor, owner_rules, plain_rules, RefusesInformation, voucher_rules}
use Rattle.sz_evidence.specs.View.{IsReason, json_refusal, owner_of}
use Rattle.sz_evidence.proofs.Steps.{authenticated, exit, is_plain, is_signed_data, member_by, plain_kind, reason_by, refused_information, refused_owner, refused_plain, refused_unsigned, refused_voucher, signed_kind}
use Rattle.sz_evidence.proofs.judgement.judge.Goals as goal

pub returns-in-Plain-clause-refused : goal.returns-in-Plain-clause-refused
returns-in-Plain-clause-refused c =
    let identity = c.args.identity.now in
    let when = c.args.when in
    let evidence = c.args.evidence.now in
    let content = c.in-Plain.content in
    let of = is_plain c.as_slice.result.now evidence.ci c.in_ok-info.info c.in-Plain.kind content c.in_ok-info.ensures.ok c.as_slice.ensures c.in-Plain.is in
    let is = plain_kind c.in_ok-info.info c.in-Plain.kind content c.in_ok-check_kind.ensures.ok c.in-Plain.is in
    let first = First (plain_rules content.now) in
    let rule = IsRefusedFor identity when evidence in
    IfErr-weaker c.judge_plain.result (IsReason first) (IsReason rule)
    (λ answer. reason_by first rule answer (λ found. refused_plain identity when evidence (identifier_of c.in-Plain.kind) content.now found of is))
    c.judge_plain.ensures.refused

pub returns-in_err-voucher-clause-refused : goal.returns-in_err-voucher-clause-refused
returns-in_err-voucher-clause-refused c =
    let identity = c.args.identity.now in
    let when = c.args.when in
    let evidence = c.args.evidence.now in
    let signed = signed_of c.in-Signed.signed in
    let of = is_signed_data c.as_slice.result.now evidence.ci c.in_ok-info.info c.in-Signed.signed c.in_ok-info.ensures.ok c.as_slice.ensures c.in-Signed.is in
    let is = signed_kind c.in_ok-info.info c.in-Signed.signed c.in_ok-check_kind.ensures.ok c.in-Signed.is in
    let rule = IsRefusedFor identity when evidence in
    exit c.from_residual-in_err-voucher.result c.in_err-voucher.field-0.0 (IsReason rule) c.from_residual-in_err-voucher.ensures.1
    (reason_by (First (voucher_rules identity when evidence.ov)) rule c.in_err-voucher.field-0.0
    (refused_voucher identity when evidence signed of is) c.in_err-voucher.ensures.refused)

pub returns-in_err-owner-clause-refused : goal.returns-in_err-owner-clause-refused
returns-in_err-owner-clause-refused c =
    let identity = c.args.identity.now in
    let when = c.args.when in
    let evidence = c.args.evidence.now in
    let signed = signed_of c.in-Signed.signed in
    let of = is_signed_data c.as_slice.result.now evidence.ci c.in_ok-info.info c.in-Signed.signed c.in_ok-info.ensures.ok c.as_slice.ensures c.in-Signed.is in
    let is = signed_kind c.in_ok-info.info c.in-Signed.signed c.in_ok-check_kind.ensures.ok c.in-Signed.is in
    let rule = IsRefusedFor identity when evidence in
    exit c.from_residual-in_err-owner.result c.in_err-owner.field-0.0 (IsReason rule) c.from_residual-in_err-owner.ensures.1
    (reason_by (First (owner_rules evidence.oc)) rule c.in_err-owner.field-0.0
    (refused_owner identity when evidence signed of is c.in_ok-voucher.voucher c.in_ok-voucher.ensures.ok) c.in_err-owner.ensures.refused)

pub returns-in_err-content-clause-refused : goal.returns-in_err-content-clause-refused
returns-in_err-content-clause-refused c =
    let identity = c.args.identity.now in
    let when = c.args.when in
    let evidence = c.args.evidence.now in
    let signed = signed_of c.in-Signed.signed in
    let of = is_signed_data c.as_slice.result.now evidence.ci c.in_ok-info.info c.in-Signed.signed c.in_ok-info.ensures.ok c.as_slice.ensures c.in-Signed.is in
    let is = signed_kind c.in_ok-info.info c.in-Signed.signed c.in_ok-check_kind.ensures.ok c.in-Signed.is in
    let voucher = c.in_ok-voucher.voucher in
    let owner = owner_of c.in_ok-owner.owner in
    let rule = IsRefusedFor identity when evidence in
    exit c.from_residual-in_err-content.result c.in_err-content.field-0.0 (IsReason rule) c.from_residual-in_err-content.ensures.1
    (reason_by (RefusesInformation signed owner voucher when) rule c.in_err-content.field-0.0
    (refused_unsigned identity when evidence signed of is voucher c.in_ok-voucher.ensures.ok owner c.in_ok-owner.ensures.ok)
    c.in_err-content.ensures.refused)

pub returns-in_err-targets-clause-refused : goal.returns-in_err-targets-clause-refused
returns-in_err-targets-clause-refused c =
    let identity = c.args.identity.now in
    let when = c.args.when in
    let evidence = c.args.evidence.now in
    let signed = signed_of c.in-Signed.signed in
    let of = is_signed_data c.as_slice.result.now evidence.ci c.in_ok-info.info c.in-Signed.signed c.in_ok-info.ensures.ok c.as_slice.ensures c.in-Signed.is in
    let is = signed_kind c.in_ok-info.info c.in-Signed.signed c.in_ok-check_kind.ensures.ok c.in-Signed.is in
    let voucher = c.in_ok-voucher.voucher in
    let owner = owner_of c.in_ok-owner.owner in
    let content = c.in_ok-content.content.now in
    let rule = IsRefusedFor identity when evidence in
    exit c.from_residual-in_err-targets.result (json_refusal c.in_err-targets.field-0.0) (IsReason rule) c.from_residual-in_err-targets.ensures.1
    (member_by conveyed_fault content rule c.in_err-targets.field-0.0
    (λ found. refused_information identity when evidence signed of is voucher c.in_ok-voucher.ensures.ok owner c.in_ok-owner.ensures.ok content found
    c.in_ok-content.ensures.ok) c.in_err-targets.ensures.refused)

pub returns-in-Redirect-clause-judged : goal.returns-in-Redirect-clause-judged
returns-in-Redirect-clause-judged c =
    let identity = c.args.identity.now in
    let when = c.args.when in
    let evidence = c.args.evidence.now in
    let signed = signed_of c.in-Signed.signed in
    let of = is_signed_data c.as_slice.result.now evidence.ci c.in_ok-info.info c.in-Signed.signed c.in_ok-info.ensures.ok c.as_slice.ensures c.in-Signed.is in
    let is = signed_kind c.in_ok-info.info c.in-Signed.signed c.in_ok-check_kind.ensures.ok c.in-Signed.is in
    let content = c.in_ok-content.content.now in
    let conveys = subst (λ (information : Conveyed). ConveyedOf content information) c.in-Redirect.is c.in_ok-targets.ensures.ok in
    authenticated identity when evidence signed of is c.in_ok-voucher.voucher c.in_ok-voucher.ensures.ok (owner_of c.in_ok-owner.owner)
    c.in_ok-owner.ensures.ok content (conveyed.Redirect c.in-Redirect.targets) c.in_ok-content.ensures.ok conveys

pub returns-clause-judged : goal.returns-clause-judged
returns-clause-judged c =
    let identity = c.args.identity.now in
    let when = c.args.when in
    let evidence = c.args.evidence.now in
    let signed = signed_of c.in-Signed.signed in
    let of = is_signed_data c.as_slice.result.now evidence.ci c.in_ok-info.info c.in-Signed.signed c.in_ok-info.ensures.ok c.as_slice.ensures c.in-Signed.is in
    let is = signed_kind c.in_ok-info.info c.in-Signed.signed c.in_ok-check_kind.ensures.ok c.in-Signed.is in
    let content = c.in_ok-content.content.now in
    let conveys = subst (λ (information : Conveyed). ConveyedOf content information) c.in-Onboarding.is c.in_ok-targets.ensures.ok in
    authenticated identity when evidence signed of is c.in_ok-voucher.voucher c.in_ok-voucher.ensures.ok (owner_of c.in_ok-owner.owner)
    c.in_ok-owner.ensures.ok content (conveyed.Onboarding c.in-Onboarding.onboarding) c.in_ok-content.ensures.ok conveys
