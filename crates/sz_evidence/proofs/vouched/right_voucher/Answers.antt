use Rattle.sz_cms.specs.View.{signed_of}
use Rattle.sz_artifacts.specs.Voucher.{voucher_fault}
use Rattle.sz_evidence.specs.Judgement.{First, IsUnfit, PinsNoCertificate, RefusesVoucher, voucher_rules}
use Rattle.sz_evidence.specs.View.{IsReason, json_refusal}
use Rattle.sz_evidence.proofs.Steps.{exit, member_by, reason_by, voucher_at_fault, voucher_ok, voucher_pins_none, voucher_unfit, voucher_unsigned}
use Rattle.sz_evidence.proofs.vouched.right_voucher.Goals as goal

pub returns-in_err-content-clause-refused : goal.returns-in_err-content-clause-refused
returns-in_err-content-clause-refused c =
    let identity = c.args.identity.now in
    let when = c.args.when in
    let ov = c.args.ov.now in
    let signed = signed_of c.in_ok-signed.signed in
    let rule = First (voucher_rules identity when ov) in
    exit c.from_residual-in_err-content.result c.in_err-content.field-0.0 (IsReason rule) c.from_residual-in_err-content.ensures.1
    (reason_by (RefusesVoucher signed identity when.time) rule c.in_err-content.field-0.0
    (voucher_unsigned identity when ov signed c.in_ok-signed.ensures.ok) c.in_err-content.ensures.refused)

pub returns-in_err-voucher-clause-refused : goal.returns-in_err-voucher-clause-refused
returns-in_err-voucher-clause-refused c =
    let identity = c.args.identity.now in
    let when = c.args.when in
    let ov = c.args.ov.now in
    let content = c.in_ok-content.content.now in
    let rule = First (voucher_rules identity when ov) in
    exit c.from_residual-in_err-voucher.result (json_refusal c.in_err-voucher.field-0.0) (IsReason rule) c.from_residual-in_err-voucher.ensures.1
    (member_by voucher_fault content rule c.in_err-voucher.field-0.0
    (voucher_at_fault identity when ov (signed_of c.in_ok-signed.signed) c.in_ok-signed.ensures.ok content c.in_ok-content.ensures.ok)
    c.in_err-voucher.ensures.refused)

pub returns-in_err-check_fit-clause-refused : goal.returns-in_err-check_fit-clause-refused
returns-in_err-check_fit-clause-refused c =
    let identity = c.args.identity.now in
    let when = c.args.when in
    let ov = c.args.ov.now in
    let voucher = c.in_ok-voucher.voucher in
    let rule = First (voucher_rules identity when ov) in
    exit c.from_residual-in_err-check_fit.result c.in_err-check_fit.field-0.0 (IsReason rule) c.from_residual-in_err-check_fit.ensures.1
    (reason_by (IsUnfit voucher identity when) rule c.in_err-check_fit.field-0.0
    (voucher_unfit identity when ov (signed_of c.in_ok-signed.signed) c.in_ok-signed.ensures.ok c.in_ok-content.content.now c.in_ok-content.ensures.ok
    voucher c.in_ok-voucher.ensures.ok) c.in_err-check_fit.ensures.refused)

pub returns-in_err-check_pinned-clause-refused : goal.returns-in_err-check_pinned-clause-refused
returns-in_err-check_pinned-clause-refused c =
    let identity = c.args.identity.now in
    let when = c.args.when in
    let ov = c.args.ov.now in
    let voucher = c.in_ok-voucher.voucher in
    let rule = First (voucher_rules identity when ov) in
    exit c.from_residual-in_err-check_pinned.result c.in_err-check_pinned.field-0.0 (IsReason rule) c.from_residual-in_err-check_pinned.ensures.1
    (reason_by (PinsNoCertificate voucher) rule c.in_err-check_pinned.field-0.0
    (λ found none. voucher_pins_none identity when ov (signed_of c.in_ok-signed.signed) c.in_ok-signed.ensures.ok c.in_ok-content.content.now
    c.in_ok-content.ensures.ok voucher c.in_ok-voucher.ensures.ok found c.in_ok-check_fit.ensures.ok none) c.in_err-check_pinned.ensures.refused)

pub returns-clause-ok : goal.returns-clause-ok
returns-clause-ok c =
    let pins = c.in_ok-check_pinned.ensures.ok in
    voucher_ok c.args.identity.now c.args.when c.args.ov.now (signed_of c.in_ok-signed.signed) c.in_ok-signed.ensures.ok c.in_ok-content.content.now
    c.in_ok-content.ensures.ok c.in_ok-voucher.voucher c.in_ok-voucher.ensures.ok pins.0 c.in_ok-check_fit.ensures.ok pins.1
