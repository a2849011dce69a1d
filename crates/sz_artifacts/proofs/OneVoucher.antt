-- A value has no member at fault exactly where it is read as a voucher, and it is read as one.
use Rattle.std.proofs.Common.{◌≡◌, ℕ, Bool, false, List, Option, None, unwrap_or, refl, subst}
use Rattle.serde_json.specs.Data.{Data}
use Rattle.sz_base.specs.declared.moment.Seconds.{Seconds}
use Rattle.sz_json.proofs.Faultless.{neither, read_inside, read_member}
use Rattle.sz_json.specs.Form.{binary_of, date_time_of, flag_of, object_of, text_of}
use Rattle.sz_json.specs.Member.{optional, required}
use Rattle.sz_json.specs.declared.name.Name.TheVariants as name
use Rattle.sz_artifacts.specs.Assertion.{assertion_of}
use Rattle.sz_artifacts.specs.Voucher.{HasMembers, IsVoucher, members_fault, nonce_of, voucher_fault}
use Rattle.sz_artifacts.specs.declared.voucher.Assertion.{Assertion}
use Rattle.sz_artifacts.specs.declared.voucher.Voucher.{Voucher}

members_fault_none : (inside : Data) (voucher : Voucher) → HasMembers inside voucher → members_fault inside ≡ None
members_fault_none inside voucher h =
    rw (h.created_on, h.expires_on, h.assertion, h.serial_number, h.idevid_issuer, h.pinned_domain_cert, h.revocation_checks, h.nonce, h.last_renewal_date)

pub voucher_fault_none : (value : Data) (voucher : Voucher) → IsVoucher value voucher → voucher_fault value ≡ None
voucher_fault_none value voucher h = rw h.top (members_fault_none h.inside voucher h.members)

read_members : (inside : Data) → members_fault inside ≡ None → (voucher : Voucher) × HasMembers inside voucher
read_members inside h =
    let from_1 = neither _ _ h in
    let from_2 = neither _ _ from_1.1 in
    let from_3 = neither _ _ from_2.1 in
    let from_4 = neither _ _ from_3.1 in
    let from_5 = neither _ _ from_4.1 in
    let from_6 = neither _ _ from_5.1 in
    let from_7 = neither _ _ from_6.1 in
    let from_8 = neither _ _ from_7.1 in
    let from_9 = neither _ _ from_8.1 in
    let created_on = read_member (required date_time_of name.CreatedOn inside) from_1.0 in
    let expires_on = read_member (optional date_time_of name.ExpiresOn inside) from_2.0 in
    let assertion = read_member (required assertion_of name.Assertion inside) from_3.0 in
    let serial = read_member (required text_of name.SerialNumber inside) from_4.0 in
    let issuer = read_member (optional binary_of name.IdevidIssuer inside) from_5.0 in
    let pinned = read_member (required binary_of name.PinnedDomainCert inside) from_6.0 in
    let checks = read_member (optional flag_of name.DomainCertRevocationChecks inside) from_7.0 in
    let nonce = read_member (optional nonce_of name.Nonce inside) from_8.0 in
    let renewal = read_member (optional date_time_of name.LastRenewalDate inside) from_9.0 in (
      record {
        expires_on = expires_on.0;
        serial = serial.0;
        pinned = pinned.0;
        revocation = unwrap_or checks.0 false;
        nonce = nonce.0;
        assertion = assertion.0;
        created_on = created_on.0;
      },
      record {
        issuer = issuer.0;
        checks = checks.0;
        renewal = renewal.0;
        created_on = created_on.1;
        expires_on = expires_on.1;
        assertion = assertion.1;
        serial_number = serial.1;
        idevid_issuer = issuer.1;
        pinned_domain_cert = pinned.1;
        revocation_checks = checks.1;
        or_false = refl;
        nonce = nonce.1;
        last_renewal_date = renewal.1;
      },
    )

pub read_voucher : (value : Data) → voucher_fault value ≡ None → (voucher : Voucher) × IsVoucher value voucher
read_voucher value h =
    let top = read_inside (required object_of name.Voucher value) members_fault h in
    let members = read_members top.0 top.2 in
    (members.0, record { inside = top.0; top = top.1; members = members.1 })

same_parts : (voucher : Voucher) (expires_on : Option Seconds) (serial pinned : List ℕ) (revocation : Bool) (nonce : Option (List ℕ))
    (assertion : Assertion) (created_on : Seconds)
    → voucher.expires_on ≡ expires_on → voucher.serial ≡ serial → voucher.pinned ≡ pinned → voucher.revocation ≡ revocation → voucher.nonce ≡ nonce
    → voucher.assertion ≡ assertion
    → voucher.created_on ≡ created_on
    → voucher ≡ record {
      expires_on = expires_on;
      serial = serial;
      pinned = pinned;
      revocation = revocation;
      nonce = nonce;
      assertion = assertion;
      created_on = created_on;
    }
same_parts voucher expires_on serial pinned revocation drawn assertion created_on e s p r n a c = rw (← e, ← s, ← p, ← r, ← n, ← a, ← c) refl

same_members : (inside : Data) (voucher other : Voucher) → HasMembers inside voucher → HasMembers inside other → voucher ≡ other
same_members inside voucher other h g =
    let checks : h.checks ≡ g.checks = cc in
    let revocation : voucher.revocation ≡ other.revocation = cc in
    same_parts voucher other.expires_on other.serial other.pinned other.revocation other.nonce other.assertion other.created_on (cc) (cc) (cc)
    revocation (cc) (cc) (cc)

pub one_voucher : (value : Data) (voucher other : Voucher) → IsVoucher value voucher → IsVoucher value other → voucher ≡ other
one_voucher value voucher other h g =
    let same : g.inside ≡ h.inside = cc in
    same_members h.inside voucher other h.members (subst (λ inside. HasMembers inside other) same g.members)
