-- What is written of a voucher that was read, reads as it.
use Rattle.std.proofs.Common.{◌≡◌, ℕ, ◌&&◌, Bool, true, false, if◌then◌else◌, List, [], length, nat_le, Option, Some, None, IfSome, option_and_then, Ok, refl, ap, subst, ◌∙◌}
use Rattle.serde_json.specs.Data.{Data, boolean, string}
use Rattle.sz_base.specs.declared.moment.Seconds.{Seconds}
use Rattle.sz_json.proofs.Base64.{base64_of-again}
use Rattle.sz_json.proofs.Objects.{optional-members_of, or_before-None, required-members_of}
use Rattle.sz_json.proofs.Readings.{form_from_optional, form_from_required}
use Rattle.sz_json.specs.Form.{binary_of, date_time_of, flag_of, IsInstant, object_of, text_of}
use Rattle.sz_json.specs.Member.{optional}
use Rattle.sz_json.specs.Object.{binary_value}
use Rattle.sz_json.specs.declared.name.Name.TheVariants as name
use Rattle.sz_artifacts.proofs.Dates.{seconds_of-text}
use Rattle.sz_artifacts.specs.Assertion.{assertion_in, assertion_of, assertion_text}
use Rattle.sz_artifacts.specs.Voucher.{HasMembers, if_nonce, IsVoucher, nonce_of}
use Rattle.sz_artifacts.specs.WrittenVoucher.{AreDateTexts, inner_members, IsDateText, members_value, outer_members, voucher_value}
use Rattle.sz_artifacts.specs.declared.voucher.Assertion.{Assertion}
use Rattle.sz_artifacts.specs.declared.voucher.Assertion.TheVariants.{Verified, Logged, Proximity}
use Rattle.sz_artifacts.specs.declared.voucher.Voucher.{Voucher}

assertion_back : (assertion : Assertion) → assertion_in (assertion_text assertion) ≡ Some assertion
assertion_back Verified = refl
assertion_back Logged = refl
assertion_back Proximity = refl

if_true : (test : Bool) (bytes nonce : List ℕ) → (if test then Some bytes else None) ≡ Some nonce → (test ≡ true) × (bytes ≡ nonce)
if_true true bytes nonce h = (refl, cc)
if_true false bytes nonce h = cc

nonce_at : (decoded : Option (List ℕ)) (nonce : List ℕ) → option_and_then if_nonce decoded ≡ Some nonce → (decoded ≡ Some nonce) × (if_nonce nonce ≡ Some nonce)
nonce_at None nonce h = cc
nonce_at (Some bytes) nonce h =
    let parts = if_true (nat_le 8 (length bytes) && nat_le (length bytes) 32) bytes nonce h in
    (ap Some parts.1, subst (λ x. if_nonce x ≡ Some x) parts.1 (rw parts.0))

nonce_back : (read : Data) (nonce : List ℕ) → nonce_of read ≡ Some nonce → nonce_of (binary_value nonce) ≡ Some nonce
nonce_back read nonce h =
    let parts = nonce_at (binary_of read) nonce h in
    rw (base64_of-again (text_of read) nonce parts.0) parts.1

end_back : (voucher : Voucher) (created : List ℕ) (expires : Option Seconds) (end : Option (List ℕ)) → IfSome expires IsInstant → AreDateTexts expires end
    → optional date_time_of name.ExpiresOn (members_value voucher created end) ≡ Ok expires
end_back voucher created None None instant is =
    optional-members_of date_time_of name.ExpiresOn (inner_members voucher created None) None (λ seconds. string []) refl (λ seconds e. cc)
end_back voucher created None (Some text) instant is = absurd is
end_back voucher created (Some seconds) None instant is = absurd is
end_back voucher created (Some seconds) (Some text) instant is =
    optional-members_of date_time_of name.ExpiresOn (inner_members voucher created (Some text)) (Some seconds) (λ other. string text) refl
    (λ other e. seconds_of-text seconds text instant is ∙ e)

members_back : (inside : Data) (voucher : Voucher) (created : List ℕ) (end : Option (List ℕ)) → HasMembers inside voucher
    → IsInstant voucher.created_on → IfSome voucher.expires_on IsInstant
    → IsDateText voucher.created_on created → AreDateTexts voucher.expires_on end → HasMembers (members_value voucher created end) voucher
members_back inside voucher created end h instant last is ends =
    let list = inner_members voucher created end in
    let pinned = form_from_required binary_of name.PinnedDomainCert inside voucher.pinned h.pinned_domain_cert in
    record {
      issuer = None;
      checks = Some voucher.revocation;
      renewal = None;
      created_on = required-members_of date_time_of name.CreatedOn list voucher.created_on (seconds_of-text voucher.created_on created instant is);
      expires_on = end_back voucher created voucher.expires_on end last ends;
      assertion = required-members_of assertion_of name.Assertion list voucher.assertion (assertion_back voucher.assertion);
      serial_number = required-members_of text_of name.SerialNumber list voucher.serial refl;
      idevid_issuer = optional-members_of binary_of name.IdevidIssuer list None binary_value refl (λ bytes e. cc);
      pinned_domain_cert = required-members_of binary_of name.PinnedDomainCert list voucher.pinned (base64_of-again (text_of pinned.0) voucher.pinned pinned.1);
      revocation_checks = optional-members_of flag_of name.DomainCertRevocationChecks list (Some voucher.revocation) boolean refl (λ flag e. refl);
      or_false = refl;
      nonce = optional-members_of nonce_of name.Nonce list voucher.nonce binary_value (or_before-None _)
          (λ nonce e. let read = form_from_optional nonce_of name.Nonce inside nonce (h.nonce ∙ ap Ok e) in nonce_back read.0 nonce read.1);
      last_renewal_date = optional-members_of date_time_of name.LastRenewalDate list None (λ seconds. string []) refl (λ seconds e. cc);
    }

pub voucher_reads_back : (value : Data) (voucher : Voucher) (created : List ℕ) (end : Option (List ℕ)) → IsVoucher value voucher → IsInstant voucher.created_on
    → IfSome voucher.expires_on IsInstant → IsDateText voucher.created_on created → AreDateTexts voucher.expires_on end
    → IsVoucher (voucher_value voucher created end) voucher
voucher_reads_back value voucher created end h instant last is ends = record {
  inside = members_value voucher created end;
  top = required-members_of object_of name.Voucher (outer_members voucher created end) (members_value voucher created end) refl;
  members = members_back h.inside voucher created end h.members instant last is ends;
}
