-- The artifact of a voucher (RFC 8366 section 5.3) as a JSON value.
use Rattle.std.specs.Prelude.{◌≡◌, ℕ, ◌&&◌, if◌then◌else◌, Bool, false, List, [], ◌∷◌, length, nat_le, Option, Some, None, option_and_then, unwrap_or, Ok}
use Rattle.serde_json.specs.Data.{Data}
use Rattle.sz_base.specs.declared.moment.Seconds.{Seconds}
use Rattle.sz_json.specs.Bounded.{IsBoundedJson}
use Rattle.sz_json.specs.Fault.{fault_of, first_inside, first_of}
use Rattle.sz_json.specs.Form.{binary_of, date_time_of, flag_of, object_of, text_of}
use Rattle.sz_json.specs.Member.{optional, required}
use Rattle.sz_json.specs.declared.name.Name.{Name}
use Rattle.sz_json.specs.declared.name.Name.TheVariants as name
use Rattle.sz_artifacts.specs.Assertion.{assertion_of}
use Rattle.sz_artifacts.specs.declared.voucher.Voucher.{Voucher}

-- a nonce of 8 to 32 bytes (5.3)
abbrev pub if_nonce : List ℕ → Option (List ℕ)
if_nonce bytes =
    if nat_le 8 (length bytes) && nat_le (length bytes) 32 then Some bytes else None

abbrev pub nonce_of : Data → Option (List ℕ)
nonce_of value = option_and_then if_nonce (binary_of value)

-- The members inside the top one. The certificate's issuer and the date of renewal are looked at for their form
-- alone; no wish for revocation checks is that there is none.
pub record HasMembers (inside : Data) (voucher : Voucher) : Type 0 where
  pub issuer : Option (List ℕ)
  pub checks : Option Bool
  pub renewal : Option Seconds
  pub created_on : required date_time_of name.CreatedOn inside ≡ Ok voucher.created_on
  pub expires_on : optional date_time_of name.ExpiresOn inside ≡ Ok voucher.expires_on
  pub assertion : required assertion_of name.Assertion inside ≡ Ok voucher.assertion
  pub serial_number : required text_of name.SerialNumber inside ≡ Ok voucher.serial
  pub idevid_issuer : optional binary_of name.IdevidIssuer inside ≡ Ok issuer
  pub pinned_domain_cert : required binary_of name.PinnedDomainCert inside ≡ Ok voucher.pinned
  pub revocation_checks : optional flag_of name.DomainCertRevocationChecks inside ≡ Ok checks
  pub or_false : voucher.revocation ≡ unwrap_or checks false
  pub nonce : optional nonce_of name.Nonce inside ≡ Ok voucher.nonce
  pub last_renewal_date : optional date_time_of name.LastRenewalDate inside ≡ Ok renewal

-- the value is that of a voucher
pub record IsVoucher (value : Data) (voucher : Voucher) : Type 0 where
  pub inside : Data
  pub top : required object_of name.Voucher value ≡ Ok inside
  pub members : HasMembers inside voucher

-- the content is a text of it
abbrev pub VoucherOf : List ℕ → Voucher → Type 0
VoucherOf content voucher = (value : Data) × IsBoundedJson content value × IsVoucher value voucher

-- ---- the first member at fault

abbrev pub members_fault : Data → Option Name
members_fault inside = first_of (
    fault_of (required date_time_of name.CreatedOn inside)
    ∷ fault_of (optional date_time_of name.ExpiresOn inside)
    ∷ fault_of (required assertion_of name.Assertion inside)
    ∷ fault_of (required text_of name.SerialNumber inside)
    ∷ fault_of (optional binary_of name.IdevidIssuer inside)
    ∷ fault_of (required binary_of name.PinnedDomainCert inside)
    ∷ fault_of (optional flag_of name.DomainCertRevocationChecks inside)
    ∷ fault_of (optional nonce_of name.Nonce inside)
    ∷ fault_of (optional date_time_of name.LastRenewalDate inside)
    ∷ [])

abbrev pub voucher_fault : Data → Option Name
voucher_fault value = first_inside (required object_of name.Voucher value) members_fault
