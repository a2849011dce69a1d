-- When evidence authorises a device to be bootstrapped with onboarding information (RFC 8366 section 5, RFC 8572
-- section 5.4).
use Rattle.std.specs.Prelude.{◌≡◌, ◌⊎◌, ℕ, ⊤, Bool, true, false, List, [], ◌∷◌, ◌++◌, Option, Some, None, IfSome}
use Rattle.sz_base.specs.declared.evidence.Evidence.{Evidence}
use Rattle.sz_base.specs.declared.identity.Identity.{Identity}
use Rattle.sz_base.specs.declared.moment.Moment.{Moment}
use Rattle.sz_chain.specs.SignedBy.{SignedBy}
use Rattle.sz_der.specs.Der.{AreOctets}
use Rattle.sz_cms.specs.Message.{InfoOf, Signed, SignedData}
use Rattle.sz_cms.specs.Identifiers.{conveyed_json_oid, data_oid, voucher_oid}
use Rattle.sz_artifacts.specs.Conveyed.{ConveyedOf}
use Rattle.sz_artifacts.specs.declared.conveyed.Conveyed.{Conveyed}
use Rattle.sz_artifacts.specs.declared.conveyed.Conveyed.TheVariants as conveyed
use Rattle.sz_artifacts.specs.declared.conveyed.onboarding.Onboarding.{Onboarding}
use Rattle.sz_artifacts.specs.Vouching.{VouchesFor}
use Rattle.sz_artifacts.specs.Voucher.{VoucherOf}
use Rattle.sz_artifacts.specs.declared.voucher.Voucher.{Voucher}
use Rattle.sz_x509.specs.Certificate.{Certificate, CertOf}

-- ---- the voucher

-- it is there, and is signed data of the type of vouchers
pub record IsVoucherMessage (ov : Option (List ℕ)) (signed : Signed) : Type 0 where
  pub bytes : List ℕ
  pub is_there : ov ≡ Some bytes
  pub is_signed_data : InfoOf bytes (SignedData signed)
  pub is_voucher : signed.kind ≡ voucher_oid

-- its content is this voucher, whoever signed it
pub record CarriesVoucher (ov : Option (List ℕ)) (voucher : Voucher) : Type 0 where
  pub signed : Signed
  pub content : List ℕ
  pub is_message : IsVoucherMessage ov signed
  pub has_content : signed.content ≡ Some content
  pub is_voucher : VoucherOf content voucher

-- it is signed under the identity's anchors, with its own certificates and without revocation lists
pub record IsSignedVoucher (ov : Option (List ℕ)) (identity : Identity) (when : Moment) (content : List ℕ)
    : Type 0 where
  pub signed : Signed
  pub is_message : IsVoucherMessage ov signed
  pub signed_by : SignedBy signed signed.certs identity.anchors None when.time.0 content

-- and its content is this voucher
pub record HasVoucher (ov : Option (List ℕ)) (identity : Identity) (when : Moment) (voucher : Voucher) : Type 0 where
  pub content : List ℕ
  pub is_signed : IsSignedVoucher ov identity when content
  pub is_voucher : VoucherOf content voucher

-- And it is for this device at this moment, byte for byte of its serial number, and pins a certificate. Whether it
-- wishes for revocation checks is its own member.
pub record VoucherOk (ov : Option (List ℕ)) (identity : Identity) (when : Moment) (voucher : Voucher) : Type 0 where
  pub has_voucher : HasVoucher ov identity when voucher
  pub fits : VouchesFor voucher identity.serial when
  pub cert : Certificate
  pub pins : CertOf voucher.pinned cert

-- ---- the owner certificate

-- where it is there, it is signed data, of whatever type
abbrev pub IsOwner : Option (List ℕ) → Option Signed → Type 0
IsOwner None None = ⊤
IsOwner None (Some signed) = ⊥
IsOwner (Some bytes) None = ⊥
IsOwner (Some bytes) (Some signed) = InfoOf bytes (SignedData signed)

abbrev pub certs_where : Option Signed → List (List ℕ)
certs_where None = []
certs_where (Some signed) = signed.certs

abbrev pub crls_where : Option Signed → List (List ℕ)
crls_where None = []
crls_where (Some signed) = signed.crls

-- ---- the conveyed information

-- the two types of conveyed information that is read
abbrev pub IsInformation : List ℕ → Type 0
IsInformation kind = (kind ≡ conveyed_json_oid) ⊎ (kind ≡ data_oid)

-- the revocation lists, where the voucher wishes for revocation checks
abbrev pub asked : Bool → List (List ℕ) → Option (List (List ℕ))
asked true crls = Some crls
asked false crls = None

-- it is signed under the pinned certificate, with the certificates and, where they are asked, the revocation lists of
-- itself and of the owner certificate
abbrev pub IsSignedInformation : Signed → Option Signed → Voucher → Moment → List ℕ → Type 0
IsSignedInformation signed owner voucher when content =
    SignedBy signed (signed.certs ++ certs_where owner) (voucher.pinned ∷ [])
    (asked voucher.revocation (signed.crls ++ crls_where owner)) when.time.0 content

-- ---- all of it

-- the artifacts are lists of bytes
pub record AreBytes (evidence : Evidence) : Type 0 where
  pub ci : AreOctets evidence.ci
  pub oc : IfSome evidence.oc AreOctets
  pub ov : IfSome evidence.ov AreOctets

-- the evidence is this conveyed information, whose owner the device's maker vouches for
pub record Authenticated (identity : Identity) (when : Moment) (evidence : Evidence) (information : Conveyed)
    : Type 0 where
  pub voucher : Voucher
  pub owner : Option Signed
  pub signed : Signed
  pub content : List ℕ
  pub voucher_ok : VoucherOk evidence.ov identity when voucher
  pub is_owner : IsOwner evidence.oc owner
  pub is_signed_data : InfoOf evidence.ci (SignedData signed)
  pub is_information : IsInformation signed.kind
  pub signed_by : IsSignedInformation signed owner voucher when content
  pub conveys : ConveyedOf content information

abbrev pub Authorised : Identity → Moment → Evidence → Onboarding → Type 0
Authorised identity when evidence onboarding =
    Authenticated identity when evidence (conveyed.Onboarding onboarding)
