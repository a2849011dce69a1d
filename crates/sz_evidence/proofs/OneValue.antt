-- What the evidence is read as is one value.
use Rattle.std.proofs.Common.{◌≡◌, inl, inr, ℕ, List, Option, Some, None, refl, sym, ap, ◌∙◌, subst}
use Rattle.std.proofs.lemmas.Option.{same_Some}
use Rattle.serde_json.specs.Data.{Data}
use Rattle.sz_base.specs.declared.identity.Identity.{Identity}
use Rattle.sz_base.specs.declared.moment.Moment.{Moment}
use Rattle.sz_cms.proofs.Whole.{one_message}
use Rattle.sz_cms.specs.Message.{InfoOf, Plain, Signed, SignedData}
use Rattle.sz_artifacts.proofs.Faultless.{conveyed_fault_none}
use Rattle.sz_artifacts.proofs.OneInformation.{one_conveyed}
use Rattle.sz_artifacts.specs.Conveyed.{conveyed_fault, ConveyedOf, IsConveyed}
use Rattle.sz_artifacts.specs.declared.conveyed.Conveyed.{Conveyed}
use Rattle.sz_json.specs.Bounded.{IsBoundedJson}
use Rattle.sz_json.specs.Fault as json
use Rattle.sz_json.specs.Json.{IsJson}
use Rattle.sz_json.specs.declared.name.Name.{Name}
use Rattle.sz_artifacts.proofs.OneVoucher.{one_voucher, voucher_fault_none}
use Rattle.sz_artifacts.specs.Vouching.{VouchesFor}
use Rattle.sz_artifacts.specs.Voucher.{IsVoucher, voucher_fault, VoucherOf}
use Rattle.sz_artifacts.specs.declared.voucher.Voucher.{Voucher}
use Rattle.sz_evidence.specs.Authorised.{CarriesVoucher, HasVoucher, IsOwner, IsSignedVoucher, IsVoucherMessage, VoucherOk}

pub one_value : (bytes : List ℕ) (value other : Data) → IsJson bytes value → IsJson bytes other → value ≡ other
one_value bytes value other is same = same_Some value other (sym is.1 ∙ same.1)

-- ---- faults of texts

pub one_name : (first_fault : Data → Option Name) (bytes : List ℕ) (name other : Name) → json.HasTextFault first_fault bytes name →
    json.HasTextFault first_fault bytes other → name ≡ other
one_name first_fault bytes name other (inl is) (inl same) = is.0 ∙ sym same.0
one_name first_fault bytes name other (inl is) (inr same) = absurd (is.1 same.0 same.1)
one_name first_fault bytes name other (inr is) (inl same) = absurd (same.1 is.0 is.1)
one_name first_fault bytes name other (inr is) (inr same) =
    let e = one_value bytes is.0 same.0 is.1.json same.1.json in
    same_Some name other (sym is.2 ∙ ap first_fault e ∙ same.2)

-- a text whose value has no fault is not at fault
pub faultless : (first_fault : Data → Option Name) (bytes : List ℕ) (value : Data) (name : Name) → IsBoundedJson bytes value → first_fault value ≡ None →
    json.HasTextFault first_fault bytes name → ⊥
faultless first_fault bytes value name is none (inl refused) = refused.1 value is
faultless first_fault bytes value name is none (inr refused) =
    let e = one_value bytes value refused.0 is.json refused.1.json in
    let same : first_fault value ≡ Some name = ap first_fault e ∙ refused.2 in
    let apart : None ≡ Some name = sym none ∙ same in
    cc

pub voucher_faultless : (content : List ℕ) (voucher : Voucher) (name : Name) → VoucherOf content voucher → json.HasTextFault voucher_fault content name → ⊥
voucher_faultless content voucher name is refused =
    faultless voucher_fault content is.0 name is.1 (voucher_fault_none is.0 voucher is.2) refused

pub conveyed_faultless : (content : List ℕ) (information : Conveyed) (name : Name) → ConveyedOf content information →
    json.HasTextFault conveyed_fault content name → ⊥
conveyed_faultless content information name is refused =
    faultless conveyed_fault content is.0 name is.1 (conveyed_fault_none is.0 information is.2) refused

-- ---- messages

pub one_signed_data : (bytes : List ℕ) (signed other : Signed) → InfoOf bytes (SignedData signed) → InfoOf bytes (SignedData other) → signed ≡ other
one_signed_data bytes signed other is same =
    let e : SignedData signed ≡ SignedData other = one_message bytes (SignedData signed) (SignedData other) is same in
    cc

pub not_both_kinds : (bytes kind content : List ℕ) (signed : Signed) → InfoOf bytes (Plain kind content) → InfoOf bytes (SignedData signed) → ⊥
not_both_kinds bytes kind content signed is same =
    let e : Plain kind content ≡ SignedData signed = one_message bytes (Plain kind content) (SignedData signed) is same in
    cc

-- ---- the voucher

pub one_voucher_message : (ov : Option (List ℕ)) (signed other : Signed) → IsVoucherMessage ov signed → IsVoucherMessage ov other → signed ≡ other
one_voucher_message ov signed other is same =
    let e = same_Some same.bytes is.bytes (sym same.is_there ∙ is.is_there) in
    one_signed_data is.bytes signed other is.is_signed_data (subst (λ (bytes : List ℕ). InfoOf bytes (SignedData other)) e same.is_signed_data)

pub one_content : (ov : Option (List ℕ)) (identity : Identity) (when : Moment) (content other : List ℕ) → IsSignedVoucher ov identity when content →
    IsSignedVoucher ov identity when other → content ≡ other
one_content ov identity when content other is same =
    let e = one_voucher_message ov is.signed same.signed is.is_message same.is_message in
    same_Some content other (sym is.signed_by.has_content ∙ ap (λ (signed : Signed). signed.content) e ∙ same.signed_by.has_content)

pub one_voucher_of : (content : List ℕ) (voucher other : Voucher) → VoucherOf content voucher → VoucherOf content other → voucher ≡ other
one_voucher_of content voucher other is same =
    let e = one_value content same.0 is.0 same.1.json is.1.json in
    one_voucher is.0 voucher other is.2 (subst (λ (value : Data). IsVoucher value other) e same.2)

pub one_has_voucher : (ov : Option (List ℕ)) (identity : Identity) (when : Moment) (voucher other : Voucher) → HasVoucher ov identity when voucher →
    HasVoucher ov identity when other → voucher ≡ other
one_has_voucher ov identity when voucher other is same =
    let e = one_content ov identity when same.content is.content same.is_signed is.is_signed in
    one_voucher_of is.content voucher other is.is_voucher (subst (λ (content : List ℕ). VoucherOf content other) e same.is_voucher)

-- ---- the owner certificate

pub one_owner : (oc : Option (List ℕ)) (owner other : Option Signed) → IsOwner oc owner → IsOwner oc other → owner ≡ other
one_owner None None None is same = refl
one_owner None None (Some other) is same = absurd same
one_owner None (Some owner) other is same = absurd is
one_owner (Some bytes) None other is same = absurd is
one_owner (Some bytes) (Some owner) None is same = absurd same
one_owner (Some bytes) (Some owner) (Some other) is same = ap Some (one_signed_data bytes owner other is same)

-- ---- the conveyed information

pub one_conveyed_of : (content : List ℕ) (information other : Conveyed) → ConveyedOf content information → ConveyedOf content other → information ≡ other
one_conveyed_of content information other is same =
    let e = one_value content same.0 is.0 same.1.json is.1.json in
    one_conveyed is.0 information other is.2 (subst (λ (value : Data). IsConveyed value other) e same.2)

-- the voucher that is carried is the one that is right
pub carried_voucher : (ov : Option (List ℕ)) (identity : Identity) (when : Moment) (voucher carried : Voucher) → HasVoucher ov identity when voucher →
    CarriesVoucher ov carried → voucher ≡ carried
carried_voucher ov identity when voucher carried is carries =
    let e = one_voucher_message ov carries.signed is.is_signed.signed carries.is_message is.is_signed.is_message in
    let f = same_Some carries.content is.content
    (sym carries.has_content ∙ ap (λ (signed : Signed). signed.content) e ∙ is.is_signed.signed_by.has_content) in
    one_voucher_of is.content voucher carried is.is_voucher (subst (λ (content : List ℕ). VoucherOf content carried) f carries.is_voucher)

pub carried_fits : (ov : Option (List ℕ)) (identity : Identity) (when : Moment) (voucher carried : Voucher) → VoucherOk ov identity when voucher →
    CarriesVoucher ov carried → VouchesFor carried identity.serial when
carried_fits ov identity when voucher carried ok carries =
    let e = carried_voucher ov identity when voucher carried ok.has_voucher carries in
    subst (λ (v : Voucher). VouchesFor v identity.serial when) e ok.fits
