-- Where something stands, the rules that look for its absence do not apply.
use Rattle.std.proofs.Common.{◌≡◌, ℕ, true, false, List, [], ◌∷◌, ◌++◌, Option, Some, None, Ok, Err, refl, sym, ap, ◌∙◌, subst}
use Rattle.std.specs.Prelude.{option_map}
use Rattle.std.proofs.lemmas.Option.{same_Some}
use Rattle.sz_base.specs.declared.evidence.Evidence.{Evidence}
use Rattle.sz_base.specs.declared.identity.Identity.{Identity}
use Rattle.sz_base.specs.declared.moment.Moment.{Moment}
use Rattle.sz_base.specs.declared.target.Target.{Target}
use Rattle.sz_chain.proofs.Refusals.{not_both}
use Rattle.sz_chain.specs.SignedBy.{IsUnsignedFor}
use Rattle.sz_cms.proofs.Whole.{info_clear, one_message}
use Rattle.sz_cms.specs.Message.{Info, InfoOf, Signed, SignedData}
use Rattle.sz_cms.specs.MessageFault.{Fault, info_fault}
use Rattle.sz_artifacts.specs.Conveyed.{ConveyedOf, has_onboarding}
use Rattle.sz_artifacts.specs.declared.conveyed.Conveyed.{Conveyed}
use Rattle.sz_artifacts.specs.declared.conveyed.Conveyed.TheVariants as conveyed
use Rattle.sz_artifacts.proofs.Fitting.{fitting}
use Rattle.sz_artifacts.specs.Vouching.{VouchesFor, judgement}
use Rattle.sz_artifacts.specs.Voucher.{VoucherOf}
use Rattle.sz_artifacts.specs.declared.voucher.Voucher.{Voucher}
use Rattle.sz_x509.specs.Certificate.{Certificate, CertOf}
use Rattle.sz_evidence.specs.Authorised.{asked, certs_where, crls_where, HasVoucher, IsOwner, IsSignedInformation, IsSignedVoucher, IsVoucherMessage, VoucherOk}
use Rattle.sz_evidence.specs.Judgement.{Applies, InformationAtFault, information_rules, IsVoucherInfo, message_reason, NoVoucher, OtherVoucher, owner_rules, PinsNone, PlainOwner, plain_rules, UnfitVoucher, Unreadable, UnreadableWhere, UnsignedInformation, UnsignedVoucher, VoucherAtFault, voucher_rules}
use Rattle.sz_evidence.specs.declared.reason.Artifact.{Artifact}
use Rattle.sz_evidence.specs.declared.reason.Artifact.TheVariants as artifact
use Rattle.sz_evidence.specs.declared.reason.Reason.{Reason}
use Rattle.sz_evidence.proofs.OneValue.{conveyed_faultless, not_both_kinds, one_content, one_has_voucher, one_owner, one_value, one_voucher_message, voucher_faultless}
use Rattle.sz_evidence.proofs.Rules.{NoneApplies}

no_reason : (artifact : Artifact) (fault : Option Fault) (found : Reason) → fault ≡ None → option_map (message_reason artifact) fault ≡ Some found → ⊥
no_reason artifact None found none is = cc
no_reason artifact (Some fault) found none is = cc

-- what reads is not unreadable
pub reads : (artifact : Artifact) (bytes : List ℕ) (info : Info) → InfoOf bytes info → Applies (Unreadable artifact bytes) → ⊥
reads artifact bytes info is (found, unread) = no_reason artifact (info_fault bytes) found (info_clear bytes info is).no_fault unread

pub reads_where : (artifact : Artifact) (where_there : Option (List ℕ)) (bytes : List ℕ) (info : Info) → where_there ≡ Some bytes → InfoOf bytes info →
    Applies (UnreadableWhere artifact where_there) → ⊥
reads_where artifact where_there bytes info there is (found, (other, other_there, unread)) =
    let e = same_Some other bytes (sym other_there ∙ there) in
    reads artifact bytes info is (found, subst (λ (one : List ℕ). Unreadable artifact one found) e unread)

pub is_there : (ov : Option (List ℕ)) (bytes : List ℕ) → ov ≡ Some bytes → Applies (NoVoucher ov) → ⊥
is_there ov bytes there (found, (none, gives)) =
    let apart : None ≡ Some bytes = sym none ∙ there in
    cc

-- ---- the voucher

pub is_right_message : (ov : Option (List ℕ)) (signed : Signed) → IsVoucherMessage ov signed → Applies (OtherVoucher ov) → ⊥
is_right_message ov signed is (found, ((bytes, info, there, of_info, other), gives)) =
    let e = same_Some bytes is.bytes (sym there ∙ is.is_there) in
    let same = one_message is.bytes (SignedData signed) info is.is_signed_data (subst (λ (one : List ℕ). InfoOf one info) e of_info) in
    other (subst (λ (one : Info). IsVoucherInfo one) same is.is_voucher)

pub is_signed_voucher : (identity : Identity) (when : Moment) (ov : Option (List ℕ)) (content : List ℕ) → IsSignedVoucher ov identity when content →
    Applies (UnsignedVoucher identity when ov) → ⊥
is_signed_voucher identity when ov content is (found, refused) =
    let e = one_voucher_message ov refused.signed is.signed refused.is_message is.is_message in
    not_both is.signed is.signed.certs identity.anchors None when.time.0 refused.refuses.0 content
    (subst (λ (signed : Signed). IsUnsignedFor signed signed.certs identity.anchors None when.time.0 refused.refuses.0) e refused.refuses.1) is.signed_by

pub has_members : (identity : Identity) (when : Moment) (ov : Option (List ℕ)) (voucher : Voucher) → HasVoucher ov identity when voucher →
    Applies (VoucherAtFault identity when ov) → ⊥
has_members identity when ov voucher is (found, refused) =
    let e = one_content ov identity when is.content refused.content is.is_signed refused.is_signed in
    voucher_faultless refused.content voucher refused.at_fault.0 (subst (λ (content : List ℕ). VoucherOf content voucher) e is.is_voucher)
    refused.at_fault.1

pub is_fit : (identity : Identity) (when : Moment) (ov : Option (List ℕ)) (voucher : Voucher) → HasVoucher ov identity when voucher →
    VouchesFor voucher identity.serial when → Applies (UnfitVoucher identity when ov) → ⊥
is_fit identity when ov voucher is fits (found, refused) =
    let e = one_has_voucher ov identity when refused.voucher voucher refused.has_voucher is in
    let apart : Ok tt ≡ Err refused.unfit.0 = sym (fitting voucher identity.serial when fits) ∙ ap (λ (v : Voucher). judgement v identity.serial when) (sym e)
    ∙ refused.unfit.1 in
    cc

pub does_pin : (identity : Identity) (when : Moment) (ov : Option (List ℕ)) (voucher : Voucher) (cert : Certificate) →
    HasVoucher ov identity when voucher → CertOf voucher.pinned cert → Applies (PinsNone identity when ov) → ⊥
does_pin identity when ov voucher cert is pins (found, refused) =
    let e = one_has_voucher ov identity when voucher refused.voucher is refused.has_voucher in
    refused.pins_none.0 cert (subst (λ (v : Voucher). CertOf v.pinned cert) e pins)

pub right_voucher : (identity : Identity) (when : Moment) (ov : Option (List ℕ)) (voucher : Voucher) → VoucherOk ov identity when voucher →
    NoneApplies (voucher_rules identity when ov)
right_voucher identity when ov voucher ok =
    let has = ok.has_voucher in
    let message = has.is_signed.is_message in (
      is_there ov message.bytes message.is_there,
      (
        reads_where artifact.Voucher ov message.bytes (SignedData has.is_signed.signed) message.is_there message.is_signed_data,
        (
          is_right_message ov has.is_signed.signed message,
          (
            is_signed_voucher identity when ov has.content has.is_signed,
            (
              has_members identity when ov voucher has,
              (is_fit identity when ov voucher has ok.fits, (does_pin identity when ov voucher ok.cert has ok.pins, tt)),
            ),
          ),
        ),
      ),
    )

-- ---- the owner certificate

owner_reads : (oc : Option (List ℕ)) (owner : Option Signed) → IsOwner oc owner → Applies (UnreadableWhere artifact.Owner oc) → ⊥
owner_reads None owner is (found, (bytes, there, unread)) =
    let apart : None ≡ Some bytes = there in
    cc
owner_reads (Some bytes) None is unread = absurd is
owner_reads (Some bytes) (Some signed) is unread = reads_where artifact.Owner (Some bytes) bytes (SignedData signed) refl is unread

owner_signed : (oc : Option (List ℕ)) (owner : Option Signed) → IsOwner oc owner → Applies (PlainOwner oc) → ⊥
owner_signed None owner is (found, ((bytes, kind, content, there, plain), gives)) =
    let apart : None ≡ Some bytes = there in
    cc
owner_signed (Some one) None is plain = absurd is
owner_signed (Some one) (Some signed) is (found, ((bytes, kind, content, there, plain), gives)) =
    let e = same_Some one bytes there in
    not_both_kinds bytes kind content signed plain (subst (λ (b : List ℕ). InfoOf b (SignedData signed)) e is)

pub right_owner : (oc : Option (List ℕ)) (owner : Option Signed) → IsOwner oc owner → NoneApplies (owner_rules oc)
right_owner oc owner is = (owner_reads oc owner is, (owner_signed oc owner is, tt))

-- ---- the conveyed information

module _ (identity : Identity) (when : Moment) (evidence : Evidence) (signed : Signed) (voucher : Voucher) (owner : Option Signed)
    (has_voucher : HasVoucher evidence.ov identity when voucher) (is_owner : IsOwner evidence.oc owner) where
  pub refused_here : (found : Reason) (refused : UnsignedInformation identity when evidence signed found) →
      IsUnsignedFor signed (signed.certs ++ certs_where owner) (voucher.pinned ∷ []) (asked voucher.revocation (signed.crls ++ crls_where owner)) when.time.0
      refused.refuses.0
  refused_here found refused =
      let e = one_has_voucher evidence.ov identity when refused.voucher voucher refused.has_voucher has_voucher in
      let f = one_owner evidence.oc refused.owner owner refused.is_owner is_owner in
      let by_voucher = subst (λ (v : Voucher). IsUnsignedFor signed (signed.certs ++ certs_where refused.owner) (v.pinned ∷ [])
      (asked v.revocation (signed.crls ++ crls_where refused.owner)) when.time.0 refused.refuses.0) e refused.refuses.1 in
      subst (λ (o : Option Signed). IsUnsignedFor signed (signed.certs ++ certs_where o) (voucher.pinned ∷ [])
      (asked voucher.revocation (signed.crls ++ crls_where o)) when.time.0 refused.refuses.0) f by_voucher

  pub signed_here : (other : Voucher) (other_owner : Option Signed) (content : List ℕ) → HasVoucher evidence.ov identity when other →
      IsOwner evidence.oc other_owner → IsSignedInformation signed other_owner other when content → IsSignedInformation signed owner voucher when content
  signed_here other other_owner content has is by =
      let e = one_has_voucher evidence.ov identity when other voucher has has_voucher in
      let f = one_owner evidence.oc other_owner owner is is_owner in
      let by_voucher = subst (λ (v : Voucher). IsSignedInformation signed other_owner v when content) e by in
      subst (λ (o : Option Signed). IsSignedInformation signed o voucher when content) f by_voucher

  pub is_signed_information : (content : List ℕ) → IsSignedInformation signed owner voucher when content →
      Applies (UnsignedInformation identity when evidence signed) → ⊥
  is_signed_information content by (found, refused) =
      not_both signed (signed.certs ++ certs_where owner) (voucher.pinned ∷ []) (asked voucher.revocation (signed.crls ++ crls_where owner)) when.time.0
      refused.refuses.0 content (refused_here found refused) by

  has_parts : (content : List ℕ) (information : Conveyed) → IsSignedInformation signed owner voucher when content → ConveyedOf content information →
      Applies (InformationAtFault identity when evidence signed) → ⊥
  has_parts content information by is (found, refused) =
      let there = signed_here refused.voucher refused.owner refused.content refused.has_voucher refused.is_owner refused.signed_by in
      let e = same_Some content refused.content (sym by.has_content ∙ there.has_content) in
      conveyed_faultless refused.content information refused.at_fault.0 (subst (λ (c : List ℕ). ConveyedOf c information) e is) refused.at_fault.1

  pub right_information : (content : List ℕ) (information : Conveyed) → IsSignedInformation signed owner voucher when content →
      ConveyedOf content information → NoneApplies (information_rules identity when evidence signed)
  right_information content information by is = (is_signed_information content by, (has_parts content information by is, tt))

-- ---- conveyed information that is not signed

pub right_redirect : (content : List ℕ) (targets : List Target) → ConveyedOf content (conveyed.Redirect targets) → NoneApplies (plain_rules content)
right_redirect content targets is = (
  λ (found, ((value, is_value, onboarding), gives)).
      let e = one_value content value is.0 is_value.json is.1.json in
      let apart : Some true ≡ Some false = sym onboarding ∙ ap has_onboarding e ∙ is.2.0 in
      cc,
  (λ (found, (name, refused, gives)). conveyed_faultless content (conveyed.Redirect targets) name is refused, tt),
)
