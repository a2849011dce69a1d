-- Each rule gives one reason, and so do the tables.
use Rattle.std.proofs.Common.{◌≡◌, inl, inr, ℕ, List, [], ◌∷◌, ◌++◌, Option, None, Err, sym, ap, ◌∙◌, subst}
use Rattle.std.proofs.lemmas.Option.{same_Some}
use Rattle.serde_json.specs.Data.{Data}
use Rattle.sz_base.specs.declared.evidence.Evidence.{Evidence}
use Rattle.sz_base.specs.declared.identity.Identity.{Identity}
use Rattle.sz_base.specs.declared.moment.Moment.{Moment}
use Rattle.sz_chain.proofs.Refusals.{one_fault}
use Rattle.sz_chain.specs.SignedBy.{IsUnsignedFor}
use Rattle.sz_chain.specs.declared.fault.ChainFault.{ChainFault}
use Rattle.sz_cms.proofs.Whole.{one_message}
use Rattle.sz_cms.specs.Message.{Info, Plain, Signed, SignedData}
use Rattle.sz_artifacts.specs.Conveyed.{conveyed_fault}
use Rattle.sz_json.specs.declared.name.Name.{Name}
use Rattle.sz_artifacts.specs.Vouching.{judgement}
use Rattle.sz_artifacts.specs.Voucher.{voucher_fault}
use Rattle.sz_artifacts.specs.declared.voucher.Voucher.{Voucher}
use Rattle.sz_evidence.specs.Authorised.{asked, certs_where, crls_where}
use Rattle.sz_evidence.specs.Judgement.{AtFault, First, InformationAtFault, information_rules, IsRefusedFor, OtherKind, owner_rules, rules_of, UnfitVoucher, Unreadable, UnreadableWhere, UnsignedInformation, UnsignedVoucher, VoucherAtFault, voucher_reason, voucher_rules}
use Rattle.sz_evidence.specs.declared.reason.Artifact.{Artifact}
use Rattle.sz_evidence.specs.declared.reason.Artifact.TheVariants as artifact
use Rattle.sz_evidence.specs.declared.reason.Reason.TheVariants as reason
use Rattle.sz_evidence.proofs.OneValue.{one_content, one_has_voucher, one_name, one_voucher_message}
use Rattle.sz_evidence.proofs.Refuted.{reads, refused_here, signed_here}
use Rattle.sz_evidence.proofs.Rules.{EachGivesOne, each_in_both, first_gives_one, GivesOne}

unreadable_one : (artifact : Artifact) (bytes : List ℕ) → GivesOne (Unreadable artifact bytes)
unreadable_one artifact bytes found other is same = same_Some found other (sym is ∙ same)

unreadable_where_one : (artifact : Artifact) (where_there : Option (List ℕ)) → GivesOne (UnreadableWhere artifact where_there)
unreadable_where_one artifact where_there found other (bytes, there, is) (others, other_there, same) =
    let e = same_Some others bytes (sym other_there ∙ there) in
    unreadable_one artifact bytes found other is (subst (λ (one : List ℕ). Unreadable artifact one other) e same)

at_fault_one : (first_fault : Data → Option Name) (content : List ℕ) → GivesOne (AtFault first_fault content)
at_fault_one first_fault content found other (name, is, gives) (names, same, gives_other) =
    gives ∙ ap reason.Member (one_name first_fault content name names is same) ∙ sym gives_other

other_kind_one : (info : Info) → GivesOne (OtherKind info)
other_kind_one info found other is same = same_Some found other (sym is ∙ same)

unsigned_voucher_one : (identity : Identity) (when : Moment) (ov : Option (List ℕ)) → GivesOne (UnsignedVoucher identity when ov)
unsigned_voucher_one identity when ov found other is same =
    let e = one_voucher_message ov same.signed is.signed same.is_message is.is_message in
    let refused = subst (λ (signed : Signed). IsUnsignedFor signed signed.certs identity.anchors None when.time.0 same.refuses.0) e same.refuses.1 in
    let f = one_fault is.signed is.signed.certs identity.anchors None when.time.0 is.refuses.0 same.refuses.0 is.refuses.1 refused in
    is.refuses.2 ∙ ap (λ (fault : ChainFault). reason.NoChain artifact.Voucher fault) f ∙ sym same.refuses.2

voucher_at_fault_one : (identity : Identity) (when : Moment) (ov : Option (List ℕ)) → GivesOne (VoucherAtFault identity when ov)
voucher_at_fault_one identity when ov found other is same =
    let e = one_content ov identity when same.content is.content same.is_signed is.is_signed in
    at_fault_one voucher_fault is.content found other is.at_fault (subst (λ (content : List ℕ). AtFault voucher_fault content other) e same.at_fault)

unfit_one : (identity : Identity) (when : Moment) (ov : Option (List ℕ)) → GivesOne (UnfitVoucher identity when ov)
unfit_one identity when ov found other is same =
    let e = one_has_voucher ov identity when is.voucher same.voucher is.has_voucher same.has_voucher in
    let both : Err is.unfit.0 ≡ Err same.unfit.0 = sym is.unfit.1 ∙ ap (λ (v : Voucher). judgement v identity.serial when) e ∙ same.unfit.1 in
    let f : is.unfit.0 ≡ same.unfit.0 = cc in
    is.unfit.2 ∙ ap voucher_reason f ∙ sym same.unfit.2

voucher_one : (identity : Identity) (when : Moment) (ov : Option (List ℕ)) → EachGivesOne (voucher_rules identity when ov)
voucher_one identity when ov = (
  λ found other is same. is.1 ∙ sym same.1,
  (
    unreadable_where_one artifact.Voucher ov,
    (
      λ found other is same. is.1 ∙ sym same.1,
      (
        unsigned_voucher_one identity when ov,
        (
          voucher_at_fault_one identity when ov,
          (unfit_one identity when ov, (λ found other is same. is.pins_none.1 ∙ sym same.pins_none.1, tt)),
        ),
      ),
    ),
  ),
)

owner_one : (oc : Option (List ℕ)) → EachGivesOne (owner_rules oc)
owner_one oc = (unreadable_where_one artifact.Owner oc, (λ found other is same. is.1 ∙ sym same.1, tt))

unsigned_information_one : (identity : Identity) (when : Moment) (evidence : Evidence) (signed : Signed) →
    GivesOne (UnsignedInformation identity when evidence signed)
unsigned_information_one identity when evidence signed found other is same =
    let refused = refused_here identity when evidence signed is.voucher is.owner is.has_voucher is.is_owner other same in
    let f = one_fault signed (signed.certs ++ certs_where is.owner) (is.voucher.pinned ∷ []) (asked is.voucher.revocation (signed.crls ++ crls_where is.owner))
    when.time.0 is.refuses.0 same.refuses.0 is.refuses.1 refused in
    is.refuses.2 ∙ ap (λ (fault : ChainFault). reason.NoChain artifact.Conveyed fault) f ∙ sym same.refuses.2

information_at_fault_one : (identity : Identity) (when : Moment) (evidence : Evidence) (signed : Signed) →
    GivesOne (InformationAtFault identity when evidence signed)
information_at_fault_one identity when evidence signed found other is same =
    let there = signed_here identity when evidence signed is.voucher is.owner is.has_voucher is.is_owner same.voucher same.owner same.content
    same.has_voucher same.is_owner same.signed_by in
    let e = same_Some same.content is.content (sym there.has_content ∙ is.signed_by.has_content) in
    at_fault_one conveyed_fault is.content found other is.at_fault (subst (λ (content : List ℕ). AtFault conveyed_fault content other) e same.at_fault)

rules_one : (identity : Identity) (when : Moment) (evidence : Evidence) (info : Info) → EachGivesOne (rules_of identity when evidence info)
rules_one identity when evidence (Plain kind content) =
    (λ found other is same. is.1 ∙ sym same.1, (at_fault_one conveyed_fault content, tt))
rules_one identity when evidence (SignedData signed) =
    each_in_both (voucher_rules identity when evidence.ov) (owner_rules evidence.oc ++ information_rules identity when evidence signed)
    (voucher_one identity when evidence.ov)
    (each_in_both (owner_rules evidence.oc) (information_rules identity when evidence signed) (owner_one evidence.oc)
    (unsigned_information_one identity when evidence signed, (information_at_fault_one identity when evidence signed, tt)))

pub one_reason : (identity : Identity) (when : Moment) (evidence : Evidence) → GivesOne (IsRefusedFor identity when evidence)
one_reason identity when evidence found other (inl is) (inl same) = unreadable_one artifact.Conveyed evidence.ci found other is same
one_reason identity when evidence found other (inl is) (inr (info, of_info, first)) =
    absurd (reads artifact.Conveyed evidence.ci info of_info (found, is))
one_reason identity when evidence found other (inr (info, of_info, first)) (inl same) =
    absurd (reads artifact.Conveyed evidence.ci info of_info (other, same))
one_reason identity when evidence found other (inr (info, of_info, first)) (inr (others, of_other, second)) =
    let e = one_message evidence.ci others info of_other of_info in
    first_gives_one (OtherKind info ∷ rules_of identity when evidence info) (other_kind_one info, rules_one identity when evidence info) found other first
    (subst (λ (one : Info). First (OtherKind one ∷ rules_of identity when evidence one) other) e second)
