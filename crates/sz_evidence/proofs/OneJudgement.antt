-- The judgement is one answer.
use Rattle.std.proofs.Common.{◌≡◌, inl, inr, ℕ, List, ◌∷◌, ◌++◌, Some, None, Result, Ok, Err, refl, sym, ap, ◌∙◌, subst}
use Rattle.std.proofs.lemmas.Option.{same_Some}
use Rattle.sz_base.specs.declared.evidence.Evidence.{Evidence}
use Rattle.sz_base.specs.declared.identity.Identity.{Identity}
use Rattle.sz_base.specs.declared.moment.Moment.{Moment}
use Rattle.sz_base.specs.declared.target.Target.{Target}
use Rattle.sz_cms.proofs.Whole.{one_message}
use Rattle.sz_cms.specs.Message.{Info, InfoOf, Plain, Signed, SignedData}
use Rattle.sz_artifacts.specs.Conveyed.{ConveyedOf}
use Rattle.sz_artifacts.specs.declared.conveyed.Conveyed.{Conveyed}
use Rattle.sz_artifacts.specs.declared.conveyed.Conveyed.TheVariants as conveyed
use Rattle.sz_evidence.specs.Authorised.{Authenticated, IsInformation, IsSignedInformation}
use Rattle.sz_evidence.specs.Judgement.{Applies, First, information_rules, IsRefusedFor, IsUnsigned, Judgement, kind_in, kind_reason, OtherKind, owner_rules, rules_of, voucher_rules}
use Rattle.sz_evidence.specs.declared.judgement.Judged.{Judged}
use Rattle.sz_evidence.specs.declared.judgement.Judged.TheVariants as judged
use Rattle.sz_evidence.specs.declared.reason.Artifact.TheVariants as artifact
use Rattle.sz_evidence.specs.declared.reason.Reason.{Reason}
use Rattle.sz_evidence.proofs.OneReason.{one_reason}
use Rattle.sz_evidence.proofs.OneValue.{not_both_kinds, one_conveyed_of, one_signed_data}
use Rattle.sz_evidence.proofs.Refuted.{reads, right_information, right_owner, right_redirect, right_voucher, signed_here}
use Rattle.sz_evidence.proofs.Rules.{NoneApplies, none_first, none_in_both}

-- information is of one of the two types that are read
pub information_kind : (kind : List ℕ) → IsInformation kind → kind_reason kind ≡ None
information_kind kind (inl is) = subst (λ (k : List ℕ). kind_reason k ≡ None) (sym is) refl
information_kind kind (inr is) = subst (λ (k : List ℕ). kind_reason k ≡ None) (sym is) refl

pub right_kind : (info : Info) → IsInformation (kind_in info) → Applies (OtherKind info) → ⊥
right_kind info is (found, other) =
    let apart : None ≡ Some found = sym (information_kind (kind_in info) is) ∙ other in
    cc

module _ (identity : Identity) (when : Moment) (evidence : Evidence) where
  -- all rules pass by what is authenticated
  pub none_applies : (information : Conveyed) (is : Authenticated identity when evidence information) →
      NoneApplies (OtherKind (SignedData is.signed) ∷ rules_of identity when evidence (SignedData is.signed))
  none_applies information is = (
    right_kind (SignedData is.signed) is.is_information,
    none_in_both (voucher_rules identity when evidence.ov) (owner_rules evidence.oc ++ information_rules identity when evidence is.signed)
        (right_voucher identity when evidence.ov is.voucher is.voucher_ok)
        (none_in_both (owner_rules evidence.oc) (information_rules identity when evidence is.signed) (right_owner evidence.oc is.owner is.is_owner)
        (right_information identity when evidence is.signed is.voucher is.owner is.voucher_ok.has_voucher is.is_owner is.content information is.signed_by
        is.conveys)),
  )

  refused_none : (info : Info) → InfoOf evidence.ci info → NoneApplies (OtherKind info ∷ rules_of identity when evidence info) → (found : Reason) →
      IsRefusedFor identity when evidence found → ⊥
  refused_none info of_info none found (inl unread) = reads artifact.Conveyed evidence.ci info of_info (found, unread)
  refused_none info of_info none found (inr (other, of_other, first)) =
      let e = one_message evidence.ci other info of_other of_info in
      none_first (OtherKind info ∷ rules_of identity when evidence info) found none
      (subst (λ (one : Info). First (OtherKind one ∷ rules_of identity when evidence one) found) e first)

  authenticated_refused : (information : Conveyed) (found : Reason) → Authenticated identity when evidence information →
      IsRefusedFor identity when evidence found → ⊥
  authenticated_refused information found is refused =
      refused_none (SignedData is.signed) is.is_signed_data (none_applies information is) found refused

  unsigned_refused : (targets : List Target) (found : Reason) → IsUnsigned evidence.ci targets → IsRefusedFor identity when evidence found → ⊥
  unsigned_refused targets found is refused =
      refused_none (Plain is.kind is.content) is.is_plain
      (right_kind (Plain is.kind is.content) is.is_information, right_redirect is.content targets is.conveys) found refused

  pub unsigned_authenticated : (kind content : List ℕ) (information : Conveyed) → InfoOf evidence.ci (Plain kind content) →
      Authenticated identity when evidence information → ⊥
  unsigned_authenticated kind content information plain is = not_both_kinds evidence.ci kind content is.signed plain is.is_signed_data

  -- what is authenticated is one piece of information
  pub one_information : (information other : Conveyed) → Authenticated identity when evidence information →
      Authenticated identity when evidence other → information ≡ other
  one_information information other is same =
      let e = one_signed_data evidence.ci same.signed is.signed same.is_signed_data is.is_signed_data in
      let by = subst (λ (signed : Signed). IsSignedInformation signed same.owner same.voucher when same.content) e same.signed_by in
      let there = signed_here identity when evidence is.signed is.voucher is.owner is.voucher_ok.has_voucher is.is_owner same.voucher same.owner
      same.content same.voucher_ok.has_voucher same.is_owner by in
      let f = same_Some same.content is.content (sym there.has_content ∙ is.signed_by.has_content) in
      one_conveyed_of is.content information other is.conveys (subst (λ (content : List ℕ). ConveyedOf content other) f same.conveys)

  pub one_unsigned : (targets others : List Target) → IsUnsigned evidence.ci targets → IsUnsigned evidence.ci others → targets ≡ others
  one_unsigned targets others is same =
      let both : Plain is.kind is.content ≡ Plain same.kind same.content =
      one_message evidence.ci (Plain is.kind is.content) (Plain same.kind same.content) is.is_plain same.is_plain in
      let e : same.content ≡ is.content = cc in
      let f : conveyed.Redirect targets ≡ conveyed.Redirect others =
      one_conveyed_of is.content (conveyed.Redirect targets) (conveyed.Redirect others) is.conveys
      (subst (λ (content : List ℕ). ConveyedOf content (conveyed.Redirect others)) e same.conveys) in
      cc

  one_judged : (one other : Judged) → Judgement identity when evidence (Ok one) → Judgement identity when evidence (Ok other) → one ≡ other
  one_judged (judged.Unsigned targets) (judged.Unsigned others) is same = ap judged.Unsigned (one_unsigned targets others is same)
  one_judged (judged.Unsigned targets) (judged.Redirect others) is same =
      absurd (unsigned_authenticated is.kind is.content (conveyed.Redirect others) is.is_plain same)
  one_judged (judged.Unsigned targets) (judged.Onboarding other) is same =
      absurd (unsigned_authenticated is.kind is.content (conveyed.Onboarding other) is.is_plain same)
  one_judged (judged.Redirect targets) (judged.Unsigned others) is same =
      absurd (unsigned_authenticated same.kind same.content (conveyed.Redirect targets) same.is_plain is)
  one_judged (judged.Redirect targets) (judged.Redirect others) is same =
      let e : conveyed.Redirect targets ≡ conveyed.Redirect others = one_information (conveyed.Redirect targets) (conveyed.Redirect others) is same in
      let f : targets ≡ others = cc in
      ap judged.Redirect f
  one_judged (judged.Redirect targets) (judged.Onboarding other) is same =
      let e : conveyed.Redirect targets ≡ conveyed.Onboarding other = one_information (conveyed.Redirect targets) (conveyed.Onboarding other) is same in
      cc
  one_judged (judged.Onboarding onboarding) (judged.Unsigned others) is same =
      absurd (unsigned_authenticated same.kind same.content (conveyed.Onboarding onboarding) same.is_plain is)
  one_judged (judged.Onboarding onboarding) (judged.Redirect others) is same =
      let e : conveyed.Onboarding onboarding ≡ conveyed.Redirect others =
      one_information (conveyed.Onboarding onboarding) (conveyed.Redirect others) is same in
      cc
  one_judged (judged.Onboarding onboarding) (judged.Onboarding other) is same =
      let e : conveyed.Onboarding onboarding ≡ conveyed.Onboarding other =
      one_information (conveyed.Onboarding onboarding) (conveyed.Onboarding other) is same in
      let f : onboarding ≡ other = cc in
      ap judged.Onboarding f

  judged_refused : (one : Judged) (found : Reason) → Judgement identity when evidence (Ok one) → IsRefusedFor identity when evidence found → ⊥
  judged_refused (judged.Unsigned targets) found is refused = unsigned_refused targets found is refused
  judged_refused (judged.Redirect targets) found is refused = authenticated_refused (conveyed.Redirect targets) found is refused
  judged_refused (judged.Onboarding onboarding) found is refused = authenticated_refused (conveyed.Onboarding onboarding) found is refused

  pub one_judgement : (answer other : Result Judged Reason) → Judgement identity when evidence answer → Judgement identity when evidence other →
      answer ≡ other
  one_judgement (Ok one) (Ok other) is same =
      let e = one_judged one other is same in
      cc
  one_judgement (Ok one) (Err found) is refused = absurd (judged_refused one found is refused)
  one_judgement (Err found) (Ok one) refused is = absurd (judged_refused one found is refused)
  one_judgement (Err found) (Err other) is same =
      let e = one_reason identity when evidence found other is same in
      cc
