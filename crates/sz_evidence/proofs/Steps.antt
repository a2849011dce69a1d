-- What a step that refuses says of the whole table.
use Rattle.std.proofs.Common.{◌≡◌, inl, inr, ℕ, Bool, true, true≢false, not, Bor, sym, ap, ◌∙◌, List, [], ◌∷◌, ◌++◌, Option, Some, None, Result, IfErr, refl, subst}
use Rattle.std.specs.Prelude.{IsErrAnd}
use Rattle.std.specs.Str.{bytes_eq}
use Rattle.std.proofs.lemmas.Slice.Eq.{bytes_eq-Decides}
use Rattle.std.proofs.lemmas.Option.{same_Some}
use Rattle.std.proofs.lemmas.Result.{err_from_is_err_and}
use Rattle.serde_json.specs.Data.{Data}
use Rattle.sz_base.specs.declared.evidence.Evidence.{Evidence}
use Rattle.sz_base.specs.declared.identity.Identity.{Identity}
use Rattle.sz_base.specs.declared.moment.Moment.{Moment}
use Rattle.sz_chain.specs.SignedBy.{SignedBy}
use Rattle.sz_cms.specs.Message.{Info, InfoOf, Plain, Signed, SignedData}
use Rattle.sz_cms.specs.Kind.{identifier_of}
use Rattle.sz_cms.specs.View.{info_of, signed_of}
use Rattle.sz_cms.specs.declared.info.Info.{Info as TheInfo}
use Rattle.sz_cms.specs.declared.info.Info.TheVariants as the
use Rattle.sz_cms.specs.declared.info.Signed.{Signed as TheSigned}
use Rattle.sz_cms.specs.declared.kind.Kind.{Kind}
use Rattle.sz_artifacts.specs.Conveyed.{conveyed_fault, ConveyedOf, fault_where, has_onboarding, top_fault}
use Rattle.sz_artifacts.specs.declared.conveyed.Conveyed.{Conveyed}
use Rattle.sz_json.specs.Fault.{fault_of, HasTextFault, IsTextFault}
use Rattle.sz_json.specs.Member.{or_fault}
use Rattle.sz_json.specs.declared.name.Name.TheVariants as theName
use Rattle.sz_json.specs.declared.fault.JsonFault.{JsonFault}
use Rattle.sz_json.specs.declared.fault.JsonFault.TheVariants as json
use Rattle.sz_json.specs.declared.name.Name.{Name}
use Rattle.sz_artifacts.specs.Vouching.{VouchesFor}
use Rattle.sz_artifacts.specs.Voucher.{voucher_fault, VoucherOf}
use Rattle.sz_artifacts.specs.declared.voucher.Voucher.{Voucher}
use Rattle.sz_x509.specs.Certificate.{Certificate, CertOf}
use Rattle.sz_evidence.specs.Authorised.{Authenticated, HasVoucher, IsInformation, IsOwner, IsSignedInformation, IsSignedVoucher, IsVoucherMessage, VoucherOk}
use Rattle.sz_evidence.specs.Judgement.{Applies, AtFault, First, information_rules, IsRefusedFor, IsVoucherInfo, IsUnfit, kind_in, message_rules, owner_rules, PinsNoCertificate, PinsNone, plain_rules, PlainOnboarding, RefusesInformation, RefusesVoucher, Rule, rules_of, UnfitVoucher, VoucherAtFault, voucher_rules}
use Rattle.sz_evidence.specs.View.{IsReason, json_refusal}
use Rattle.sz_evidence.specs.declared.judgement.Refusal.{Refusal}
use Rattle.sz_evidence.specs.declared.judgement.Refusal.TheVariants as refusal
use Rattle.sz_evidence.specs.declared.reason.Artifact.TheVariants as artifact
use Rattle.sz_evidence.specs.declared.reason.Reason.{Reason}
use Rattle.sz_evidence.specs.declared.reason.Reason.TheVariants as reason
use Rattle.sz_evidence.proofs.OneJudgement.{right_kind}
use Rattle.sz_evidence.proofs.OneValue.{one_value}
use Rattle.sz_evidence.proofs.Refuted.{has_members, is_fit, is_right_message, is_signed_information, is_signed_voucher, is_there, reads_where, right_owner, right_voucher}
use Rattle.sz_evidence.proofs.Rules.{first_later, first_sooner}

-- a reason by one rule is one by another
pub reason_by : (rule other : Rule) (answer : Refusal) → ((found : Reason) → rule found → other found) → IsReason rule answer → IsReason other answer
reason_by rule other (refusal.Reason found) gives is = gives found is
reason_by rule other refusal.OutOfMemory gives is = tt

-- an answer that is this reason
pub reason_is : (rule : Rule) (answer : Refusal) (found : Reason) → answer ≡ refusal.Reason found → rule found → IsReason rule answer
reason_is rule answer found is gives = subst (IsReason rule) (sym is) gives

-- what the exit of a call returns
pub exit : {T : Type 0} (answer : Result T Refusal) (other : Refusal) (P : Refusal → Type 0) → IsErrAnd answer (λ found. found ≡ other) → P other →
    IfErr answer P
exit answer other P is h =
    let p = err_from_is_err_and answer is in
    rw (p.1, p.2) h

-- a text at fault is a member at fault
pub member_by : (first_fault : Data → Option Name) (content : List ℕ) (rule : Rule) (fault : JsonFault) →
    ((found : Reason) → AtFault first_fault content found → rule found) → IsTextFault first_fault content fault → IsReason rule (json_refusal fault)
member_by first_fault content rule (json.Member name) gives is = gives (reason.Member name) (name, is name refl, refl)
member_by first_fault content rule json.OutOfMemory gives is = tt

-- ---- conveyed information that is not signed

top_name : (value : Data) (named : Option Bool) (name : Name) → fault_of (or_fault theName.Json named) ≡ Some name →
    (named ≡ None) × (name ≡ theName.Json)
top_name value None name is = (refl, sym (same_Some theName.Json name is))
top_name value (Some found) name is = cc

none_fault : (value : Data) (named : Option Bool) → named ≡ None → fault_where value named ≡ Some theName.Json
none_fault value None none = refl
none_fault value (Some found) none = cc

at_top : (content : List ℕ) (name : Name) → HasTextFault top_fault content name → HasTextFault conveyed_fault content name
at_top content name (inl is) = inl is
at_top content name (inr is) =
    let top = top_name is.0 (has_onboarding is.0) name is.2 in
    inr (is.0, is.1, none_fault is.0 (has_onboarding is.0) top.0 ∙ ap Some (sym top.1))

no_onboarding : (content : List ℕ) (name : Name) → HasTextFault top_fault content name → Applies (PlainOnboarding content) → ⊥
no_onboarding content name (inl is) (found, ((value, is_value, onboarding), gives)) = is.1 value is_value
no_onboarding content name (inr is) (found, ((value, is_value, onboarding), gives)) =
    let e = one_value content value is.0 is_value.json is.1.json in
    let top = top_name is.0 (has_onboarding is.0) name is.2 in
    let apart : Some true ≡ None = sym onboarding ∙ ap has_onboarding e ∙ top.0 in
    cc

-- ---- the voucher

-- the rules after that on the signature
abbrev after_four : Identity → Moment → Option (List ℕ) → List Rule
after_four identity when ov =
    VoucherAtFault identity when ov ∷ UnfitVoucher identity when ov ∷ PinsNone identity when ov ∷ []

module _ (identity : Identity) (when : Moment) (ov : Option (List ℕ)) (signed : Signed) (is : IsVoucherMessage ov signed) where
  pub voucher_unsigned : (found : Reason) → RefusesVoucher signed identity when.time found → First (voucher_rules identity when ov) found
  voucher_unsigned found refuses =
      inr (
        is_there ov is.bytes is.is_there,
        inr (
          reads_where artifact.Voucher ov is.bytes (SignedData signed) is.is_there is.is_signed_data,
          inr (
            is_right_message ov signed is,
            inl (record { signed = signed; is_message = is; refuses = refuses }),
          ),
        ),
      )

  module _ (content : List ℕ) (by : SignedBy signed signed.certs identity.anchors None when.time.0 content) where
    is_signed : IsSignedVoucher ov identity when content
    is_signed = record { signed = signed; is_message = is; signed_by = by }

    after_signature : (found : Reason) → First (after_four identity when ov) found → First (voucher_rules identity when ov) found
    after_signature found first =
        inr (
          is_there ov is.bytes is.is_there,
          inr (
            reads_where artifact.Voucher ov is.bytes (SignedData signed) is.is_there is.is_signed_data,
            inr (is_right_message ov signed is, inr (is_signed_voucher identity when ov content is_signed, first)),
          ),
        )

    pub voucher_at_fault : (found : Reason) → AtFault voucher_fault content found → First (voucher_rules identity when ov) found
    voucher_at_fault found at_fault = after_signature found (inl (record { content = content; is_signed = is_signed; at_fault = at_fault }))

    module _ (voucher : Voucher) (of : VoucherOf content voucher) where
      has : HasVoucher ov identity when voucher
      has = record { content = content; is_signed = is_signed; is_voucher = of }

      pub voucher_unfit : (found : Reason) → IsUnfit voucher identity when found → First (voucher_rules identity when ov) found
      voucher_unfit found unfit =
          after_signature found (inr (
            has_members identity when ov voucher has,
            inl (record { voucher = voucher; has_voucher = has; unfit = unfit }),
          ))

      pub voucher_pins_none : (found : Reason) → VouchesFor voucher identity.serial when → PinsNoCertificate voucher found →
          First (voucher_rules identity when ov) found
      voucher_pins_none found fits pins_none =
          after_signature found (inr (
            has_members identity when ov voucher has,
            inr (
              is_fit identity when ov voucher has fits,
              inl (record { voucher = voucher; has_voucher = has; pins_none = pins_none }),
            ),
          ))

      pub voucher_ok : (cert : Certificate) → VouchesFor voucher identity.serial when → CertOf voucher.pinned cert → VoucherOk ov identity when voucher
      voucher_ok cert fits pins = record { has_voucher = has; fits = fits; cert = cert; pins = pins }

-- ---- what was read

-- bytes that a test tells apart
pub apart : (a b : List ℕ) (differ : Bool) → differ ≡ true → differ ≡ not (bytes_eq a b) → a ≡ b → ⊥
apart a b differ is tells same =
    let e = (bytes_eq-Decides a b).1 same in
    true≢false (sym is ∙ tells ∙ ap not e)

pub read_there : (bytes there : List ℕ) (info : TheInfo) → InfoOf bytes (info_of info) → bytes ≡ there → InfoOf there (info_of info)
read_there bytes there info of same = subst (λ (one : List ℕ). InfoOf one (info_of info)) same of

-- a message that is not signed data is no voucher
pub plain_no_voucher : (info : TheInfo) → ((signed : TheSigned) → info ≡ the.Signed signed → ⊥) → IsVoucherInfo (info_of info) → ⊥
plain_no_voucher (the.Plain kind content) other is = is
plain_no_voucher (the.Signed signed) other is = other signed refl

pub is_signed_data : (bytes ci : List ℕ) (info : TheInfo) (signed : TheSigned) → InfoOf bytes (info_of info) → bytes ≡ ci →
    info ≡ the.Signed signed → InfoOf ci (SignedData (signed_of signed))
is_signed_data bytes ci info signed of same is =
    subst (λ (one : List ℕ). InfoOf one (SignedData (signed_of signed))) same
    (subst (λ (one : TheInfo). InfoOf bytes (info_of one)) is of)

pub signed_kind : (info : TheInfo) (signed : TheSigned) → IsInformation (kind_in (info_of info)) → info ≡ the.Signed signed →
    IsInformation (signed_of signed).kind
signed_kind info signed of is = subst (λ (one : TheInfo). IsInformation (kind_in (info_of one))) is of

pub is_plain : (bytes ci : List ℕ) (info : TheInfo) (kind : Kind) (content : Bor (List ℕ)) → InfoOf bytes (info_of info) → bytes ≡ ci →
    info ≡ the.Plain kind content → InfoOf ci (Plain (identifier_of kind) content.now)
is_plain bytes ci info kind content of same is =
    subst (λ (one : List ℕ). InfoOf one (Plain (identifier_of kind) content.now)) same
    (subst (λ (one : TheInfo). InfoOf bytes (info_of one)) is of)

pub plain_kind : (info : TheInfo) (kind : Kind) (content : Bor (List ℕ)) → IsInformation (kind_in (info_of info)) → info ≡ the.Plain kind content →
    IsInformation (identifier_of kind)
plain_kind info kind content of is = subst (λ (one : TheInfo). IsInformation (kind_in (info_of one))) is of

-- a message that is not the one that is wanted
pub first_other_voucher : (ov : Option (List ℕ)) (bytes : List ℕ) (info : Info) → ov ≡ Some bytes → InfoOf bytes info → (IsVoucherInfo info → ⊥) →
    First (message_rules ov) (reason.BadCms artifact.Voucher)
first_other_voucher ov bytes info there of other =
    inr (is_there ov bytes there, inr (reads_where artifact.Voucher ov bytes info there of, inl ((bytes, info, there, of, other), refl)))

pub first_plain_owner : (oc : Option (List ℕ)) (bytes kind content : List ℕ) → oc ≡ Some bytes → InfoOf bytes (Plain kind content) →
    First (owner_rules oc) (reason.BadCms artifact.Owner)
first_plain_owner oc bytes kind content there of =
    inr (reads_where artifact.Owner oc bytes (Plain kind content) there of, inl ((bytes, kind, content, there, of), refl))

-- conveyed information whose top members are at fault
pub first_at_fault : (content : List ℕ) (fault : JsonFault) → IsTextFault top_fault content fault → IsReason (First (plain_rules content)) (json_refusal fault)
first_at_fault content json.OutOfMemory is = tt
first_at_fault content (json.Member name) is = inr (no_onboarding content name (is name refl), inl (name, at_top content name (is name refl), refl))

-- ---- the whole

module _ (identity : Identity) (when : Moment) (evidence : Evidence) where
  pub refused_plain : (kind content : List ℕ) (found : Reason) → InfoOf evidence.ci (Plain kind content) → IsInformation kind →
      First (plain_rules content) found → IsRefusedFor identity when evidence found
  refused_plain kind content found of_info is first =
      inr (Plain kind content, of_info, inr (right_kind (Plain kind content) is, first))

  module _ (signed : Signed) (of_info : InfoOf evidence.ci (SignedData signed)) (is : IsInformation signed.kind) where
    refused_signed : (found : Reason) → First (rules_of identity when evidence (SignedData signed)) found → IsRefusedFor identity when evidence found
    refused_signed found first = inr (SignedData signed, of_info, inr (right_kind (SignedData signed) is, first))

    pub refused_voucher : (found : Reason) → First (voucher_rules identity when evidence.ov) found → IsRefusedFor identity when evidence found
    refused_voucher found first =
        refused_signed found (first_sooner (voucher_rules identity when evidence.ov)
        (owner_rules evidence.oc ++ information_rules identity when evidence signed) found first)

    module _ (voucher : Voucher) (ok : VoucherOk evidence.ov identity when voucher) where
      after_voucher : (found : Reason) → First (owner_rules evidence.oc ++ information_rules identity when evidence signed) found →
          IsRefusedFor identity when evidence found
      after_voucher found first =
          refused_signed found (first_later (voucher_rules identity when evidence.ov)
          (owner_rules evidence.oc ++ information_rules identity when evidence signed) found (right_voucher identity when evidence.ov voucher ok) first)

      pub refused_owner : (found : Reason) → First (owner_rules evidence.oc) found → IsRefusedFor identity when evidence found
      refused_owner found first =
          after_voucher found (first_sooner (owner_rules evidence.oc) (information_rules identity when evidence signed) found first)

      module _ (owner : Option Signed) (is_owner : IsOwner evidence.oc owner) where
        after_owner : (found : Reason) → First (information_rules identity when evidence signed) found → IsRefusedFor identity when evidence found
        after_owner found first =
            after_voucher found (first_later (owner_rules evidence.oc) (information_rules identity when evidence signed) found
            (right_owner evidence.oc owner is_owner) first)

        pub refused_unsigned : (found : Reason) → RefusesInformation signed owner voucher when found → IsRefusedFor identity when evidence found
        refused_unsigned found refuses =
            after_owner found (inl (record {
              voucher = voucher;
              owner = owner;
              has_voucher = ok.has_voucher;
              is_owner = is_owner;
              refuses = refuses;
            }))

        pub refused_information : (content : List ℕ) (found : Reason) → IsSignedInformation signed owner voucher when content →
            AtFault conveyed_fault content found → IsRefusedFor identity when evidence found
        refused_information content found by at_fault =
            after_owner found (inr (
              is_signed_information identity when evidence signed voucher owner ok.has_voucher is_owner content by,
              inl (record {
                voucher = voucher;
                owner = owner;
                content = content;
                has_voucher = ok.has_voucher;
                is_owner = is_owner;
                signed_by = by;
                at_fault = at_fault;
              }),
            ))

        pub authenticated : (content : List ℕ) (information : Conveyed) → IsSignedInformation signed owner voucher when content →
            ConveyedOf content information → Authenticated identity when evidence information
        authenticated content information by conveys = record {
          voucher = voucher;
          owner = owner;
          signed = signed;
          content = content;
          voucher_ok = ok;
          is_owner = is_owner;
          is_signed_data = of_info;
          is_information = is;
          signed_by = by;
          conveys = conveys;
        }
