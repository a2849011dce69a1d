-- Evidence is never without a judgement: at each step something applies, or else what is looked for is there.
use Rattle.std.proofs.Common.{◌≡◌, inl, inr, ℕ, ℤ, Bool, true, false, ◌||◌, if◌then◌else◌, List, [], ◌∷◌, ◌++◌, Option, Some, None, Result, Ok, Err, refl, sym, ap, subst}
use Rattle.std.specs.Prelude.{IfSome, option_map}
use Rattle.std.specs.Str.{bytes_eq}
use Rattle.std.proofs.lemmas.Slice.Eq.{bytes_eq-Decides}
use Rattle.serde_json.specs.Data.{Data}
use Rattle.sz_base.specs.declared.evidence.Evidence.{Evidence}
use Rattle.sz_base.specs.declared.identity.Identity.{Identity}
use Rattle.sz_base.specs.declared.moment.Moment.{Moment}
use Rattle.sz_chain.specs.SignedBy.{IsUnsignedFor, SignedBy}
use Rattle.sz_chain.specs.declared.fault.ChainFault.{ChainFault}
use Rattle.sz_chain.specs.declared.fault.ChainFault.TheVariants as fault
use Rattle.sz_chain.specs.declared.fault.Why.TheVariants as why
use Rattle.sz_cms.proofs.Whole.{InfoOf_from_none}
use Rattle.sz_cms.specs.Message.{Info, InfoOf, Plain, Signed, SignedData}
use Rattle.sz_cms.specs.MessageFault.{Fault, info_fault}
use Rattle.sz_cms.specs.Places.{info_at}
use Rattle.sz_cms.specs.Identifiers.{conveyed_json_oid, conveyed_xml_oid, data_oid, enveloped_data_oid}
use Rattle.sz_der.specs.Der.{AreOctets}
use Rattle.sz_artifacts.proofs.Faultless.{read_conveyed}
use Rattle.sz_artifacts.proofs.Fitting.{fits}
use Rattle.sz_artifacts.proofs.OneVoucher.{read_voucher}
use Rattle.sz_artifacts.specs.Conveyed.{conveyed_fault, IsConveyed}
use Rattle.sz_artifacts.specs.declared.conveyed.Conveyed.{Conveyed}
use Rattle.sz_artifacts.specs.declared.conveyed.Conveyed.TheVariants as conveyed
use Rattle.sz_artifacts.specs.Vouching.{judgement}
use Rattle.sz_artifacts.specs.Voucher.{IsVoucher, voucher_fault, VoucherOf}
use Rattle.sz_artifacts.specs.declared.voucher.judgement.VoucherFault.{VoucherFault}
use Rattle.sz_artifacts.specs.declared.voucher.Voucher.{Voucher}
use Rattle.sz_json.specs.Bounded.{IsBoundedJson}
use Rattle.sz_json.specs.Fault.{HasTextFault}
use Rattle.sz_json.specs.declared.name.Name.{Name}
use Rattle.sz_json.specs.declared.name.Name.TheVariants as name
use Rattle.sz_evidence.specs.Authorised.{AreBytes, asked, Authenticated, certs_where, crls_where, IsInformation, IsOwner, IsVoucherMessage, VoucherOk}
use Rattle.sz_evidence.specs.Judgement.{Applies, First, IsRefusedFor, IsVoucherInfo, Judgement, kind_in, kind_reason, message_reason, owner_rules, PlainOnboarding, plain_rules, Unreadable, voucher_reason, voucher_rules}
use Rattle.sz_evidence.specs.declared.judgement.Judged.{Judged}
use Rattle.sz_evidence.specs.declared.judgement.Judged.TheVariants as judged
use Rattle.sz_evidence.specs.declared.reason.Artifact.{Artifact}
use Rattle.sz_evidence.specs.declared.reason.Artifact.TheVariants as artifact
use Rattle.sz_evidence.specs.declared.reason.Reason.{Reason}
use Rattle.sz_evidence.specs.declared.reason.Reason.TheVariants as reason
use Rattle.sz_evidence.specs.declared.reason.What.TheVariants as what
use Rattle.sz_evidence.proofs.Steps.{authenticated, first_plain_owner, refused_information, refused_owner, refused_plain, refused_unsigned, refused_voucher, voucher_at_fault, voucher_ok, voucher_pins_none, voucher_unfit, voucher_unsigned}
use Rattle.sz_evidence.proofs.Refuted.{is_there, reads_where}

-- ---- a message, a signature, a text: it has a fault, or is one

message_cases : (artifact : Artifact) (bytes : List ℕ) → AreOctets bytes → ((found : Reason) → Unreadable artifact bytes found → ⊥)
    → ((info : Info) → InfoOf bytes info → ⊥) → ⊥
message_cases artifact bytes are unreadable reads = go (info_fault bytes) refl
  where
    go : (broken : Option Fault) → info_fault bytes ≡ broken → ⊥
    go None e = reads (info_at bytes) (InfoOf_from_none bytes are e)
    go (Some broken) e = unreadable (message_reason artifact broken) (ap (option_map (message_reason artifact)) e)

signed_cases : (signed : Signed) (bag anchors : List (List ℕ)) (crls : Option (List (List ℕ))) (when : ℤ)
    → ((broken : ChainFault) → IsUnsignedFor signed bag anchors crls when broken → ⊥)
    → ((content : List ℕ) → SignedBy signed bag anchors crls when content → ⊥) → ⊥
signed_cases signed bag anchors crls when unsigned by =
    unsigned fault.NoSigner (λ signer. unsigned fault.BadDigest (
      signer,
      λ fitting. unsigned (fault.NoChain why.NoCandidate) (
        fitting,
        λ candidate. unsigned (fault.NoChain why.Signature) (
          candidate,
          λ verified. unsigned (fault.NoChain why.Path) (
            verified,
            λ path. unsigned (fault.NoChain why.Revoked) (path, λ (content, is). by content is),
          ),
        ),
      ),
    ))

text_cases : {A : Type 0} (first_fault : Data → Option Name) (Is : Data → A → Type 0) (content : List ℕ)
    → ((value : Data) → first_fault value ≡ None → (one : A) × Is value one)
    → ((found : Name) → HasTextFault first_fault content found → ⊥)
    → ((one : A) (value : Data) → IsBoundedJson content value → Is value one → ⊥) → ⊥
text_cases first_fault Is content faultless at_fault reads = at_fault name.Json (inl (refl, λ value is. go value is (first_fault value) refl))
  where
    go : (value : Data) → IsBoundedJson content value → (broken : Option Name) → first_fault value ≡ broken → ⊥
    go value is (Some found) e = at_fault found (inr (value, is, e))
    go value is None e = let one = faultless value e in reads one.0 value is one.1

-- ---- the type of conveyed information

either_kind : (json any : Bool) (kind : List ℕ) → bytes_eq kind conveyed_json_oid ≡ json → bytes_eq kind data_oid ≡ any
    → (json || any) ≡ true → IsInformation kind
either_kind true any kind j d e = inl ((bytes_eq-Decides kind conveyed_json_oid).0 j)
either_kind false true kind j d e = inr ((bytes_eq-Decides kind data_oid).0 d)
either_kind false false kind j d e = cc

known_if : (known xml enveloped : Bool) → (if known then None else if xml then Some reason.XmlContent
    else if enveloped then Some reason.Encrypted else Some (reason.BadCms artifact.Conveyed)) ≡ None → known ≡ true
known_if true xml enveloped e = refl
known_if false true enveloped e = cc
known_if false false true e = cc
known_if false false false e = cc

known_kind : (kind : List ℕ) → kind_reason kind ≡ None → IsInformation kind
known_kind kind e =
    either_kind _ _ kind refl refl
    (known_if (bytes_eq kind conveyed_json_oid || bytes_eq kind data_oid) (bytes_eq kind conveyed_xml_oid) (bytes_eq kind enveloped_data_oid) e)

-- ---- each step

module _ (identity : Identity) (when : Moment) (evidence : Evidence) (are : AreBytes evidence)
    (none : (answer : Result Judged Reason) → Judgement identity when evidence answer → ⊥) where
  refused : (found : Reason) → IsRefusedFor identity when evidence found → ⊥
  refused found is = none (Err found) is

  -- conveyed information that is not signed
  module _ (kind content : List ℕ) (of_info : InfoOf evidence.ci (Plain kind content)) (is : IsInformation kind) where
    plain_refused : (found : Reason) → First (plain_rules content) found → ⊥
    plain_refused found first = refused found (refused_plain identity when evidence kind content found of_info is first)

    not_onboarding : (Applies (PlainOnboarding content) → ⊥) → ⊥
    not_onboarding other =
        text_cases conveyed_fault IsConveyed content read_conveyed
        (λ found at_fault. plain_refused (reason.Member found) (inr (other, inl (found, at_fault, refl)))) reads
      where
        reads : (one : Conveyed) (value : Data) → IsBoundedJson content value → IsConveyed value one → ⊥
        reads (conveyed.Redirect targets) value is_value conveys = none (Ok (judged.Unsigned targets)) (record {
          kind = kind;
          content = content;
          is_plain = of_info;
          is_information = is;
          conveys = (value, is_value, conveys);
        })
        reads (conveyed.Onboarding onboarding) value is_value conveys =
            other (reason.Unsigned, ((value, is_value, conveys.0), refl))

    plain_information : ⊥
    plain_information = not_onboarding (λ (found, applies). plain_refused found (inl applies))

  -- conveyed information that is signed
  module _ (signed : Signed) (of_info : InfoOf evidence.ci (SignedData signed)) (is : IsInformation signed.kind) where
    by_voucher : (found : Reason) → First (voucher_rules identity when evidence.ov) found → ⊥
    by_voucher found first = refused found (refused_voucher identity when evidence signed of_info is found first)

    module _ (voucher : Voucher) (ok : VoucherOk evidence.ov identity when voucher) where
      by_owner : (found : Reason) → First (owner_rules evidence.oc) found → ⊥
      by_owner found first = refused found (refused_owner identity when evidence signed of_info is voucher ok found first)

      with_owner : (owner : Option Signed) → IsOwner evidence.oc owner → ⊥
      with_owner owner is_owner =
          signed_cases signed (signed.certs ++ certs_where owner) (voucher.pinned ∷ [])
          (asked voucher.revocation (signed.crls ++ crls_where owner)) when.time.0
          (λ broken is_broken. refused (reason.NoChain artifact.Conveyed broken)
          (refused_unsigned identity when evidence signed of_info is voucher ok owner is_owner (reason.NoChain artifact.Conveyed broken)
          (broken, is_broken, refl)))
          (λ content by. text_cases conveyed_fault IsConveyed content read_conveyed
          (λ found at_fault. refused (reason.Member found)
          (refused_information identity when evidence signed of_info is voucher ok owner is_owner content (reason.Member found) by (found, at_fault, refl)))
          (λ one value is_value conveys. conveyed_as one
          (authenticated identity when evidence signed of_info is voucher ok owner is_owner content one by (value, is_value, conveys))))
        where
          conveyed_as : (one : Conveyed) → Authenticated identity when evidence one → ⊥
          conveyed_as (conveyed.Redirect targets) is_one = none (Ok (judged.Redirect targets)) is_one
          conveyed_as (conveyed.Onboarding onboarding) is_one = none (Ok (judged.Onboarding onboarding)) is_one

      owner_cases : (oc : Option (List ℕ)) → evidence.oc ≡ oc → IfSome oc AreOctets → ⊥
      owner_cases None e octets = with_owner None (subst (λ (one : Option (List ℕ)). IsOwner one None) (sym e) tt)
      owner_cases (Some bytes) e octets =
          message_cases artifact.Owner bytes octets (λ found unreadable. by_owner found (inl (bytes, e, unreadable))) of_owner
        where
          of_owner : (info : Info) → InfoOf bytes info → ⊥
          of_owner (Plain kind content) of = by_owner (reason.BadCms artifact.Owner) (first_plain_owner evidence.oc bytes kind content e of)
          of_owner (SignedData owner) of =
              with_owner (Some owner) (subst (λ (one : Option (List ℕ)). IsOwner one (Some owner)) (sym e) of)

      right : ⊥
      right = owner_cases evidence.oc refl are.oc

    -- the voucher, as a message that is one
    module _ (message : Signed) (is_message : IsVoucherMessage evidence.ov message) where
      module _ (content : List ℕ) (by : SignedBy message message.certs identity.anchors None when.time.0 content) where
        of_voucher : (voucher : Voucher) → VoucherOf content voucher → ⊥
        of_voucher voucher of = go (judgement voucher identity.serial when) refl
          where
            pinned : judgement voucher identity.serial when ≡ Ok tt → ⊥
            pinned e =
                let vouches = fits voucher identity.serial when e in
                by_voucher (reason.Member name.PinnedDomainCert)
                (voucher_pins_none identity when evidence.ov message is_message content by voucher of (reason.Member name.PinnedDomainCert) vouches
                (λ cert pins. right voucher (voucher_ok identity when evidence.ov message is_message content by voucher of cert vouches pins), refl))

            go : (answer : Result (Unit {0}) VoucherFault) → judgement voucher identity.serial when ≡ answer → ⊥
            go (Ok one) e = pinned e
            go (Err found) e =
                by_voucher (voucher_reason found)
                (voucher_unfit identity when evidence.ov message is_message content by voucher of (voucher_reason found) (found, e, refl))

      signed_voucher : ⊥
      signed_voucher =
          signed_cases message message.certs identity.anchors None when.time.0
          (λ broken is_broken. by_voucher (reason.NoChain artifact.Voucher broken)
          (voucher_unsigned identity when evidence.ov message is_message (reason.NoChain artifact.Voucher broken) (broken, is_broken, refl)))
          (λ content by. text_cases voucher_fault IsVoucher content read_voucher
          (λ found at_fault. by_voucher (reason.Member found)
          (voucher_at_fault identity when evidence.ov message is_message content by (reason.Member found) (found, at_fault, refl)))
          (λ one value is_value is_one. of_voucher content by one (value, is_value, is_one)))

    voucher_cases : (ov : Option (List ℕ)) → evidence.ov ≡ ov → IfSome ov AreOctets → ⊥
    voucher_cases None e octets = by_voucher (reason.Absent what.Voucher) (inl (e, refl))
    voucher_cases (Some bytes) e octets =
        message_cases artifact.Voucher bytes octets
        (λ found unreadable. by_voucher found (inr (is_there evidence.ov bytes e, inl (bytes, e, unreadable)))) of_message
      where
        other_message : (info : Info) → InfoOf bytes info → (IsVoucherInfo info → ⊥) → ⊥
        other_message info of other =
            by_voucher (reason.BadCms artifact.Voucher)
            (inr (
              is_there evidence.ov bytes e,
              inr (reads_where artifact.Voucher evidence.ov bytes info e of, inl ((bytes, info, e, of, other), refl)),
            ))

        of_message : (info : Info) → InfoOf bytes info → ⊥
        of_message (Plain kind content) of = other_message (Plain kind content) of (λ never. never)
        of_message (SignedData message) of =
            other_message (SignedData message) of (λ is_kind. signed_voucher message
            (record { bytes = bytes; is_there = e; is_signed_data = of; is_voucher = is_kind }))

    signed_information : ⊥
    signed_information = voucher_cases evidence.ov refl are.ov

  -- the conveyed information, whatever it is
  of_type : (info : Info) → InfoOf evidence.ci info → IsInformation (kind_in info) → ⊥
  of_type (Plain kind content) of is = plain_information kind content of is
  of_type (SignedData signed) of is = signed_information signed of is

  kind_cases : (info : Info) → InfoOf evidence.ci info → ⊥
  kind_cases info of = go (kind_reason (kind_in info)) refl
    where
      go : (found : Option Reason) → kind_reason (kind_in info) ≡ found → ⊥
      go None e = of_type info of (known_kind (kind_in info) e)
      go (Some found) e = refused found (inr (info, of, inl e))

  pub some_judgement : ⊥
  some_judgement =
      message_cases artifact.Conveyed evidence.ci are.ci (λ found unreadable. refused found (inl unreadable)) kind_cases
