-- The judgement on evidence: one answer, or the reason of the first rule of a table that applies. The rules stand in
-- the order of judgement, and each says by itself when it applies.
use Rattle.std.specs.Prelude.{◌≡◌, ◌⊎◌, ℕ, ◌||◌, true, if◌then◌else◌, List, [], ◌∷◌, ◌++◌, Option, Some, None, option_map, Result, Ok, Err, bytes_eq}
use Rattle.serde_json.specs.Data.{Data}
use Rattle.sz_base.specs.declared.evidence.Evidence.{Evidence}
use Rattle.sz_base.specs.declared.identity.Identity.{Identity}
use Rattle.sz_base.specs.declared.moment.Moment.{Moment}
use Rattle.sz_base.specs.declared.moment.Seconds.{Seconds}
use Rattle.sz_base.specs.declared.target.Target.{Target}
use Rattle.sz_chain.specs.SignedBy.{IsUnsignedFor}
use Rattle.sz_chain.specs.declared.fault.ChainFault.{ChainFault}
use Rattle.sz_cms.specs.Message.{Info, InfoOf, Plain, Signed, SignedData}
use Rattle.sz_cms.specs.MessageFault.{Fault, info_fault}
use Rattle.sz_cms.specs.declared.fault.InfoKind.{InfoKind}
use Rattle.sz_cms.specs.declared.fault.InfoKind.TheVariants as kind
use Rattle.sz_cms.specs.Identifiers.{conveyed_json_oid, conveyed_xml_oid, data_oid, enveloped_data_oid, voucher_oid}
use Rattle.sz_artifacts.specs.Conveyed.{conveyed_fault, ConveyedOf, has_onboarding}
use Rattle.sz_artifacts.specs.declared.conveyed.Conveyed.TheVariants as conveyed
use Rattle.sz_json.specs.Bounded.{IsBoundedJson}
use Rattle.sz_json.specs.Fault as json
use Rattle.sz_json.specs.declared.name.Name.{Name}
use Rattle.sz_json.specs.declared.name.Name.TheVariants as name
use Rattle.sz_artifacts.specs.Vouching.{judgement}
use Rattle.sz_artifacts.specs.Voucher.{voucher_fault}
use Rattle.sz_artifacts.specs.declared.voucher.judgement.VoucherFault.{VoucherFault}
use Rattle.sz_artifacts.specs.declared.voucher.judgement.VoucherFault.TheVariants as voucher_fault
use Rattle.sz_artifacts.specs.declared.voucher.Voucher.{Voucher}
use Rattle.sz_x509.specs.Certificate.{Certificate, CertOf}
use Rattle.sz_evidence.specs.Authorised.{asked, Authenticated, certs_where, crls_where, HasVoucher, IsInformation, IsOwner, IsSignedInformation, IsSignedVoucher, IsVoucherMessage}
use Rattle.sz_evidence.specs.declared.judgement.Judged.{Judged}
use Rattle.sz_evidence.specs.declared.judgement.Judged.TheVariants as judged
use Rattle.sz_evidence.specs.declared.reason.Artifact.{Artifact}
use Rattle.sz_evidence.specs.declared.reason.Artifact.TheVariants as artifact
use Rattle.sz_evidence.specs.declared.reason.Reason.{Reason}
use Rattle.sz_evidence.specs.declared.reason.Reason.TheVariants as reason
use Rattle.sz_evidence.specs.declared.reason.What.TheVariants as what

-- ---- rules

-- when a rule applies, and the reason that it then gives
abbrev pub Rule : Type 1
Rule = Reason → Type 0

abbrev pub Applies : Rule → Type 0
Applies rule = (found : Reason) × rule found

-- the first of the rules that applies gives this reason
abbrev pub First : List Rule → Rule
First [] found = ⊥
First (rule ∷ rules) found = rule found ⊎ ((Applies rule → ⊥) × First rules found)

-- ---- reasons that stand for the faults of readers

abbrev pub message_reason_of : Artifact → InfoKind → ℕ → Reason
message_reason_of artifact kind.Der place = reason.BadDer artifact place
message_reason_of artifact _ place = reason.BadCms artifact

abbrev pub message_reason : Artifact → Fault → Reason
message_reason artifact fault = message_reason_of artifact fault.0 fault.1

abbrev pub kind_reason : List ℕ → Option Reason
kind_reason kind =
    if bytes_eq kind conveyed_json_oid || bytes_eq kind data_oid then None
    else if bytes_eq kind conveyed_xml_oid then Some reason.XmlContent
    else if bytes_eq kind enveloped_data_oid then Some reason.Encrypted
    else Some (reason.BadCms artifact.Conveyed)

abbrev pub voucher_reason : VoucherFault → Reason
voucher_reason voucher_fault.WrongSerial = reason.WrongSerial
voucher_reason voucher_fault.Nonce = reason.Nonce
voucher_reason voucher_fault.Expired = reason.Expired

-- ---- of any artifact

-- it does not read as a message
abbrev pub Unreadable : Artifact → List ℕ → Rule
Unreadable artifact bytes found = option_map (message_reason artifact) (info_fault bytes) ≡ Some found

-- ---- of the conveyed information

abbrev pub kind_in : Info → List ℕ
kind_in (Plain kind content) = kind
kind_in (SignedData signed) = signed.kind

-- it is of another type than conveyed information in JSON and data
abbrev pub OtherKind : Info → Rule
OtherKind info found = kind_reason (kind_in info) ≡ Some found

-- ---- of conveyed information that is not signed

-- it has onboarding information, whose parts are not looked at
abbrev pub PlainOnboarding : List ℕ → Rule
PlainOnboarding content found =
    ((value : Data) × IsBoundedJson content value × (has_onboarding value ≡ Some true)) × (found ≡ reason.Unsigned)

-- it has a member at fault
abbrev pub AtFault : (Data → Option Name) → List ℕ → Rule
AtFault first_fault content found =
    (name : Name) × json.HasTextFault first_fault content name × (found ≡ reason.Member name)

abbrev pub plain_rules : List ℕ → List Rule
plain_rules content = PlainOnboarding content ∷ AtFault conveyed_fault content ∷ []

-- ---- of the voucher beside signed information

-- it is not there
abbrev pub NoVoucher : Option (List ℕ) → Rule
NoVoucher ov found = (ov ≡ None) × (found ≡ reason.Absent what.Voucher)

-- it does not read
abbrev pub UnreadableWhere : Artifact → Option (List ℕ) → Rule
UnreadableWhere artifact where_there found =
    (bytes : List ℕ) × (where_there ≡ Some bytes) × Unreadable artifact bytes found

-- signed data of the type of vouchers
abbrev pub IsVoucherInfo : Info → Type 0
IsVoucherInfo (Plain kind content) = ⊥
IsVoucherInfo (SignedData signed) = signed.kind ≡ voucher_oid

-- it is another message
abbrev pub OtherVoucher : Option (List ℕ) → Rule
OtherVoucher ov found =
    ((bytes : List ℕ) × (info : Info) × (ov ≡ Some bytes) × InfoOf bytes info × (IsVoucherInfo info → ⊥))
    × (found ≡ reason.BadCms artifact.Voucher)

-- of a message of a voucher: it is not signed under the identity's anchors
abbrev pub RefusesVoucher : Signed → Identity → Seconds → Rule
RefusesVoucher signed identity when found =
    (fault : ChainFault) × IsUnsignedFor signed signed.certs identity.anchors None when.0 fault
    × (found ≡ reason.NoChain artifact.Voucher fault)

pub record UnsignedVoucher (identity : Identity) (when : Moment) (ov : Option (List ℕ)) (found : Reason) : Type 0 where
  pub signed : Signed
  pub is_message : IsVoucherMessage ov signed
  pub refuses : RefusesVoucher signed identity when.time found

-- it has a member at fault
pub record VoucherAtFault (identity : Identity) (when : Moment) (ov : Option (List ℕ)) (found : Reason) : Type 0 where
  pub content : List ℕ
  pub is_signed : IsSignedVoucher ov identity when content
  pub at_fault : AtFault voucher_fault content found

-- of a voucher: it is for another device or another moment
abbrev pub IsUnfit : Voucher → Identity → Moment → Rule
IsUnfit voucher identity when found =
    (fault : VoucherFault) × (judgement voucher identity.serial when ≡ Err fault) × (found ≡ voucher_reason fault)

pub record UnfitVoucher (identity : Identity) (when : Moment) (ov : Option (List ℕ)) (found : Reason) : Type 0 where
  pub voucher : Voucher
  pub has_voucher : HasVoucher ov identity when voucher
  pub unfit : IsUnfit voucher identity when found

-- of a voucher: what it pins is no certificate
abbrev pub PinsNoCertificate : Voucher → Rule
PinsNoCertificate voucher found =
    ((cert : Certificate) → CertOf voucher.pinned cert → ⊥) × (found ≡ reason.Member name.PinnedDomainCert)

pub record PinsNone (identity : Identity) (when : Moment) (ov : Option (List ℕ)) (found : Reason) : Type 0 where
  pub voucher : Voucher
  pub has_voucher : HasVoucher ov identity when voucher
  pub pins_none : PinsNoCertificate voucher found

-- the rules of the voucher as a message
abbrev pub message_rules : Option (List ℕ) → List Rule
message_rules ov = NoVoucher ov ∷ UnreadableWhere artifact.Voucher ov ∷ OtherVoucher ov ∷ []

abbrev pub voucher_rules : Identity → Moment → Option (List ℕ) → List Rule
voucher_rules identity when ov =
    message_rules ov
    ++ UnsignedVoucher identity when ov
    ∷ VoucherAtFault identity when ov
    ∷ UnfitVoucher identity when ov
    ∷ PinsNone identity when ov
    ∷ []

-- ---- of the owner certificate beside signed information

-- it is not signed data
abbrev pub PlainOwner : Option (List ℕ) → Rule
PlainOwner oc found =
    ((bytes kind content : List ℕ) × (oc ≡ Some bytes) × InfoOf bytes (Plain kind content))
    × (found ≡ reason.BadCms artifact.Owner)

abbrev pub owner_rules : Option (List ℕ) → List Rule
owner_rules oc = UnreadableWhere artifact.Owner oc ∷ PlainOwner oc ∷ []

-- ---- of signed information, whose voucher is right

-- of a message: it is not signed under the certificate that the voucher pins
abbrev pub RefusesInformation : Signed → Option Signed → Voucher → Moment → Rule
RefusesInformation signed owner voucher when found =
    (fault : ChainFault) × IsUnsignedFor signed (signed.certs ++ certs_where owner) (voucher.pinned ∷ [])
    (asked voucher.revocation (signed.crls ++ crls_where owner)) when.time.0 fault
    × (found ≡ reason.NoChain artifact.Conveyed fault)

pub record UnsignedInformation (identity : Identity) (when : Moment) (evidence : Evidence) (signed : Signed)
    (found : Reason) : Type 0 where
  pub voucher : Voucher
  pub owner : Option Signed
  pub has_voucher : HasVoucher evidence.ov identity when voucher
  pub is_owner : IsOwner evidence.oc owner
  pub refuses : RefusesInformation signed owner voucher when found

-- it has a member at fault
pub record InformationAtFault (identity : Identity) (when : Moment) (evidence : Evidence) (signed : Signed)
    (found : Reason) : Type 0 where
  pub voucher : Voucher
  pub owner : Option Signed
  pub content : List ℕ
  pub has_voucher : HasVoucher evidence.ov identity when voucher
  pub is_owner : IsOwner evidence.oc owner
  pub signed_by : IsSignedInformation signed owner voucher when content
  pub at_fault : AtFault conveyed_fault content found

abbrev pub information_rules : Identity → Moment → Evidence → Signed → List Rule
information_rules identity when evidence signed =
    UnsignedInformation identity when evidence signed ∷ InformationAtFault identity when evidence signed ∷ []

-- ---- all rules, in the order of judgement

-- those that come after the message was read
abbrev pub rules_of : Identity → Moment → Evidence → Info → List Rule
rules_of identity when evidence (Plain kind content) = plain_rules content
rules_of identity when evidence (SignedData signed) =
    voucher_rules identity when evidence.ov ++ owner_rules evidence.oc
    ++ information_rules identity when evidence signed

-- the conveyed information does not read, or the first rule that applies to the message gives this reason
abbrev pub IsRefusedFor : Identity → Moment → Evidence → Rule
IsRefusedFor identity when evidence found =
    Unreadable artifact.Conveyed evidence.ci found
    ⊎ ((info : Info) × InfoOf evidence.ci info × First (OtherKind info ∷ rules_of identity when evidence info) found)

-- ---- the judgement

-- the conveyed information is not signed, and sends the device to these targets
pub record IsUnsigned (ci : List ℕ) (targets : List Target) : Type 0 where
  pub kind : List ℕ
  pub content : List ℕ
  pub is_plain : InfoOf ci (Plain kind content)
  pub is_information : IsInformation kind
  pub conveys : ConveyedOf content (conveyed.Redirect targets)

-- the answer on the evidence
abbrev pub Judgement : Identity → Moment → Evidence → Result Judged Reason → Type 0
Judgement identity when evidence (Ok (judged.Onboarding onboarding)) =
    Authenticated identity when evidence (conveyed.Onboarding onboarding)
Judgement identity when evidence (Ok (judged.Redirect targets)) =
    Authenticated identity when evidence (conveyed.Redirect targets)
Judgement identity when evidence (Ok (judged.Unsigned targets)) = IsUnsigned evidence.ci targets
Judgement identity when evidence (Err found) = IsRefusedFor identity when evidence found
