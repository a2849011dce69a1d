-- No judgement gives Lost, which is a reason of visits alone: no rule of its table has it.
use Rattle.std.proofs.Common.{◌≡◌, ℕ, Bool, true, false, if◌then◌else◌, List, [], ◌∷◌, ◌++◌, Option, Some, None, Err, refl, inl, inr, option_map}
use Rattle.sz_base.specs.declared.evidence.Evidence.{Evidence}
use Rattle.sz_base.specs.declared.identity.Identity.{Identity}
use Rattle.sz_base.specs.declared.moment.Moment.{Moment}
use Rattle.sz_cms.specs.Message.{Info, Plain, Signed, SignedData}
use Rattle.sz_cms.specs.MessageFault.{Fault, info_fault}
use Rattle.sz_cms.specs.declared.fault.InfoKind.{InfoKind}
use Rattle.sz_cms.specs.declared.fault.InfoKind.TheVariants as kind
use Rattle.sz_cms.specs.Identifiers.{conveyed_json_oid, conveyed_xml_oid, data_oid, enveloped_data_oid}
use Rattle.std.specs.Prelude.{◌||◌, bytes_eq}
use Rattle.sz_artifacts.specs.declared.voucher.judgement.VoucherFault.{VoucherFault}
use Rattle.sz_artifacts.specs.declared.voucher.judgement.VoucherFault.TheVariants as voucher_fault
use Rattle.sz_evidence.specs.Judgement.{First, information_rules, Judgement, kind_in, message_reason, message_reason_of, OtherKind, owner_rules, plain_rules, Rule, rules_of, Unreadable, voucher_reason, voucher_rules}
use Rattle.sz_evidence.specs.declared.reason.Artifact.{Artifact}
use Rattle.sz_evidence.specs.declared.reason.Artifact.TheVariants as artifact
use Rattle.sz_evidence.specs.declared.reason.Reason.{Reason}
use Rattle.sz_evidence.specs.declared.reason.Reason.TheVariants as reason
use Rattle.sz_answer.specs.Visit.{is_lost}
use Rattle.sz_answer.specs.declared.answer.Answer.TheVariants as answer

-- the rule never gives Lost
abbrev NeverLost : Rule → Type 0
NeverLost rule = rule reason.Lost → ⊥

-- none of the rules ever does
abbrev NoneLost : List Rule → Type 0
NoneLost [] = Unit {0}
NoneLost (rule ∷ rules) = NeverLost rule × NoneLost rules

none_joined : (rules others : List Rule) → NoneLost rules → NoneLost others → NoneLost (rules ++ others)
none_joined [] others none more = more
none_joined (rule ∷ rules) others none more = (none.0, none_joined rules others none.1 more)

first_not : (rules : List Rule) → NoneLost rules → First rules reason.Lost → ⊥
first_not [] none first = first
first_not (rule ∷ rules) none (inl gives) = none.0 gives
first_not (rule ∷ rules) none (inr later) = first_not rules none.1 later.1

-- ---- the rules

message_not : (broken : Artifact) (found : InfoKind) (place : ℕ) → message_reason_of broken found place ≡ reason.Lost → ⊥
message_not broken kind.Der place is = cc
message_not broken _ place is = cc

mapped_not : (broken : Artifact) (fault : Option Fault) → option_map (message_reason broken) fault ≡ Some reason.Lost → ⊥
mapped_not broken None is = cc
mapped_not broken (Some fault) is = message_not broken fault.0 fault.1 cc

unreadable_not : (broken : Artifact) (bytes : List ℕ) → NeverLost (Unreadable broken bytes)
unreadable_not broken bytes is = mapped_not broken (info_fault bytes) is

kind_not : (json xml enveloped : Bool) → (if json then None else if xml then Some reason.XmlContent
    else if enveloped then Some reason.Encrypted else Some (reason.BadCms artifact.Conveyed)) ≡ Some reason.Lost → ⊥
kind_not true xml enveloped is = cc
kind_not false true enveloped is = cc
kind_not false false true is = cc
kind_not false false false is = cc

other_kind_not : (info : Info) → NeverLost (OtherKind info)
other_kind_not info is =
    let kind = kind_in info in
    kind_not (bytes_eq kind conveyed_json_oid || bytes_eq kind data_oid) (bytes_eq kind conveyed_xml_oid)
    (bytes_eq kind enveloped_data_oid) is

voucher_not : (fault : VoucherFault) → reason.Lost ≡ voucher_reason fault → ⊥
voucher_not voucher_fault.WrongSerial is = cc
voucher_not voucher_fault.Nonce is = cc
voucher_not voucher_fault.Expired is = cc

-- ---- the table

plain_none : (content : List ℕ) → NoneLost (plain_rules content)
plain_none content = (λ is. let same = is.1 in cc, (λ is. let same = is.2 in cc, tt))

vouchers_none : (identity : Identity) (when : Moment) (ov : Option (List ℕ)) → NoneLost (voucher_rules identity when ov)
vouchers_none identity when ov = (
  λ is. let same = is.1 in cc,
  (
    λ is. unreadable_not artifact.Voucher is.0 is.2,
    (
      λ is. let same = is.1 in cc,
      (
        λ is. let same = is.refuses.2 in cc,
        (
          λ is. let same = is.at_fault.2 in cc,
          (
            λ is. voucher_not is.unfit.0 is.unfit.2,
            (λ is. let same = is.pins_none.1 in cc, tt),
          ),
        ),
      ),
    ),
  ),
)

owners_none : (oc : Option (List ℕ)) → NoneLost (owner_rules oc)
owners_none oc = (λ is. unreadable_not artifact.Owner is.0 is.2, (λ is. let same = is.1 in cc, tt))

information_none : (identity : Identity) (when : Moment) (evidence : Evidence) (signed : Signed)
    → NoneLost (information_rules identity when evidence signed)
information_none identity when evidence signed =
    (λ is. let same = is.refuses.2 in cc, (λ is. let same = is.at_fault.2 in cc, tt))

all_none : (identity : Identity) (when : Moment) (evidence : Evidence) (info : Info)
    → NoneLost (rules_of identity when evidence info)
all_none identity when evidence (Plain kind content) = plain_none content
all_none identity when evidence (SignedData signed) =
    none_joined (voucher_rules identity when evidence.ov ++ owner_rules evidence.oc)
    (information_rules identity when evidence signed)
    (none_joined (voucher_rules identity when evidence.ov) (owner_rules evidence.oc)
    (vouchers_none identity when evidence.ov) (owners_none evidence.oc))
    (information_none identity when evidence signed)

never_lost : (identity : Identity) (when : Moment) (evidence : Evidence)
    → Judgement identity when evidence (Err reason.Lost) → ⊥
never_lost identity when evidence (inl unreadable) = unreadable_not artifact.Conveyed evidence.ci unreadable
never_lost identity when evidence (inr told) =
    first_not (OtherKind told.0 ∷ rules_of identity when evidence told.0)
    (other_kind_not told.0, all_none identity when evidence told.0) told.2

-- a reason of a judgement is another one
pub other_reason : (identity : Identity) (when : Moment) (evidence : Evidence) (found : Reason)
    → Judgement identity when evidence (Err found) → is_lost (answer.Refused found) ≡ false
other_reason identity when evidence reason.Lost refused = absurd (never_lost identity when evidence refused)
other_reason identity when evidence _ refused = refl
