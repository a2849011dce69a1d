-- A value has no fault exactly where it is that of a reply whose artifacts fit, and it has one evidence.
use Rattle.std.proofs.Common.{◌≡◌, ◌⊎◌, ℕ, List, Option, Some, None, IfOk, IfErr, Result, Ok, Err, refl, ap, subst, inl, inr}
use Rattle.serde_json.specs.Data.{Data}
use Rattle.sz_base.specs.declared.evidence.Evidence.{Evidence}
use Rattle.sz_json.specs.Bounded.{IsBoundedJson}
use Rattle.sz_json.specs.Form.{binary_of, object_of}
use Rattle.sz_json.specs.Member.{optional, required}
use Rattle.sz_json.specs.declared.name.Name.TheVariants as name
use Rattle.sz_rest.proofs.Faults.{fitting, fitting_where, neither, read_member, size_fault_none, size_fault_where_none}
use Rattle.sz_rest.specs.Reply.{FitsLimits, HasArtifacts, IsBodyFault, IsReplyFault, output_fault, ReplyOf, RepliesWith, reply_fault, size_fault, size_fault_where}
use Rattle.sz_rest.specs.declared.fault.RestFault.{RestFault}
use Rattle.sz_rest.specs.declared.fault.RestFault.TheVariants.{Status, Member, TooLarge, OutOfMemory}

output_fault_none : (output : Data) (evidence : Evidence) → HasArtifacts output evidence → FitsLimits evidence → output_fault output ≡ None
output_fault_none output evidence h fits =
    let ci = size_fault_none evidence.ci fits.conveyed_information in
    let oc = size_fault_where_none evidence.oc fits.owner_certificate in
    let ov = size_fault_where_none evidence.ov fits.ownership_voucher in
    rw (h.conveyed_information, h.owner_certificate, h.ownership_voucher, ci, oc, ov)

pub reply_fault_none : (value : Data) (evidence : Evidence) → RepliesWith value evidence → FitsLimits evidence → reply_fault value ≡ None
reply_fault_none value evidence h fits = rw h.top (output_fault_none h.output evidence h.artifacts fits)

pub read_reply : (value : Data) → reply_fault value ≡ None → (evidence : Evidence) × RepliesWith value evidence × FitsLimits evidence
read_reply value h =
    let top = read_member (required object_of name.Output value) output_fault h in
    let from_1 = neither _ _ top.2 in
    let from_2 = neither _ _ from_1.1 in
    let from_3 = neither _ _ from_2.1 in
    let ci = read_member (required binary_of name.ConveyedInformation top.0) size_fault from_1.0 in
    let oc = read_member (optional binary_of name.OwnerCertificate top.0) size_fault_where from_2.0 in
    let ov = read_member (optional binary_of name.OwnershipVoucher top.0) size_fault_where from_3.0 in (
      record { ci = ci.0; oc = oc.0; ov = ov.0 },
      record {
        output = top.0;
        top = top.1;
        artifacts = record { conveyed_information = ci.1; owner_certificate = oc.1; ownership_voucher = ov.1 };
      },
      record {
        conveyed_information = fitting ci.0 ci.2;
        owner_certificate = fitting_where oc.0 oc.2;
        ownership_voucher = fitting_where ov.0 ov.2;
      },
    )

same_parts : (evidence : Evidence) (ci : List ℕ) (oc ov : Option (List ℕ)) → evidence.ci ≡ ci → evidence.oc ≡ oc → evidence.ov ≡ ov
    → evidence ≡ record { ci = ci; oc = oc; ov = ov }
same_parts evidence ci oc ov a b c = rw (← a, ← b, ← c) refl

same_artifacts : (output : Data) (evidence other : Evidence) → HasArtifacts output evidence → HasArtifacts output other → evidence ≡ other
same_artifacts output evidence other h g =
    let ci : evidence.ci ≡ other.ci = cc (h.conveyed_information, g.conveyed_information) in
    let oc : evidence.oc ≡ other.oc = cc (h.owner_certificate, g.owner_certificate) in
    let ov : evidence.ov ≡ other.ov = cc (h.ownership_voucher, g.ownership_voucher) in
    same_parts evidence other.ci other.oc other.ov ci oc ov

pub one_evidence : (value : Data) (evidence other : Evidence) → RepliesWith value evidence → RepliesWith value other → evidence ≡ other
one_evidence value evidence other h g =
    let same : g.output ≡ h.output = cc (h.top, g.top) in
    same_artifacts h.output evidence other h.artifacts (subst (λ output. HasArtifacts output other) same g.artifacts)

-- a body has one value
same_value : (body : List ℕ) (value other : Data) → IsBoundedJson body value → IsBoundedJson body other → other ≡ value
same_value body value other h g = cc (h.json.1, g.json.1)

no_fault : (body : List ℕ) (evidence : Evidence) (fault : RestFault) → ReplyOf body evidence → FitsLimits evidence → IsBodyFault body fault → ⊥
no_fault body evidence fault h fits (inl none) = none.1 h.0 h.1
no_fault body evidence fault h fits (inr found) =
    let same = same_value body h.0 found.0 h.1 found.1 in
    let none = reply_fault_none h.0 evidence h.2 fits in
    let some = subst (λ value. reply_fault value ≡ Some fault) same found.2 in
    cc (none, some)

pub reads_back : (body : List ℕ) (evidence : Evidence) (answer : Result Evidence RestFault) → ReplyOf body evidence → FitsLimits evidence
    → IfOk answer (ReplyOf body) → IfErr answer (IsReplyFault 200 body) → (answer ≡ Ok evidence) ⊎ (answer ≡ Err OutOfMemory)
reads_back body evidence (Ok other) h fits ok refused =
    let same = same_value body h.0 ok.0 h.1 ok.1 in
    let reply = subst (λ value. RepliesWith value other) same ok.2 in
    inl (ap Ok (one_evidence h.0 other evidence reply h.2))
reads_back body evidence (Err (Status code)) h fits ok refused = absurd (refused.1 refl)
reads_back body evidence (Err (Member name)) h fits ok refused = absurd (no_fault body evidence (Member name) h fits refused.1)
reads_back body evidence (Err (TooLarge limit)) h fits ok refused = absurd (no_fault body evidence (TooLarge limit) h fits refused.1)
reads_back body evidence (Err OutOfMemory) h fits ok refused = inr refl
