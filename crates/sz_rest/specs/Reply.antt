-- The reply with bootstrapping data as a JSON value (RFC 8572 section 7.3): three artifacts, the last two optional.
use Rattle.std.specs.Prelude.{◌≡◌, ◌≢◌, ◌≤◌, ◌⊎◌, ℕ, if◌then◌else◌, List, [], ◌∷◌, length, nat_le, Option, Some, None, IfSome, Result, Ok, Err}
use Rattle.std.specs.Option.{option_or}
use Rattle.serde_json.specs.Data.{Data}
use Rattle.sz_base.specs.declared.evidence.Evidence.{Evidence}
use Rattle.sz_json.specs.Bounded.{IsBoundedJson}
use Rattle.sz_json.specs.Form.{binary_of, object_of}
use Rattle.sz_json.specs.Member.{optional, required}
use Rattle.sz_json.specs.declared.name.Name.{Name}
use Rattle.sz_json.specs.declared.name.Name.TheVariants as name
use Rattle.sz_rest.specs.declared.fault.RestFault.{RestFault}
use Rattle.sz_rest.specs.declared.fault.RestFault.TheVariants.{Status, Member, TooLarge, OutOfMemory}
use Rattle.sz_base.specs.Evidence.{most_artifact_bytes}

-- the output has these artifacts
pub record HasArtifacts (output : Data) (evidence : Evidence) : Type 0 where
  pub conveyed_information : required binary_of name.ConveyedInformation output ≡ Ok evidence.ci
  pub owner_certificate : optional binary_of name.OwnerCertificate output ≡ Ok evidence.oc
  pub ownership_voucher : optional binary_of name.OwnershipVoucher output ≡ Ok evidence.ov

-- the value is that of a reply with this evidence
pub record RepliesWith (value : Data) (evidence : Evidence) : Type 0 where
  pub output : Data
  pub top : required object_of name.Output value ≡ Ok output
  pub artifacts : HasArtifacts output evidence

abbrev pub Fits : List ℕ → Type 0
Fits artifact = length artifact ≤ most_artifact_bytes

-- no artifact is over the limit
pub record FitsLimits (evidence : Evidence) : Type 0 where
  pub conveyed_information : Fits evidence.ci
  pub owner_certificate : IfSome evidence.oc Fits
  pub ownership_voucher : IfSome evidence.ov Fits

-- the body is a text of such a value
abbrev pub ReplyOf : List ℕ → Evidence → Type 0
ReplyOf body evidence = (value : Data) × IsBoundedJson body value × RepliesWith value evidence

-- ---- the first fault: of each member its form, and then its size

abbrev pub first_of : List (Option RestFault) → Option RestFault
first_of [] = None
first_of (fault ∷ faults) = option_or fault (first_of faults)

-- the fault of the member, or else that of what it holds
abbrev pub member_fault : {A : Type 0} → Result A Name → (A → Option RestFault) → Option RestFault
member_fault (Ok found) inside = inside found
member_fault (Err name) inside = Some (Member name)

abbrev pub size_fault : List ℕ → Option RestFault
size_fault artifact =
    if nat_le (length artifact) most_artifact_bytes then None else Some (TooLarge most_artifact_bytes)

abbrev pub size_fault_where : Option (List ℕ) → Option RestFault
size_fault_where None = None
size_fault_where (Some artifact) = size_fault artifact

abbrev pub output_fault : Data → Option RestFault
output_fault output = first_of (
    member_fault (required binary_of name.ConveyedInformation output) size_fault
    ∷ member_fault (optional binary_of name.OwnerCertificate output) size_fault_where
    ∷ member_fault (optional binary_of name.OwnershipVoucher output) size_fault_where
    ∷ [])

abbrev pub reply_fault : Data → Option RestFault
reply_fault value = member_fault (required object_of name.Output value) output_fault

-- ---- refusals

-- the answer is this fault, or memory ran out
abbrev pub IsFault : Option RestFault → RestFault → Type 0
IsFault found fault = fault ≢ OutOfMemory → found ≡ Some fault

-- the body is no bounded JSON, or the first fault of its value is this one
abbrev pub IsBodyFault : List ℕ → RestFault → Type 0
IsBodyFault body fault =
    ((fault ≡ Member name.Json) × ((value : Data) → ¬ (IsBoundedJson body value)))
    ⊎ ((value : Data) × IsBoundedJson body value × (reply_fault value ≡ Some fault))

-- the answer is a fault of the body, or memory ran out
abbrev pub IsBodyAnswer : List ℕ → RestFault → Type 0
IsBodyAnswer body fault = fault ≢ OutOfMemory → IsBodyFault body fault

-- a status other than 200 is told before the body is looked at
abbrev pub IsReplyFault : ℕ → List ℕ → RestFault → Type 0
IsReplyFault status body (Status code) = (code ≡ status) × (status ≢ 200)
IsReplyFault status body (Member name) = (status ≡ 200) × IsBodyFault body (Member name)
IsReplyFault status body (TooLarge limit) = (status ≡ 200) × IsBodyFault body (TooLarge limit)
IsReplyFault status body OutOfMemory = status ≡ 200
