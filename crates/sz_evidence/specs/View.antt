-- What the contracts of the steps say of their answers.
use Rattle.std.specs.Prelude.{ℕ, ⊤, List, Option, option_map}
use Rattle.sz_cms.specs.Message as message
use Rattle.sz_cms.specs.View.{signed_of}
use Rattle.sz_cms.specs.declared.info.Signed.{Signed}
use Rattle.sz_artifacts.specs.Conveyed.{ConveyedOf}
use Rattle.sz_artifacts.specs.declared.conveyed.Conveyed.TheVariants as conveyed
use Rattle.sz_json.specs.declared.fault.JsonFault.{JsonFault}
use Rattle.sz_json.specs.declared.fault.JsonFault.TheVariants as json
use Rattle.sz_evidence.specs.Judgement.{Rule}
use Rattle.sz_evidence.specs.declared.judgement.Judged.{Judged}
use Rattle.sz_evidence.specs.declared.judgement.Judged.TheVariants as judged
use Rattle.sz_evidence.specs.declared.judgement.Refusal.{Refusal}
use Rattle.sz_evidence.specs.declared.judgement.Refusal.TheVariants as refusal
use Rattle.sz_evidence.specs.declared.reason.Reason.TheVariants as reason

-- a reason is answered only where the rule gives it; else memory ran out
abbrev pub IsReason : Rule → Refusal → Type 0
IsReason rule (refusal.Reason found) = rule found
IsReason rule refusal.OutOfMemory = ⊤

-- the answer of a reader of JSON, handed on
abbrev pub json_refusal : JsonFault → Refusal
json_refusal (json.Member found) = refusal.Reason (reason.Member found)
json_refusal json.OutOfMemory = refusal.OutOfMemory

-- the owner certificate, where it is there
abbrev pub owner_of : Option Signed → Option message.Signed
owner_of owner = option_map signed_of owner

-- a redirect that is not signed
abbrev pub IsPlainJudged : List ℕ → Judged → Type 0
IsPlainJudged content (judged.Unsigned targets) = ConveyedOf content (conveyed.Redirect targets)
IsPlainJudged content (judged.Redirect targets) = ⊥
IsPlainJudged content (judged.Onboarding onboarding) = ⊥
