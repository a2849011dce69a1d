-- The replies of a server as it writes them: bootstrapping data, and refusals.
use Rattle.std.specs.Prelude.{◌≡◌, ◌==◌, ℕ, List, [], ◌∷◌, Option, Some, option_map, unwrap_or, codes, IfSome, IsTrue}
use Rattle.std.specs.List.{list_any}
use Rattle.base64.specs.GeneralPurpose.{IsBytes}
use Rattle.http.specs.StatusCode.{code_digits, reason_phrase}
use Rattle.serde_json.specs.Data.{Data, object}
use Rattle.serde_json.specs.Written.{compact_text}
use Rattle.sz_base.specs.declared.evidence.Evidence.{Evidence}
use Rattle.sz_json.specs.Object.{binary_value, members_of}
use Rattle.sz_json.specs.declared.name.Name.{Name}
use Rattle.sz_json.specs.declared.name.Name.TheVariants as name
use Rattle.sz_http.specs.Parts.{Parts}
use Rattle.sz_http.specs.declared.kind.Kind.TheVariants as kind
use Rattle.sz_rest.specs.Message.{IsMessage, message_text, start_line, version, yang_json}
use Rattle.sz_rest.specs.Reply.{ReplyOf}

-- a status with its phrase (RFC 9112 section 4, RFC 9110 section 15)
abbrev pub status_line : ℕ → List ℕ
status_line status = start_line version (code_digits status) (unwrap_or (reason_phrase status) [])

-- ---- bootstrapping data

abbrev pub output_members : Evidence → List (Name × Option Data)
output_members evidence =
    (name.ConveyedInformation, Some (binary_value evidence.ci))
    ∷ (name.OwnerCertificate, option_map binary_value evidence.oc)
    ∷ (name.OwnershipVoucher, option_map binary_value evidence.ov)
    ∷ []

abbrev pub output_value : Evidence → Data
output_value evidence = object (members_of (output_members evidence))

abbrev pub reply_members : Evidence → List (Name × Option Data)
reply_members evidence = (name.Output, Some (output_value evidence)) ∷ []

abbrev pub reply_value : Evidence → Data
reply_value evidence = object (members_of (reply_members evidence))

abbrev pub reply_text : Evidence → List ℕ
reply_text evidence =
    message_text (status_line 200) ((codes "Content-Type", yang_json) ∷ []) (compact_text (reply_value evidence))

-- the artifacts are of bytes
pub record AreBytes (evidence : Evidence) : Type 0 where
  pub ci : IsBytes evidence.ci
  pub oc : IfSome evidence.oc IsBytes
  pub ov : IfSome evidence.ov IsBytes

-- the text is a reply of status 200 with this evidence
abbrev pub IsReplyWith : Evidence → List ℕ → Type 0
IsReplyWith evidence text =
    (head : Parts) × (body : List ℕ) × IsMessage kind.Reply text head body × (head.status ≡ 200) × ReplyOf body evidence

-- ---- refusals

-- the statuses with which a server refuses
abbrev pub refusals : List ℕ
refusals = 400 ∷ 404 ∷ 405 ∷ 413 ∷ 415 ∷ 500 ∷ []

abbrev pub IsRefusal : ℕ → Type 0
IsRefusal status = IsTrue (list_any (λ refusal. refusal == status) refusals)

-- without a body
abbrev pub refusal_text : ℕ → List ℕ
refusal_text status = message_text (status_line status) [] []

-- the text is a reply of this status without a body
abbrev pub IsReplyOf : ℕ → List ℕ → Type 0
IsReplyOf status text = (head : Parts) × IsMessage kind.Reply text head [] × (head.status ≡ status)
