-- What is written of a reply reads as its evidence, and is a message.
use Rattle.std.proofs.Common.{◌≡◌, ℕ, ◌<◌, ◌^◌, List, [], ◌∷◌, length, codes, Option, Some, None, IfSome, refl, arith, lit<, lit≤}
use Rattle.base64.specs.GeneralPurpose.{IsBytes}
use Rattle.sz_base.specs.Encoding.{base64_text}
use Rattle.sz_base.specs.declared.evidence.Evidence.{Evidence}
use Rattle.sz_json.proofs.Base64.{base64_of-text}
use Rattle.sz_json.proofs.Objects.{optional-members_of, or_before-None, required-members_of}
use Rattle.sz_json.specs.Form.{binary_of, object_of}
use Rattle.sz_json.specs.Object.{binary_value}
use Rattle.sz_json.specs.declared.name.Name.TheVariants as name
use Rattle.sz_rest.proofs.Messages.{reply_is_message, reply_parts, Suits}
use Rattle.sz_rest.proofs.Requests.{number_short, plain_length, plain_type}
use Rattle.sz_rest.proofs.Statuses.{IsKnown, known_200, phrase_of}
use Rattle.sz_rest.specs.Message.{message_text, with_length, yang_json}
use Rattle.sz_rest.specs.Reply.{ReplyOf, RepliesWith}
use Rattle.sz_rest.specs.ReplyText.{AreBytes, IsReplyOf, IsReplyWith, output_members, output_value, reply_members, reply_value, status_line}

binary_back : (bytes : List ℕ) → IsBytes bytes → binary_of (binary_value bytes) ≡ Some bytes
binary_back bytes fit = base64_of-text (base64_text bytes) bytes (record { bytes_fit = fit; spelled = refl })

where_back : (artifact : Option (List ℕ)) → IfSome artifact IsBytes → (bytes : List ℕ) → artifact ≡ Some bytes
    → binary_of (binary_value bytes) ≡ Some bytes
where_back None fit bytes e = cc
where_back (Some artifact) fit bytes e = let same : artifact ≡ bytes = cc in rw same at (binary_back artifact fit)

pub reply_reads_back : (evidence : Evidence) → AreBytes evidence → RepliesWith (reply_value evidence) evidence
reply_reads_back evidence h =
    let list = output_members evidence in
    record {
      output = output_value evidence;
      top = required-members_of object_of name.Output (reply_members evidence) (output_value evidence) refl;
      artifacts = record {
        conveyed_information = required-members_of binary_of name.ConveyedInformation list evidence.ci (binary_back evidence.ci h.ci);
        owner_certificate = optional-members_of binary_of name.OwnerCertificate list evidence.oc binary_value (or_before-None _) (where_back evidence.oc h.oc);
        ownership_voucher = optional-members_of binary_of name.OwnershipVoucher list evidence.ov binary_value (or_before-None _) (where_back evidence.ov h.ov);
      };
    }

-- ---- the messages

with_type : (body : List ℕ) → length body < 2 ^ 64 → Suits (status_line 200) (with_length ((codes "Content-Type", yang_json) ∷ []) body) body
with_type body small = record {
  plain = (plain_type, (plain_length body small, tt));
  few = lit≤ tt;
  short = omega (arith, known_200.short, number_short (length body) small);
  one_length = refl;
  not_chunked = refl;
  not_coded = refl;
}

pub replies : (evidence : Evidence) (body : List ℕ) → length body < 2 ^ 64 → ReplyOf body evidence
    → IsReplyWith evidence (message_text (status_line 200) ((codes "Content-Type", yang_json) ∷ []) body)
replies evidence body small reply = (
  reply_parts 200 (with_length ((codes "Content-Type", yang_json) ∷ []) body),
  body,
  reply_is_message 200 (phrase_of 200) ((codes "Content-Type", yang_json) ∷ []) body known_200.start (with_type body small) small,
  refl,
  reply,
)

without_body : (status : ℕ) → IsKnown status → Suits (status_line status) (with_length [] []) []
without_body status known = record {
  plain = (plain_length [] (lit< tt), tt);
  few = lit≤ tt;
  short = omega (arith, known.short, number_short 0 (lit< tt));
  one_length = refl;
  not_chunked = refl;
  not_coded = refl;
}

pub refuses : (status : ℕ) → IsKnown status → IsReplyOf status (message_text (status_line status) [] [])
refuses status known = (
  reply_parts status (with_length [] []),
  reply_is_message status (phrase_of status) [] [] known.start (without_body status known) (lit< tt),
  refl,
)
