-- What is written in JSON has no float, nests in few levels and has few marks.
use Rattle.std.proofs.Common.{ℕ, List, [], ◌∷◌, Option, Some, None, option_map, refl, arith}
use Rattle.sz_base.specs.declared.evidence.Evidence.{Evidence}
use Rattle.sz_json.proofs.Light.{AreLight, IsLight, light_empty, light_member, light_no_members, light_object, light_text}
use Rattle.sz_json.proofs.Objects.{IsPlain, plain_members_of, plain_text, plain_where}
use Rattle.sz_json.specs.Object.{binary_value, members_of}
use Rattle.sz_json.specs.declared.name.Name.TheVariants as name
use Rattle.sz_rest.specs.ReplyText.{output_members, reply_members, reply_value}
use Rattle.sz_rest.specs.Request.{input_members, request_members, request_value}

plain_binary : (bytes : List ℕ) → IsPlain 1 (binary_value bytes)
plain_binary bytes = plain_text 1 _

pub plain_request : (nonce : Option (List ℕ)) → IsPlain 3 (request_value nonce)
plain_request nonce =
    let input = plain_members_of 1 (input_members nonce) (
      plain_where 1 binary_value nonce plain_binary,
      (record { no_float = refl; shallow = omega arith }, tt),
    ) in
    plain_members_of 2 (request_members nonce) (input, tt)

pub plain_reply : (evidence : Evidence) → IsPlain 3 (reply_value evidence)
plain_reply evidence =
    let output = plain_members_of 1 (output_members evidence) (
      plain_binary evidence.ci,
      (plain_where 1 binary_value evidence.oc plain_binary, (plain_where 1 binary_value evidence.ov plain_binary, tt)),
    ) in
    plain_members_of 2 (reply_members evidence) (output, tt)

light_input : (nonce : Option (List ℕ)) → AreLight 5 (members_of (input_members nonce))
light_input None = light_member 1 2 _ _ _ light_empty (light_no_members 2)
light_input (Some nonce) = light_member 0 3 _ _ _ (light_text _) (light_member 1 0 _ _ _ light_empty (light_no_members 0))

pub light_request : (nonce : Option (List ℕ)) → IsLight 9 (request_value nonce)
light_request nonce = light_object 8 _ (light_member 6 0 _ _ _ (light_object 5 _ (light_input nonce)) (light_no_members 0))

light_artifacts : (ci : List ℕ) (oc ov : Option (List ℕ)) → AreLight 6 (
    members_of (
    (name.ConveyedInformation, Some (binary_value ci))
    ∷ (name.OwnerCertificate, option_map binary_value oc)
    ∷ (name.OwnershipVoucher, option_map binary_value ov)
    ∷ []
    )
    )
light_artifacts ci None None = light_member 0 4 _ _ _ (light_text _) (light_no_members 4)
light_artifacts ci None (Some ov) = light_member 0 4 _ _ _ (light_text _) (light_member 0 2 _ _ _ (light_text _) (light_no_members 2))
light_artifacts ci (Some oc) None = light_member 0 4 _ _ _ (light_text _) (light_member 0 2 _ _ _ (light_text _) (light_no_members 2))
light_artifacts ci (Some oc) (Some ov) =
    light_member 0 4 _ _ _ (light_text _) (light_member 0 2 _ _ _ (light_text _) (light_member 0 0 _ _ _ (light_text _) (light_no_members 0)))

pub light_reply : (evidence : Evidence) → IsLight 10 (reply_value evidence)
light_reply evidence =
    light_object 9 _ (light_member 7 0 _ _ _ (light_object 6 _ (light_artifacts evidence.ci evidence.oc evidence.ov)) (light_no_members 0))
