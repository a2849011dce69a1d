-- What is written has no float, and nests in few levels.
use Rattle.std.proofs.Common.{ℕ, List, [], ◌∷◌, refl, arith}
use Rattle.sz_base.specs.declared.target.Target.{Target}
use Rattle.sz_json.proofs.Objects.{IsPlain, IsPlainWhere, plain_array, plain_members_of, plain_text, plain_where}
use Rattle.sz_json.specs.Object.{binary_value}
use Rattle.serde_json.specs.Data.{string}
use Rattle.sz_artifacts.specs.WrittenInformation.{hash_members, image_members, image_value, information_members, information_value, onboarding_members, onboarding_value, redirect_members, redirect_value, server_members, server_value, servers_members, uris_value, verification_value}
use Rattle.sz_artifacts.specs.declared.conveyed.onboarding.BootImage.{BootImage}
use Rattle.sz_artifacts.specs.declared.conveyed.onboarding.Onboarding.{Onboarding}

plain_server : (target : Target) → IsPlain 1 (server_value target)
plain_server target =
    plain_members_of 0 (server_members target) (record { no_float = refl; shallow = omega arith }, (record { no_float = refl; shallow = omega arith }, tt))

pub plain_redirect : (targets : List Target) → IsPlain 4 (redirect_value targets)
plain_redirect targets =
    let servers = plain_array 1 server_value targets plain_server in
    let information = plain_members_of 2 (servers_members targets) (servers, tt) in
    plain_members_of 3 (redirect_members targets) (information, tt)

plain_uris : (uris : List (List ℕ)) → IsPlainWhere 3 (uris_value uris)
plain_uris [] = tt
plain_uris (uri ∷ uris) =
    let all = plain_array 2 string (uri ∷ uris) (plain_text 2) in
    all

plain_verification : (hash : List ℕ) → IsPlain 3 (verification_value hash)
plain_verification hash =
    let entry = plain_members_of 1 (hash_members hash) (plain_text 1 _, (plain_text 1 _, tt)) in
    record { no_float = rw entry.no_float; shallow = omega (arith, entry.shallow) }

plain_image : (image : BootImage) → IsPlain 4 (image_value image)
plain_image image = plain_members_of 3 (image_members image) (
  plain_where 3 string image.os_name (plain_text 3),
  (
    plain_where 3 string image.os_version (plain_text 3),
    (
      plain_uris image.uris,
      (plain_where 3 verification_value image.hash plain_verification, tt),
    ),
  ),
)

plain_binary : (bytes : List ℕ) → IsPlain 4 (binary_value bytes)
plain_binary bytes = plain_text 4 _

plain_information : (onboarding : Onboarding) → IsPlain 5 (information_value onboarding)
plain_information onboarding = plain_members_of 4 (information_members onboarding) (
  plain_where 4 image_value onboarding.image plain_image,
  (
    plain_text 4 _,
    (
      plain_where 4 binary_value onboarding.pre plain_binary,
      (
        plain_where 4 binary_value onboarding.configuration plain_binary,
        (plain_where 4 binary_value onboarding.post plain_binary, tt),
      ),
    ),
  ),
)

pub plain_onboarding : (onboarding : Onboarding) → IsPlain 6 (onboarding_value onboarding)
plain_onboarding onboarding = plain_members_of 5 (onboarding_members onboarding) (plain_information onboarding, tt)
