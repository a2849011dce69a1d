-- What is written has no float, nests in few levels and has few marks.
use Rattle.std.proofs.Common.{ℕ, Bool, List, [], ◌∷◌, Option, Some, None, option_map, refl, arith}
use Rattle.serde_json.specs.Data.{boolean, string}
use Rattle.sz_json.proofs.Light.{AreLight, IsLight, light_flag, light_member, light_no_members, light_object, light_text}
use Rattle.sz_json.proofs.Objects.{IsPlain, plain_members_of, plain_text, plain_where}
use Rattle.sz_json.specs.Object.{binary_value, members_of}
use Rattle.sz_json.specs.declared.name.Name.TheVariants as name
use Rattle.sz_artifacts.specs.Assertion.{assertion_text}
use Rattle.sz_artifacts.specs.WrittenVoucher.{inner_members, outer_members, voucher_value}
use Rattle.sz_artifacts.specs.declared.voucher.Voucher.{Voucher}

plain_binary : (bytes : List ℕ) → IsPlain 0 (binary_value bytes)
plain_binary bytes = plain_text 0 _

pub plain_voucher : (voucher : Voucher) (created : List ℕ) (end : Option (List ℕ)) → IsPlain 2 (voucher_value voucher created end)
plain_voucher voucher created end =
    let inside = plain_members_of 0 (inner_members voucher created end) (
      plain_text 0 _,
      (
        plain_where 0 string end (plain_text 0),
        (
          plain_text 0 _,
          (
            plain_text 0 _,
            (
              plain_text 0 _,
              (
                record { no_float = refl; shallow = omega arith },
                (plain_where 0 binary_value voucher.nonce plain_binary, tt),
              ),
            ),
          ),
        ),
      ),
    ) in
    plain_members_of 1 (outer_members voucher created end) (inside, tt)

light_inner : (created : List ℕ) (end : Option (List ℕ)) (assertion serial pinned : List ℕ) (revocation : Bool) (nonce : Option (List ℕ)) → AreLight 14 (
    members_of (
    (name.CreatedOn, Some (string created))
    ∷ (name.ExpiresOn, option_map string end)
    ∷ (name.Assertion, Some (string assertion))
    ∷ (name.SerialNumber, Some (string serial))
    ∷ (name.PinnedDomainCert, Some (binary_value pinned))
    ∷ (name.DomainCertRevocationChecks, Some (boolean revocation))
    ∷ (name.Nonce, option_map binary_value nonce)
    ∷ []
    )
    )
light_inner created None assertion serial pinned revocation None =
    light_member 0 12 _ _ _ (light_text _)
    (light_member 0 10 _ _ _ (light_text _)
    (light_member 0 8 _ _ _ (light_flag _)
    (light_member 0 6 _ _ _ (light_text _)
    (light_member 0 4 _ _ _ (light_text _)
    (light_no_members 4)))))
light_inner created None assertion serial pinned revocation (Some nonce) =
    light_member 0 12 _ _ _ (light_text _)
    (light_member 0 10 _ _ _ (light_text _)
    (light_member 0 8 _ _ _ (light_flag _)
    (light_member 0 6 _ _ _ (light_text _)
    (light_member 0 4 _ _ _ (light_text _)
    (light_member 0 2 _ _ _ (light_text _)
    (light_no_members 2))))))
light_inner created (Some end) assertion serial pinned revocation None =
    light_member 0 12 _ _ _ (light_text _)
    (light_member 0 10 _ _ _ (light_text _)
    (light_member 0 8 _ _ _ (light_flag _)
    (light_member 0 6 _ _ _ (light_text _)
    (light_member 0 4 _ _ _ (light_text _)
    (light_member 0 2 _ _ _ (light_text _)
    (light_no_members 2))))))
light_inner created (Some end) assertion serial pinned revocation (Some nonce) =
    light_member 0 12 _ _ _ (light_text _)
    (light_member 0 10 _ _ _ (light_text _)
    (light_member 0 8 _ _ _ (light_flag _)
    (light_member 0 6 _ _ _ (light_text _)
    (light_member 0 4 _ _ _ (light_text _)
    (light_member 0 2 _ _ _ (light_text _)
    (light_member 0 0 _ _ _ (light_text _)
    (light_no_members 0)))))))

pub light_voucher : (voucher : Voucher) (created : List ℕ) (end : Option (List ℕ)) → IsLight 18 (voucher_value voucher created end)
light_voucher voucher created end =
    let inside = light_object 14 _
    (light_inner created end (assertion_text voucher.assertion) voucher.serial voucher.pinned voucher.revocation voucher.nonce) in
    light_object 17 _ (light_member 15 0 _ _ _ inside (light_no_members 0))
