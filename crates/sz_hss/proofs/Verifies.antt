-- What a key signs verifies under its public key.
use Rattle.std.proofs.Common.{◌≡◌, ℕ, ◌^◌, ◌<◌, List, [], ◌∷◌, ◌++◌, length, refl, arith, append_assoc, IsTrue, length-take-le, pow_pos}
use Rattle.std.specs.Int.{w32, to_be_bytes}
use Rattle.std.specs.List.{list_all}
use Rattle.std.proofs.lemmas.Bool.{and_parts}
use Rattle.sha2.proofs.Facts256.{length-sha256}
use Rattle.sz_lms.specs.Hss.{LevelsOk, HssOk}
use Rattle.sz_lms_tree.specs.Tree.{TreeSecret, IsAllowed, is_height, is_width, public_of, signature_of}
use Rattle.sz_lms_tree.proofs.Signed.{verifies}
use Rattle.sz_hss.specs.Key.{Shape, HssKey, IsKey, is_shape, top_shape}
use Rattle.sz_hss.specs.Leaf.{leaf_at, child_at, lowest_at}
use Rattle.sz_hss.specs.Signature.{hss_public_of, hss_signature_of, last_of, pairs_of}

pub leaf_at-exists : (height : ℕ) (below : List Shape) (n : ℕ) → leaf_at height below n < 2 ^ height
leaf_at-exists height below n = omega (arith, pow_pos height)

pub IsAllowed-child : (secret : TreeSecret) (shape : Shape) (below : List Shape) (n : ℕ) → IsTrue (is_shape shape)
    → IsAllowed (child_at secret shape below n)
IsAllowed-child secret shape below n allowed = let parts = and_parts (is_height shape.height) (is_width shape.width) allowed in
    record { height = parts.0; width = parts.1 }

pub length-child_id : (secret : TreeSecret) (shape : Shape) (below : List Shape) (n : ℕ)
    → length (child_at secret shape below n).id ≡ 16
length-child_id secret shape below n = length-take-le 16 _ (omega (arith, length-sha256))

LevelsOk-signed : (secret : TreeSecret) (below : List Shape) (n : ℕ) (message : List ℕ) → IsAllowed secret
    → length secret.id ≡ 16 → IsTrue (list_all is_shape below)
    → LevelsOk (length below) (public_of secret) message (pairs_of secret below n ++ last_of (lowest_at secret below n) n message)
unfolding pairs_of lowest_at LevelsOk
LevelsOk-signed secret [] n message allowed id shapes =
    verifies secret (leaf_at secret.height [] n) message allowed id (leaf_at-exists secret.height [] n)
LevelsOk-signed secret (shape ∷ below) n message allowed id shapes =
    let q = leaf_at secret.height (shape ∷ below) n in
    let child = child_at secret shape below n in
    let signature = signature_of secret q (public_of child) in
    let last = last_of (lowest_at child below n) n message in
    let parts = and_parts (is_shape shape) (list_all is_shape below) shapes in (
      signature,
      public_of child,
      pairs_of child below n ++ last,
      append_assoc (signature ++ public_of child) (pairs_of child below n) last,
      verifies secret q (public_of child) allowed id (leaf_at-exists secret.height (shape ∷ below) n),
      LevelsOk-signed child below n message (IsAllowed-child secret shape below n parts.0)
          (length-child_id secret shape below n) parts.1,
    )

pub HssOk-signed : (key : HssKey) (n : ℕ) (message : List ℕ) → IsKey key
    → HssOk (hss_public_of key) message (hss_signature_of key n message)
unfolding hss_signature_of
HssOk-signed key n message is =
    let shapes = and_parts (is_shape (top_shape key)) (list_all is_shape key.below) is.levels.allowed in
    let top = and_parts (is_height key.top.height) (is_width key.top.width) shapes.0 in
    record {
      below = length key.below;
      few = omega (arith, is.levels.few);
      key = public_of key.top;
      levels = pairs_of key.top key.below n ++ last_of (lowest_at key.top key.below n) n message;
      public_is = refl;
      signature_is = append_assoc (to_be_bytes w32 (length key.below)) (pairs_of key.top key.below n) (last_of (lowest_at key.top key.below n) n message);
      each = LevelsOk-signed key.top key.below n message
          (record { height = top.0; width = top.1 })
          is.id_length shapes.1;
    }
