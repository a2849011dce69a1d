-- The rules in the parts in which they are tested, level by level. What the standard says is in Ots, Lms and Hss,
-- and the order of the rules is in Rules.
use Rattle.std.specs.Prelude.{◌≡◌, ℕ, zero, suc, ◌+◌, ◌-◌, ◌^◌, ◌<◌, ◌≤◌, nat_le, Bool, List, [], ◌∷◌, ◌++◌, length, take, drop, Some, None}
use Rattle.sz_lms.specs.Bits.{u32_at}
use Rattle.sz_lms.specs.Lms.{lms_public_length}
use Rattle.sz_lms.specs.Ots.{message_head}
use Rattle.sz_lms.specs.Rules.{Rule, Length, TreeType, first_failing, head_rules, level_rules, lms_length, next_bytes, next_key, root_rules, signature_rules, tree_type, where_known}
use Rattle.sz_lms.specs.View.{types_of}
use Rattle.sz_lms.specs.declared.types.KeyTypes.{KeyTypes}

-- on the LMS signature at the front of the bytes, where the types of the key are not known yet
abbrev pub front_rules : List ℕ → List ℕ → List (Bool × Rule)
front_rules key bytes = where_known (tree_type key) (λ type. signature_rules key type bytes)

-- on the key behind an LMS signature, and on the LMS signature behind that key
abbrev pub next_rules : TreeType → List ℕ → List (Bool × Rule)
next_rules type bytes =
    (nat_le (lms_length type + lms_public_length) (length bytes), Length)
    ∷ front_rules (next_key type bytes) (next_bytes type bytes)

-- those of the levels above the last, whose signatures are of keys
unfoldable pub upper_climb_rules : ℕ → List ℕ → List ℕ → List (Bool × Rule)
upper_climb_rules zero key bytes = []
upper_climb_rules (suc n) key bytes = where_known (tree_type key) (λ type.
    root_rules key (next_key type bytes) bytes
    ++ upper_climb_rules n (next_key type bytes) (next_bytes type bytes))

-- those of the rules in which the message has no part
unfoldable pub rules_before_message : List ℕ → List ℕ → List (Bool × Rule)
rules_before_message public signature =
    let below = u32_at public 0 - 1 in
    head_rules public signature
    ++ level_rules below (drop 4 public) (drop 4 signature)
    ++ upper_climb_rules below (drop 4 public) (drop 4 signature)

-- what is hashed before the message to get Q of the one-time signature in the LMS signature at the front
-- of the bytes
abbrev pub signed_head : List ℕ → List ℕ → List ℕ
signed_head key bytes = message_head (take 16 (drop 8 key)) (u32_at bytes 0) (take 32 (drop 4 (drop 4 bytes)))

-- The bytes begin with an LMS signature whose lengths, types and leaf number are in order under the key.
pub record IsLevel (key bytes : List ℕ) (types : KeyTypes) : Type 0 where
  pub key_length : length key ≡ lms_public_length
  pub known : tree_type key ≡ Some (types_of types)
  pub whole : lms_length (types_of types) ≤ length bytes
  pub is_leaf : u32_at bytes 0 < 2 ^ (types_of types).height
  pub in_order : first_failing (front_rules key bytes) ≡ None
