-- The rules of verification as a list of tests in their order, and the first that fails (RFC 8554 sections
-- 4.6, 5.4.2 and 6.3; the order is this project's own where the standard leaves it open).
use Rattle.std.specs.Prelude.{ℕ, zero, suc, ◌+◌, ◌-◌, ◌*◌, ◌^◌, ◌==◌, ◌&&◌, nat_lt, nat_le, if◌then◌else◌, Bool, false, List, [], ◌∷◌, ◌++◌, length, take, drop, Option, Some, None}
use Rattle.std.specs.Option.{is_some}
use Rattle.std.specs.Str.{bytes_eq}
use Rattle.sz_lms.specs.Bits.{u32_at, values_of}
use Rattle.sz_lms.specs.Ots.{OtsType, ots_type, ots_key, key_of_digest, message_digest}
use Rattle.sz_lms.specs.Lms.{height_of, leaf_node, climb, lms_public_length}
use Rattle.sz_lms.specs.Hss.{hss_public_length, most_levels}

-- what a rule speaks of
pub data Rule : Type 0 where
  Length : Rule
  Levels : Rule
  Scheme : Rule
  LeafNumber : Rule
  Root : Rule

-- the rule of the first test that fails
unfoldable pub first_failing : List (Bool × Rule) → Option Rule
first_failing [] = None
first_failing (test ∷ tests) = if test.0 then first_failing tests else Some test.1

-- the tests of a known type, or the one that it isn't known
abbrev pub where_known : {T : Type 0} → Option T → (T → List (Bool × Rule)) → List (Bool × Rule)
where_known None rules = (false, Scheme) ∷ []
where_known (Some type) rules = rules type

-- ---- one-time signatures

-- how long a one-time signature of the type is
abbrev pub ots_length : OtsType → ℕ
ots_length type = 36 + 32 * type.chains

-- on a one-time signature by itself
abbrev pub ots_rules : List ℕ → List (Bool × Rule)
ots_rules signature =
    (nat_le 4 (length signature), Length)
    ∷ where_known (ots_type (u32_at signature 0)) (λ type. (length signature == ots_length type, Length) ∷ [])

-- the key that one leads to
abbrev pub ots_key_at : List ℕ → ℕ → OtsType → List ℕ → List ℕ → List ℕ
ots_key_at id q type signature message =
    ots_key id q type (take 32 (drop 4 signature)) (values_of type.chains (drop 36 signature)) message

-- ---- one level

-- the types of an LMS public key
pub record TreeType : Type 0 where
  pub height : ℕ
  pub ots : OtsType

abbrev pub both : Option ℕ → Option OtsType → Option TreeType
both None type = None
both (Some height) None = None
both (Some height) (Some type) = Some (record { height = height; ots = type })

abbrev pub tree_type : List ℕ → Option TreeType
tree_type key = both (height_of (u32_at key 0)) (ots_type (u32_at key 4))

-- how long an LMS signature of the types is: q, the one-time signature, the tree's type and the path
abbrev pub lms_length : TreeType → ℕ
lms_length type = 4 + ots_length type.ots + 4 + 32 * type.height

-- on the LMS signature at the front of the bytes, under a key of these types
abbrev pub signature_rules : List ℕ → TreeType → List ℕ → List (Bool × Rule)
signature_rules key type bytes =
    (nat_le 8 (length bytes), Length)
    ∷ (u32_at bytes 4 == u32_at key 4, Scheme)
    ∷ (nat_le (8 + ots_length type.ots) (length bytes), Length)
    ∷ (u32_at bytes (4 + ots_length type.ots) == u32_at key 0, Scheme)
    ∷ (nat_le (lms_length type) (length bytes), Length)
    ∷ (nat_lt (u32_at bytes 0) (2 ^ type.height), LeafNumber)
    ∷ []

-- what the one-time signature in the LMS signature at the front of the bytes signs: Q of the message
abbrev pub signed_digest : List ℕ → List ℕ → List ℕ → List ℕ
signed_digest key bytes message =
    message_digest (take 16 (drop 8 key)) (u32_at bytes 0) (take 32 (drop 4 (drop 4 bytes))) message

-- the root that it leads to from a digest Q
abbrev pub root_of_digest : List ℕ → TreeType → List ℕ → List ℕ → List ℕ
root_of_digest key type digest bytes =
    let id = take 16 (drop 8 key) in
    let q = u32_at bytes 0 in
    climb id (2 ^ type.height + q)
    (leaf_node id (2 ^ type.height + q)
    (key_of_digest id q type.ots (values_of type.ots.chains (drop 36 (drop 4 bytes))) digest))
    (values_of type.height (drop (8 + ots_length type.ots) bytes))

-- the root that the LMS signature at the front of the bytes leads to
unfoldable pub root_from : List ℕ → TreeType → List ℕ → List ℕ → List ℕ
root_from key type message bytes = root_of_digest key type (signed_digest key bytes message) bytes

-- on the way up from the leaf
abbrev pub root_rules : List ℕ → List ℕ → List ℕ → List (Bool × Rule)
root_rules key message bytes =
    where_known (tree_type key) (λ type. (bytes_eq (root_from key type message bytes) (drop 24 key), Root) ∷ [])

-- on a signature of one level
unfoldable pub lms_rules : List ℕ → List ℕ → List ℕ → List (Bool × Rule)
lms_rules public message signature =
    (length public == lms_public_length, Length)
    ∷ where_known (tree_type public) (λ type.
    signature_rules public type signature
    ++ (length signature == lms_length type, Length)
    ∷ root_rules public message signature)

-- ---- all levels

-- the key that stands behind an LMS signature, and the bytes behind that key
abbrev pub next_key : TreeType → List ℕ → List ℕ
next_key type bytes = take lms_public_length (drop (lms_length type) bytes)

abbrev pub next_bytes : TreeType → List ℕ → List ℕ
next_bytes type bytes = drop (lms_length type + lms_public_length) bytes

-- lengths, types and leaf numbers, from the front: n more levels stand below this key
unfoldable pub level_rules : ℕ → List ℕ → List ℕ → List (Bool × Rule)
level_rules zero key bytes = where_known (tree_type key) (λ type.
    signature_rules key type bytes ++ (length bytes == lms_length type, Length) ∷ [])
level_rules (suc n) key bytes = where_known (tree_type key) (λ type.
    signature_rules key type bytes
    ++ (nat_le (lms_length type + lms_public_length) (length bytes), Length)
    ∷ level_rules n (next_key type bytes) (next_bytes type bytes))

-- then the ways up to the roots, from the front
unfoldable pub climb_rules : ℕ → List ℕ → List ℕ → List ℕ → List (Bool × Rule)
climb_rules zero key message bytes = root_rules key message bytes
climb_rules (suc n) key message bytes = where_known (tree_type key) (λ type.
    root_rules key (next_key type bytes) bytes
    ++ climb_rules n (next_key type bytes) message (next_bytes type bytes))

-- on the number of levels, and the types of the top key
abbrev pub head_rules : List ℕ → List ℕ → List (Bool × Rule)
head_rules public signature =
    let levels = u32_at public 0 in
    (length public == hss_public_length, Length)
    ∷ (nat_le 1 levels && nat_le levels most_levels, Levels)
    ∷ (is_some (tree_type (drop 4 public)), Scheme)
    ∷ (nat_le 4 (length signature), Length)
    ∷ (u32_at signature 0 == levels - 1, Levels)
    ∷ []

unfoldable pub hss_rules : List ℕ → List ℕ → List ℕ → List (Bool × Rule)
hss_rules public message signature =
    let below = u32_at public 0 - 1 in
    head_rules public signature
    ++ level_rules below (drop 4 public) (drop 4 signature)
    ++ climb_rules below (drop 4 public) message (drop 4 signature)

-- the first rule that a signature breaks, or none
abbrev pub lms_first : List ℕ → List ℕ → List ℕ → Option Rule
lms_first public message signature = first_failing (lms_rules public message signature)

abbrev pub hss_first : List ℕ → List ℕ → List ℕ → Option Rule
hss_first public message signature = first_failing (hss_rules public message signature)
