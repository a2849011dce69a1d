-- Trees of one-time keys that are all made from one secret, and what their leaves sign (RFC 8554 sections 4
-- and 5). Values are lists of 32 bytes.
use Rattle.std.specs.Prelude.{ℕ, zero, suc, ◌+◌, ◌-◌, ◌*◌, ◌/◌, ◌%◌, ◌^◌, ◌==◌, ◌||◌, if◌then◌else◌, Bool, IsTrue, List, ◌∷◌, map, take, unwrap_or}
use Rattle.std.specs.List.{range_with_len}
use Rattle.sz_lms.specs.Bits.{digit}
use Rattle.sz_lms.specs.Ots.{OtsType, LMOTS_SHA256_N32_W8, ots_type, hashed, message_digest, signed_bytes, chain, key_of_ends, ots_signature}
use Rattle.sz_lms.specs.Lms.{leaf_node, inner_node, lms_public, lms_signature}

-- what a tree is made from: SEED, I, the height, and the bits of a digit (w)
pub record TreeSecret : Type 0 where
  pub seed : List ℕ
  pub id : List ℕ
  pub height : ℕ
  pub width : ℕ

abbrev pub is_height : ℕ → Bool
is_height height = height == 5 || height == 10 || height == 15

abbrev pub is_width : ℕ → Bool
is_width width = width == 1 || width == 2 || width == 4 || width == 8

pub record IsAllowed (secret : TreeSecret) : Type 0 where
  pub height : IsTrue (is_height secret.height)
  pub width : IsTrue (is_width secret.width)

-- ---- the types of a tree

-- the code of the LMS type of this height (section 5.1, table 2)
abbrev pub tree_code : ℕ → ℕ
tree_code height = if height == 5 then 5 else if height == 10 then 6 else 7

-- the code of the LM-OTS type with digits of this many bits (section 4.1, table 1)
abbrev pub ots_code : ℕ → ℕ
ots_code width = if width == 1 then 1 else if width == 2 then 2 else if width == 4 then 3 else 4

-- the LM-OTS type with this code
abbrev pub ots_of : ℕ → OtsType
ots_of width = unwrap_or (ots_type (ots_code width)) LMOTS_SHA256_N32_W8

-- ---- what the secret gives below leaf q

-- Each value that is made from the secret has an index of its own: the numbers of the chains (appendix A),
-- and three more that are this project's own.
abbrev pub secret_value : TreeSecret → ℕ → ℕ → List ℕ
secret_value secret q index = hashed secret.id q index (0xff ∷ secret.seed)

-- the randomizer C of what the leaf signs
abbrev pub randomizer_of : TreeSecret → ℕ → List ℕ
randomizer_of secret q = secret_value secret q 0xFFFD

-- the tree that hangs below the leaf
abbrev pub child_of : TreeSecret → ℕ → ℕ → ℕ → TreeSecret
child_of secret q height width =
    record {
      seed = secret_value secret q 0xFFFE;
      id = take 16 (secret_value secret q 0xFFFF);
      height = height;
      width = width;
    }

-- chain i after n steps from its start, the secret value
unfoldable pub chain_value : TreeSecret → ℕ → ℕ → ℕ → List ℕ
chain_value secret q i n = chain secret.id q i 0 n (secret_value secret q i)

-- each chain after as many steps as are given for it
abbrev pub chain_values : TreeSecret → ℕ → (ℕ → ℕ) → List (List ℕ)
chain_values secret q steps =
    map (λ i. chain_value secret q i (steps i)) (range_with_len 0 (ots_of secret.width).chains)

-- ---- nodes

-- the one-time public key: each chain runs to its end (section 4.3)
unfoldable pub one_time_key : TreeSecret → ℕ → List ℕ
one_time_key secret q = key_of_ends secret.id q (chain_values secret q (λ i. 2 ^ secret.width - 1))

-- leaf q (section 5.3)
unfoldable pub leaf_of : TreeSecret → ℕ → List ℕ
leaf_of secret q = leaf_node secret.id (2 ^ secret.height + q) (one_time_key secret q)

-- node r, when n more levels stand below it (section 5.3)
unfoldable pub node_of : TreeSecret → ℕ → ℕ → List ℕ
node_of secret zero r = leaf_of secret (r - 2 ^ secret.height)
node_of secret (suc n) r = inner_node secret.id r (node_of secret n (2 * r)) (node_of secret n (2 * r + 1))

abbrev pub root_of : TreeSecret → List ℕ
root_of secret = node_of secret secret.height 1

-- the tree's public key
abbrev pub public_of : TreeSecret → List ℕ
public_of secret = lms_public (tree_code secret.height) (ots_code secret.width) secret.id (root_of secret)

-- ---- signatures

-- the number of the other child of the same node
abbrev pub sibling : ℕ → ℕ
sibling r = if r % 2 == 0 then r + 1 else r - 1

-- the sibling on each level of the way up from leaf q (section 5.4)
unfoldable pub path_of : TreeSecret → ℕ → List (List ℕ)
path_of secret q =
    map (λ n. node_of secret n (sibling ((2 ^ secret.height + q) / 2 ^ n))) (range_with_len 0 secret.height)

-- Q and its checksum
abbrev pub signed_of : TreeSecret → ℕ → List ℕ → List ℕ
signed_of secret q message =
    signed_bytes (ots_of secret.width) (message_digest secret.id q (randomizer_of secret q) message)

-- the one-time signature: each chain after as many steps as its digit says (section 4.5)
unfoldable pub one_time_of : TreeSecret → ℕ → List ℕ → List ℕ
one_time_of secret q message =
    ots_signature (ots_code secret.width) (randomizer_of secret q)
    (chain_values secret q (digit secret.width (signed_of secret q message)))

-- what leaf q signs the message with (section 5.4)
unfoldable pub signature_of : TreeSecret → ℕ → List ℕ → List ℕ
signature_of secret q message =
    lms_signature q (one_time_of secret q message) (tree_code secret.height) (path_of secret q)
