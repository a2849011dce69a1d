-- What a key signs with each of its leaf numbers (RFC 8554 section 6.2).
use Rattle.std.specs.Prelude.{◌≡◌, ℕ, suc, ◌+◌, ◌<◌, List, [], ◌∷◌, ◌++◌, length, slice_index_or}
use Rattle.std.specs.Int.{w32, to_be_bytes}
use Rattle.sz_lms_tree.specs.Tree.{TreeSecret, public_of, signature_of}
use Rattle.sz_hss.specs.Key.{Shape, HssKey}
use Rattle.sz_hss.specs.Leaf.{leaf_at, child_at, lowest_at}

-- the HSS public key: the number of levels, and the top tree's public key (section 6.1)
abbrev pub hss_public_of : HssKey → List ℕ
hss_public_of key = to_be_bytes w32 (suc (length key.below)) ++ public_of key.top

-- the levels above the lowest, from a tree downwards: what its leaf signs the public key of its one child with, and
-- that key
unfoldable pub pairs_of : TreeSecret → List Shape → ℕ → List ℕ
pairs_of secret [] n = []
pairs_of secret (shape ∷ below) n =
    signature_of secret (leaf_at secret.height (shape ∷ below) n) (public_of (child_at secret shape below n))
    ++ public_of (child_at secret shape below n)
    ++ pairs_of (child_at secret shape below n) below n

-- the lowest tree's signature of the message
abbrev pub last_of : TreeSecret → ℕ → List ℕ → List ℕ
last_of lowest n message = signature_of lowest (leaf_at lowest.height [] n) message

-- what stands before it: the number of levels below the top, and the levels above the lowest
abbrev pub front_of : HssKey → ℕ → List ℕ
front_of key n = to_be_bytes w32 (length key.below) ++ pairs_of key.top key.below n

-- the HSS signature of a message with leaf number n: a function of key, n and message
unfoldable pub hss_signature_of : HssKey → ℕ → List ℕ → List ℕ
hss_signature_of key n message = front_of key n ++ last_of (lowest_at key.top key.below n) n message

-- one signature a message, in order, with leaf numbers from one on
pub record AreSignatures (key : HssKey) (first : ℕ) (messages signatures : List (List ℕ)) : Type 0 where
  pub count : length signatures ≡ length messages
  pub each : (i : ℕ) (d e : List ℕ) → i < length messages
      → slice_index_or signatures i d ≡ hss_signature_of key (first + i) (slice_index_or messages i e)
