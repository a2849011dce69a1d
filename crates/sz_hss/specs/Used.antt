-- Which one-time keys sign what, when a key's leaf numbers sign messages.
use Rattle.std.specs.Prelude.{◌≡◌, ◌≢◌, ℕ, ◌+◌, ◌^◌, ◌<◌, List, [], ◌∷◌, All, AllPairs, flat_map, take}
use Rattle.sz_lms_tree.specs.Tree.{TreeSecret, public_of}
use Rattle.sz_hss.specs.Key.{Shape, HssKey, levels_of}
use Rattle.sz_hss.specs.Leaf.{child_at, heights_of, leaf_at, leaf_count, tree_at}

-- A use of a one-time key: the level from the top, the number of the tree in its level, its leaf, and what is signed.
-- Trees are told apart by their numbers.
pub record Use : Type 0 where
  pub level : ℕ
  pub tree : ℕ
  pub leaf : ℕ
  pub signed : List ℕ

-- what leaf number n uses to sign a message, from a tree on this level downwards
unfoldable pub uses_from : ℕ → TreeSecret → List Shape → ℕ → List ℕ → List Use
uses_from level secret [] n message =
    record {
      level = level;
      tree = tree_at secret.height [] n;
      leaf = leaf_at secret.height [] n;
      signed = message;
    }
    ∷ []
uses_from level secret (shape ∷ below) n message =
    record {
      level = level;
      tree = tree_at secret.height (shape ∷ below) n;
      leaf = leaf_at secret.height (shape ∷ below) n;
      signed = public_of (child_at secret shape below n);
    }
    ∷ uses_from (level + 1) (child_at secret shape below n) below n message

-- a signature that was handed out: the leaf number and the message
pub record Release : Type 0 where
  pub leaf : ℕ
  pub message : List ℕ

-- all uses of some releases
abbrev pub used : HssKey → List Release → List Use
used key releases = flat_map (λ release. uses_from 0 key.top key.below release.leaf release.message) releases

-- the key has each of the leaf numbers
abbrev pub AreWithin : HssKey → List Release → Type 0
AreWithin key releases = All (λ release. release.leaf < leaf_count key) releases

-- how many trees the key has on this level
abbrev pub tree_count : HssKey → ℕ → ℕ
tree_count key level = 2 ^ heights_of (take level (levels_of key))

-- no leaf number occurs twice
abbrev pub AreSound : List Release → Type 0
AreSound releases = AllPairs (λ one other. one.leaf ≢ other.leaf) releases

-- of the same leaf of the same tree of the same level
pub record IsSameLeaf (one other : Use) : Type 0 where
  pub level : one.level ≡ other.level
  pub tree : one.tree ≡ other.tree
  pub leaf : one.leaf ≡ other.leaf
