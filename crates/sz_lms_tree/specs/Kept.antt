-- How a tree's nodes are kept: from the last leaf's down to the root's, which is node 1.
use Rattle.std.specs.Prelude.{◌≡◌, ℕ, ◌+◌, ◌-◌, ◌*◌, ◌^◌, ◌<◌, ◌≤◌, List, length, slice_index_or}
use Rattle.sz_lms_tree.specs.Tree.{TreeSecret, IsAllowed, leaf_of, node_of}
use Rattle.sz_lms_tree.specs.Places.{IsNodeAt}

-- the place of node r
abbrev pub place_of : TreeSecret → ℕ → ℕ
place_of secret r = 2 * 2 ^ secret.height - 1 - r

-- these are n leaves from one leaf on, the last one first
pub record AreLeaves (secret : TreeSecret) (from n : ℕ) (values : List (List ℕ)) : Type 0 where
  pub count : length values ≡ n
  pub each : (k : ℕ) (d : List ℕ) → k < n → slice_index_or values (n - 1 - k) d ≡ leaf_of secret (from + k)

-- the nodes from this number on are kept
pub record KeepsFrom (low : ℕ) (secret : TreeSecret) (nodes : List (List ℕ)) : Type 0 where
  pub count : length nodes + low ≡ 2 * 2 ^ secret.height
  pub each : (n r : ℕ) (d : List ℕ) → IsNodeAt secret.height n r → low ≤ r
      → slice_index_or nodes (place_of secret r) d ≡ node_of secret n r

-- all nodes of an allowed tree are kept
pub record IsKept (secret : TreeSecret) (nodes : List (List ℕ)) : Type 0 where
  pub allowed : IsAllowed secret
  pub id : length secret.id ≡ 16
  pub all : KeepsFrom 1 secret nodes
