-- The way up a tree, one node at a time.
use Rattle.std.proofs.Common.{◌≡◌, ℕ, zero, suc, ◌+◌, ◌-◌, ◌*◌, ◌/◌, ◌%◌, ◌<◌, ◌≤◌, ◌==◌, if◌then◌else◌, List, take, drop, refl, sym, arith}
use Rattle.std.proofs.lemmas.List.{drop-drop}
use Rattle.sz_lms.specs.Bits.{values_of}
use Rattle.sz_lms.specs.Lms.{climb, inner_node}

climb-none : (id : List ℕ) (r : ℕ) (node : List ℕ) (n : ℕ) (path : List ℕ) → n ≡ 0 → climb id r node (values_of n path) ≡ node
unfolding climb values_of
climb-none id r node zero path e = refl
climb-none id r node (suc n) path e = cc

climb-more : (id : List ℕ) (r : ℕ) (node : List ℕ) (n m : ℕ) (path : List ℕ) → n ≡ suc m →
    climb id r node (values_of n path)
    ≡ climb id (r / 2) (if r % 2 == 0 then inner_node id (r / 2) node (take 32 path) else inner_node id (r / 2) (take 32 path) node)
    (values_of m (drop 32 path))
unfolding climb values_of
climb-more id r node zero m path e = cc
climb-more id r node (suc n) m path e = let h : n ≡ m = omega arith in rw h refl

pub climb-end : (id : List ℕ) (r : ℕ) (node : List ℕ) (i h : ℕ) (path : List ℕ) → h ≤ i →
    climb id r node (values_of (h - i) (drop (32 * i) path)) ≡ node
climb-end id r node i h path past =
    let none : h - i ≡ 0 = omega arith in climb-none id r node (h - i) (drop (32 * i) path) none

pub climb-step : (id : List ℕ) (r : ℕ) (node above : List ℕ) (i h : ℕ) (path : List ℕ) → i < h →
    above ≡ (if r % 2 == 0 then inner_node id (r / 2) node (take 32 (drop (32 * i) path)) else inner_node id (r / 2) (take 32 (drop (32 * i) path)) node) →
    climb id (r / 2) above (values_of (h - (i + 1)) (drop (32 * (i + 1)) path))
    ≡ climb id r node (values_of (h - i) (drop (32 * i) path))
climb-step id r node above i h path inside e =
    let more : h - i ≡ suc (h - (i + 1)) = omega arith in
    let on : 32 * (i + 1) ≡ 32 * i + 32 = omega arith in
    rw (on, ← (drop-drop 32 (32 * i) path), e) (sym (climb-more id r node (h - i) (h - (i + 1)) (drop (32 * i) path) more))
