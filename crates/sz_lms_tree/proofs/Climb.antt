-- The way up from a node along the siblings.
use Rattle.std.proofs.Common.{◌≡◌, ℕ, zero, suc, ◌+◌, ◌-◌, ◌*◌, ◌/◌, ◌%◌, ◌^◌, map, refl, ap, ap₂, inl, inr, ◌∙◌, arith, add-zero, add-one, cond, eqb, shr-shr, true, false}
use Rattle.std.specs.List.{range_with_len}
use Rattle.std.proofs.lemmas.Bool.{eq-eqb, ne_eqb, cases_eq}
use Rattle.sz_lms.specs.Lms.{climb, inner_node}
use Rattle.sz_lms_tree.specs.Tree.{TreeSecret, node_of, sibling}

-- a node and its sibling give the node above them
above : (secret : TreeSecret) (n r : ℕ)
    → cond (eqb (r % 2) 0) (inner_node secret.id (r / 2) (node_of secret n r) (node_of secret n (sibling r)))
    (inner_node secret.id (r / 2) (node_of secret n (sibling r)) (node_of secret n r)) ≡ node_of secret (suc n) (r / 2)
unfolding node_of
above secret n r =
    let children = λ (a b : ℕ). inner_node secret.id (r / 2) (node_of secret n a) (node_of secret n b) in
    elim (cases_eq (r % 2) 0) [
      | inl even ↦
          let t : eqb (r % 2) 0 ≡ true = eq-eqb _ _ even in
          let left : r ≡ 2 * (r / 2) = omega arith in
          let right : r + 1 ≡ 2 * (r / 2) + 1 = omega arith in
          rw t (ap₂ children left right)
      | inr odd ↦
          let t : eqb (r % 2) 0 ≡ false = ne_eqb _ _ odd in
          let left : r - 1 ≡ 2 * (r / 2) = omega arith in
          let right : r ≡ 2 * (r / 2) + 1 = omega arith in
          rw t (ap₂ children left right)
    ]

-- From node r, at height n above the leaves on the way up from a leaf, k siblings on.
pub climb-path : (secret : TreeSecret) (leaf k n r : ℕ) → r ≡ leaf / 2 ^ n
    → climb secret.id r (node_of secret n r) (map (λ m. node_of secret m (sibling (leaf / 2 ^ m))) (range_with_len n k))
    ≡ node_of secret (n + k) (leaf / 2 ^ (n + k))
unfolding climb
climb-path secret leaf zero n r at = rw (add-zero n, at) refl
climb-path secret leaf (suc k) n r at =
    let half : r / 2 ≡ leaf / 2 ^ (n + 1) = ap (λ (x : ℕ). x / 2) at ∙ shr-shr leaf n 1 in
    let up = above secret n r in
    let rest = climb-path secret leaf k (n + 1) (r / 2) half in
    let far : n + suc k ≡ n + 1 + k = omega arith in
    rw (← at, far) (rw (up, ← add-one n) rest)
