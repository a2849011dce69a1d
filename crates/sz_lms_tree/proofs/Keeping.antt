-- One more node is kept.
use Rattle.std.proofs.Common.{◌≡◌, ℕ, length-append, zero, suc, ◌+◌, ◌-◌, ◌*◌, ◌^◌, ◌<◌, ◌≤◌, List, [], ◌∷◌, ◌++◌, length, get_or, arith, refl, sym, ap, ap₂, ◌∙◌, subst, inl, inr, ◌/◌, pow_pos}
use Rattle.std.proofs.lemmas.Bool.{cases_lt}
use Rattle.std.proofs.lemmas.List.{get_or_push, get_or_append_left, get_or-append_right, length_push}
use Rattle.sz_lms.specs.Lms.{inner_node}
use Rattle.sz_lms_tree.specs.Tree.{TreeSecret, node_of, leaf_of, sibling}
use Rattle.sz_lms_tree.specs.Kept.{AreLeaves, KeepsFrom, IsKept, place_of}
use Rattle.sz_lms_tree.specs.Places.{IsNodeAt}
use Rattle.sz_lms_tree.proofs.Places.{IsNodeAt-small, IsNodeAt-left, IsNodeAt-right, IsNodeAt-leaf, IsNodeAt-sibling}

pub KeepsFrom-more : (secret : TreeSecret) (low : ℕ) (nodes : List (List ℕ)) (value : List ℕ)
    → KeepsFrom (low + 1) secret nodes → ((n : ℕ) → IsNodeAt secret.height n low → value ≡ node_of secret n low)
    → KeepsFrom low secret (nodes ++ value ∷ [])
KeepsFrom-more secret low nodes value kept is = record {
  count = omega (arith, length_push nodes value, kept.count);
  each = λ n r d at le. elim (cases_lt low r) [
    | inl above ↦
        let inside : place_of secret r < length nodes = omega (arith, kept.count, IsNodeAt-small secret.height n r at) in
        get_or_append_left nodes (value ∷ []) d (place_of secret r) inside ∙ kept.each n r d at (omega arith)
    | inr below ↦
        let here : r ≡ low = omega arith in
        let last : length nodes ≡ place_of secret r = omega (arith, kept.count) in
        get_or_push nodes value d (place_of secret r) last
        ∙ subst (λ (k : ℕ). IsNodeAt secret.height n k → value ≡ node_of secret n k) (sym here) (is n) at
  ];
}

-- ---- leaves

pub AreLeaves-none : (secret : TreeSecret) (from : ℕ) → AreLeaves secret from 0 []
AreLeaves-none secret from = record { count = refl; each = λ k d lt. absurd (omega arith) }

-- one more leaf before them
pub AreLeaves-more : (secret : TreeSecret) (from n : ℕ) (values : List (List ℕ)) → AreLeaves secret (from + 1) n values
    → AreLeaves secret from (n + 1) (values ++ leaf_of secret from ∷ [])
AreLeaves-more secret from n values leaves = record {
  count = omega (arith, length_push values (leaf_of secret from), leaves.count);
  each = λ k d lt. elim (cases_lt 0 k) [
    | inl later ↦
        let inside : n + 1 - 1 - k < length values = omega (arith, leaves.count) in
        let place : n + 1 - 1 - k ≡ n - 1 - (k - 1) = omega arith in
        let leaf : from + 1 + (k - 1) ≡ from + k = omega arith in
        get_or_append_left values (leaf_of secret from ∷ []) d (n + 1 - 1 - k) inside
        ∙ ap (λ (i : ℕ). get_or values i d) place
        ∙ leaves.each (k - 1) d (omega arith)
        ∙ ap (leaf_of secret) leaf
    | inr first ↦
        let last : length values ≡ n + 1 - 1 - k = omega (arith, leaves.count) in
        let leaf : from ≡ from + k = omega arith in
        get_or_push values (leaf_of secret from) d (n + 1 - 1 - k) last ∙ ap (leaf_of secret) leaf
  ];
}

-- two runs of leaves, the later one first
pub AreLeaves-both : (secret : TreeSecret) (from low high : ℕ) (values rest : List (List ℕ))
    → AreLeaves secret (from + low) high values → AreLeaves secret from low rest
    → AreLeaves secret from (low + high) (values ++ rest)
AreLeaves-both secret from low high values rest later earlier = record {
  count = omega (arith, length-append values rest, later.count, earlier.count);
  each = λ k d lt. elim (cases_lt k low) [
    | inl below ↦
        let place : low + high - 1 - k - high ≡ low - 1 - k = omega arith in
        get_or-append_right values rest high (low + high - 1 - k) d later.count (omega arith)
        ∙ ap (λ (i : ℕ). get_or rest i d) place
        ∙ earlier.each k d below
    | inr above ↦
        let inside : low + high - 1 - k < length values = omega (arith, later.count) in
        let place : low + high - 1 - k ≡ high - 1 - (k - low) = omega arith in
        let leaf : from + low + (k - low) ≡ from + k = omega arith in
        get_or_append_left values rest d (low + high - 1 - k) inside
        ∙ ap (λ (i : ℕ). get_or values i d) place
        ∙ later.each (k - low) d (omega arith)
        ∙ ap (leaf_of secret) leaf
  ];
}

-- all leaves of a tree
pub KeepsFrom-leaves : (secret : TreeSecret) (values : List (List ℕ)) → AreLeaves secret 0 (2 ^ secret.height) values
    → KeepsFrom (2 ^ secret.height) secret values
unfolding node_of
KeepsFrom-leaves secret values leaves = record {
  count = omega (arith, leaves.count);
  each = λ n r d at le.
      let bottom : n ≡ 0 = IsNodeAt-leaf secret.height n r at le in
      let last = IsNodeAt-small secret.height n r at in
      let q = r - 2 ^ secret.height in
      let place : place_of secret r ≡ 2 ^ secret.height - 1 - q = omega (arith, last) in
      let leaf : 0 + q ≡ q = omega arith in
      rw bottom
      (ap (λ (i : ℕ). get_or values i d) place ∙ leaves.each q d (omega (arith, last)) ∙ ap (leaf_of secret) leaf);
}

-- inner node r, over its children among the nodes
pub inner-is : (secret : TreeSecret) (r : ℕ) (nodes : List (List ℕ)) → KeepsFrom (r + 1) secret nodes → 0 < r
    → r < 2 ^ secret.height → (d e : List ℕ) (n : ℕ) → IsNodeAt secret.height n r
    → inner_node secret.id r (get_or nodes (place_of secret (2 * r)) d) (get_or nodes (place_of secret (2 * r + 1)) e)
    ≡ node_of secret n r
unfolding node_of
inner-is secret r nodes kept positive inner d e zero at =
    let whole : secret.height - 0 ≡ secret.height = omega arith in
    let first : 2 ^ secret.height ≤ r = rw whole at at.first in
    absurd (omega arith)
inner-is secret r nodes kept positive inner d e (suc n) at =
    ap₂ (inner_node secret.id r)
    (kept.each n (2 * r) d (IsNodeAt-left secret.height n r at) (omega arith))
    (kept.each n (2 * r + 1) e (IsNodeAt-right secret.height n r at) (omega arith))

-- the sibling on level n of the way up from leaf q
abbrev pub sibling_at : TreeSecret → ℕ → ℕ → ℕ
sibling_at secret q n = sibling ((2 ^ secret.height + q) / 2 ^ n)

pub place-sibling : (secret : TreeSecret) (nodes : List (List ℕ)) (q n : ℕ) → IsKept secret nodes → n < secret.height
    → q < 2 ^ secret.height → place_of secret (sibling_at secret q n) < length nodes
place-sibling secret nodes q n kept lt leaf =
    let at = IsNodeAt-sibling secret.height q n lt leaf in
    omega (arith, kept.all.count, at.first, pow_pos (secret.height - n))

pub kept-sibling : (secret : TreeSecret) (nodes : List (List ℕ)) (q n : ℕ) (d : List ℕ) → IsKept secret nodes
    → n < secret.height → q < 2 ^ secret.height
    → get_or nodes (place_of secret (sibling_at secret q n)) d ≡ node_of secret n (sibling_at secret q n)
kept-sibling secret nodes q n d kept lt leaf =
    let at = IsNodeAt-sibling secret.height q n lt leaf in
    kept.all.each n (sibling_at secret q n) d at (omega (arith, at.first, pow_pos (secret.height - n)))
