-- Leaf numbers count modulo the number of leaves of their key.
use Rattle.std.proofs.Common.{◌≡◌, ℕ, ◌+◌, ◌/◌, ◌%◌, ◌^◌, List, [], ◌∷◌, ◌++◌, length, get_or, sym, ap, ap₂, ◌∙◌, arith, pow_pos}
use Rattle.std.specs.Int.{w32, to_be_bytes}
use Rattle.std.proofs.Math.Nat.{mod-add-mod}
use Rattle.std.proofs.lemmas.Nat.{field_of, mod-mul-add, mod-pow-add, mod_below}
use Rattle.sz_lms_tree.specs.Tree.{TreeSecret, signature_of}
use Rattle.sz_hss.specs.Key.{Shape, HssKey, top_shape}
use Rattle.sz_hss.specs.Leaf.{heights_of, leaf_at, leaf_count, lowest_at}
use Rattle.sz_hss.specs.Signature.{AreSignatures, hss_signature_of, last_of, pairs_of}
use Rattle.sz_hss.proofs.Path.{UseSameLeaves, height-lowest_at, heights-within, same-path}

-- a lower power has the same rest
rest-wrapped : (n j k : ℕ) → n % 2 ^ (j + k) % 2 ^ k ≡ n % 2 ^ k
rest-wrapped n j k =
    ap (λ (x : ℕ). x % 2 ^ k) (mod-pow-add n j k) ∙ mod-mul-add (n / 2 ^ k % 2 ^ j) (2 ^ k) (n % 2 ^ k) (mod_below n (2 ^ k) (pow_pos k))

-- so many heights hold this level and those below it
leaf_at-wrapped : (height : ℕ) (below : List Shape) (all more n : ℕ) → all ≡ more + height + heights_of below
    → leaf_at height below (n % 2 ^ all) ≡ leaf_at height below n
leaf_at-wrapped height below all more n e =
    ap (λ (h : ℕ). n % 2 ^ h / 2 ^ heights_of below % 2 ^ height) e
    ∙ ap (λ (x : ℕ). x % 2 ^ height) (field_of n (more + height) (heights_of below))
    ∙ rest-wrapped (n / 2 ^ heights_of below) more height

leaves-wrapped : (height : ℕ) (below : List Shape) (all more n : ℕ) → all ≡ more + height + heights_of below
    → UseSameLeaves height below (n % 2 ^ all) n
leaves-wrapped height [] all more n e = tt
leaves-wrapped height (shape ∷ below) all more n e =
    (leaf_at-wrapped height (shape ∷ below) all more n e, leaves-wrapped shape.height below all (more + height) n (omega arith))

pub signature-wrapped : (key : HssKey) (n : ℕ) (message : List ℕ) → hss_signature_of key (n % leaf_count key) message ≡ hss_signature_of key n message
unfolding hss_signature_of
signature-wrapped key n message =
    let all = key.top.height + heights_of key.below in
    let m = n % 2 ^ all in
    let path = same-path key.top key.below m n (leaves-wrapped key.top.height key.below all 0 n (omega arith)) in
    let lowest = lowest_at key.top key.below n in
    let height = height-lowest_at key.top key.below n in
    let (k, within) = heights-within (top_shape key) key.below in
    let last : leaf_at lowest.height [] m ≡ leaf_at lowest.height [] n = leaf_at-wrapped lowest.height [] all k n (omega arith) in
    ap₂ (λ (pairs : List ℕ) (t : TreeSecret). (to_be_bytes w32 (length key.below) ++ pairs) ++ last_of t m message) path.0 path.1
    ∙ ap (λ (q : ℕ). (to_be_bytes w32 (length key.below) ++ pairs_of key.top key.below n) ++ signature_of lowest q message) last

-- a batch from a leaf number on is one from that number modulo the number of leaves on
pub AreSignatures-wrapped : (key : HssKey) (first : ℕ) (messages signatures : List (List ℕ))
    → AreSignatures key (first % leaf_count key) messages signatures → AreSignatures key first messages signatures
AreSignatures-wrapped key first messages signatures h = record {
  count = h.count;
  each = λ i d e lt.
      let count = leaf_count key in
      let message = get_or messages i e in
      h.each i d e lt
      ∙ sym (signature-wrapped key (first % count + i) message)
      ∙ ap (λ (n : ℕ). hss_signature_of key n message) (mod-add-mod first count i)
      ∙ signature-wrapped key (first + i) message;
}
