-- Leaf numbers of one lowest tree go through the same trees.
use Rattle.std.proofs.Common.{◌≡◌, ℕ, ◌+◌, ◌*◌, ◌/◌, ◌%◌, ◌^◌, ◌<◌, List, [], ◌∷◌, ◌++◌, length, refl, sym, ap, ap₂, ◌∙◌, arith, mul_comm, subst}
use Rattle.std.specs.Int.{w32, to_be_bytes}
use Rattle.std.proofs.lemmas.Nat.{shr-shr, div-mul-add}
use Rattle.sz_lms_tree.specs.Tree.{TreeSecret, child_of, public_of, signature_of}
use Rattle.sz_hss.specs.Key.{Shape, HssKey}
use Rattle.sz_hss.specs.Leaf.{child_at, heights_of, leaf_at, leaves_below, lowest_at}
use Rattle.sz_hss.specs.Signature.{front_of, hss_signature_of, last_of, pairs_of}

-- the height of the lowest tree below one of this height
abbrev pub lowest_height : ℕ → List Shape → ℕ
lowest_height height [] = height
lowest_height height (shape ∷ below) = lowest_height shape.height below

pub height-lowest_at : (secret : TreeSecret) (below : List Shape) (n : ℕ) → (lowest_at secret below n).height ≡ lowest_height secret.height below
unfolding lowest_at
height-lowest_at secret [] n = refl
height-lowest_at secret (shape ∷ below) n = height-lowest_at (child_at secret shape below n) below n

-- the heights from a level on have the lowest one among them
pub heights-within : (shape : Shape) (below : List Shape) → (k : ℕ) × (heights_of (shape ∷ below) ≡ lowest_height shape.height below + k)
heights-within shape [] = (0, refl)
heights-within shape (next ∷ below) =
    let (k, e) = heights-within next below in
    (shape.height + k, omega arith)

-- the same of their leaves on a level above the lowest
same-above : (shape : Shape) (below : List Shape) (n m : ℕ)
    → n / 2 ^ lowest_height shape.height below ≡ m / 2 ^ lowest_height shape.height below
    → n / leaves_below (shape ∷ below) ≡ m / leaves_below (shape ∷ below)
same-above shape below n m same =
    let (k, e) = heights-within shape below in
    let low = lowest_height shape.height below in
    ap (λ (h : ℕ). n / 2 ^ h) e ∙ sym (shr-shr n low k) ∙ ap (λ (x : ℕ). x / 2 ^ k) same ∙ shr-shr m low k
    ∙ sym (ap (λ (h : ℕ). m / 2 ^ h) e)

-- on each level above the lowest both use the same leaf
abbrev pub UseSameLeaves : ℕ → List Shape → ℕ → ℕ → Type 0
UseSameLeaves height [] n m = Unit {0}
UseSameLeaves height (shape ∷ below) n m =
    (leaf_at height (shape ∷ below) n ≡ leaf_at height (shape ∷ below) m) × UseSameLeaves shape.height below n m

-- leaf numbers of one lowest tree do
one-lowest_tree : (height : ℕ) (below : List Shape) (n m : ℕ) → n / 2 ^ lowest_height height below ≡ m / 2 ^ lowest_height height below
    → UseSameLeaves height below n m
one-lowest_tree height [] n m same = tt
one-lowest_tree height (shape ∷ below) n m same =
    (ap (λ (x : ℕ). x % 2 ^ height) (same-above shape below n m same), one-lowest_tree shape.height below n m same)

-- the same pairs and the same lowest tree
pub same-path : (secret : TreeSecret) (below : List Shape) (n m : ℕ) → UseSameLeaves secret.height below n m
    → (pairs_of secret below n ≡ pairs_of secret below m) × (lowest_at secret below n ≡ lowest_at secret below m)
unfolding pairs_of lowest_at
same-path secret [] n m same = (refl, refl)
same-path secret (shape ∷ below) n m same =
    let leaf : leaf_at secret.height (shape ∷ below) n ≡ leaf_at secret.height (shape ∷ below) m = same.0 in
    let child : child_at secret shape below n ≡ child_at secret shape below m =
    ap (λ (q : ℕ). child_of secret q shape.height shape.width) leaf in
    let rest = same-path (child_at secret shape below m) below n m same.1 in (
      ap₂ (λ (q : ℕ) (t : TreeSecret). (signature_of secret q (public_of t) ++ public_of t) ++ pairs_of t below n) leaf child
          ∙ ap (λ (xs : List ℕ). (signature_of secret (leaf_at secret.height (shape ∷ below) m) (public_of (child_at secret shape below m))
          ++ public_of (child_at secret shape below m)) ++ xs) rest.0,
      ap (λ (t : TreeSecret). lowest_at t below n) child ∙ rest.1,
    )

-- a signature with the front and the lowest tree of another leaf number of the same lowest tree
pub signature-same_tree : (key : HssKey) (n m : ℕ) (message : List ℕ)
    → n / 2 ^ (lowest_at key.top key.below n).height ≡ m / 2 ^ (lowest_at key.top key.below n).height
    → front_of key n ++ last_of (lowest_at key.top key.below n) m message ≡ hss_signature_of key m message
unfolding hss_signature_of
signature-same_tree key n m message same =
    let height = height-lowest_at key.top key.below n in
    let one = one-lowest_tree key.top.height key.below n m (subst (λ (h : ℕ). n / 2 ^ h ≡ m / 2 ^ h) height same) in
    let path = same-path key.top key.below n m one in
    ap₂ (λ (pairs : List ℕ) (t : TreeSecret). (to_be_bytes w32 (length key.below) ++ pairs) ++ last_of t m message) path.0 path.1

-- numbers that don't leave a block have its quotient
pub same-block : (size n i : ℕ) → 0 < size → n % size + i < size → n / size ≡ (n + i) / size
same-block size n i positive within =
    let parts : n / size * size + (n % size + i) ≡ n + i =
    let e : size * (n / size) + n % size ≡ n = omega arith in let f = mul_comm size (n / size) in omega arith in
    sym (div-mul-add (n / size) size (n % size + i) within) ∙ ap (λ (x : ℕ). x / size) parts
