-- What a leaf signs verifies under the tree's public key.
use Rattle.std.proofs.Common.{◌≡◌, ℕ, zero, suc, ◌+◌, ◌-◌, ◌/◌, ◌^◌, ◌<◌, List, length, refl, sym, ap, ◌∙◌, arith, zero-add, div-one, one-mul}
use Rattle.std.specs.List.{range_with_len}
use Rattle.std.proofs.lemmas.List.Elements.{All-map}
use Rattle.std.proofs.lemmas.List.FromFn.{length-map-range_with_len}
use Rattle.std.proofs.lemmas.Nat.{div-mul-add}
use Rattle.sha2.proofs.Facts256.{length-sha256}
use Rattle.sz_lms.specs.Bits.{digit}
use Rattle.sz_lms.specs.Ots.{AreValues, ots_key, chain_ends, key_of_ends}
use Rattle.sz_lms.specs.Lms.{LmsOk, climb, leaf_node}
use Rattle.sz_lms_tree.specs.Tree.{TreeSecret, IsAllowed, ots_of, ots_code, tree_code, secret_value, randomizer_of, chain_value, chain_values, one_time_key, leaf_of, node_of, root_of, public_of, path_of, signed_of, one_time_of, signature_of}
use Rattle.sz_lms_tree.proofs.Chains.{values_at, AreValues-at, chain_ends-at}
use Rattle.sz_lms_tree.proofs.Climb.{climb-path}
use Rattle.sz_lms_tree.proofs.Types.{height_of-tree_code, known_width}

pub length-leaf_of : (secret : TreeSecret) (q : ℕ) → length (leaf_of secret q) ≡ 32
unfolding leaf_of
length-leaf_of secret q = length-sha256 _

pub length-node_of : (secret : TreeSecret) (n r : ℕ) → length (node_of secret n r) ≡ 32
unfolding node_of
length-node_of secret zero r = length-leaf_of secret _
length-node_of secret (suc n) r = length-sha256 _

AreValues-path_of : (secret : TreeSecret) (q : ℕ) → AreValues secret.height (path_of secret q)
unfolding path_of
AreValues-path_of secret q =
    (length-map-range_with_len _ 0 secret.height, All-map (λ value. length value ≡ 32) _ (range_with_len 0 secret.height) (λ k d at. length-node_of secret _ _))

-- the chains, as they stand in the lemmas on chains
chain_values-is : (secret : TreeSecret) (q : ℕ) (steps : ℕ → ℕ)
    → chain_values secret q steps ≡ values_at secret.id q (secret_value secret q) steps 0 (ots_of secret.width).chains
unfolding chain_value
chain_values-is secret q steps = refl

AreValues-chain_values : (secret : TreeSecret) (q : ℕ) (steps : ℕ → ℕ) → AreValues (ots_of secret.width).chains (chain_values secret q steps)
AreValues-chain_values secret q steps =
    rw (chain_values-is secret q steps) (AreValues-at secret.id q (secret_value secret q) steps 0 _ (λ i. length-sha256 _))

-- the signed chains, taken up at their digits, lead to the one-time public key
key-of_chain_values : (secret : TreeSecret) (q w : ℕ) (signed : List ℕ) → w ≡ secret.width
    → key_of_ends secret.id q (chain_ends secret.id q w signed 0 (chain_values secret q (digit secret.width signed)))
    ≡ one_time_key secret q
unfolding one_time_key
key-of_chain_values secret q w signed width_is =
    let chains = (ots_of secret.width).chains in
    let ends = chain_ends-at secret.id q secret.width signed (secret_value secret q) chains 0 in
    let start = chain_values-is secret q (digit secret.width signed) in
    let end = chain_values-is secret q (λ i. 2 ^ secret.width - 1) in
    rw width_is (ap (key_of_ends secret.id q) (ap (chain_ends secret.id q secret.width signed 0) start ∙ ends ∙ sym end))

ots_key-signed : (secret : TreeSecret) (q : ℕ) (message : List ℕ) → (ots_of secret.width).width ≡ secret.width
    → ots_key secret.id q (ots_of secret.width) (randomizer_of secret q) (chain_values secret q (digit secret.width (signed_of secret q message))) message
    ≡ one_time_key secret q
unfolding ots_key
ots_key-signed secret q message width_is = key-of_chain_values secret q _ (signed_of secret q message) width_is

reaches : (secret : TreeSecret) (q : ℕ) → q < 2 ^ secret.height → climb secret.id (2 ^ secret.height + q) (leaf_of secret q) (path_of secret q) ≡ root_of secret
unfolding node_of path_of
reaches secret q is_leaf =
    let whole = 2 ^ secret.height in
    let itself : whole + q ≡ (whole + q) / 2 ^ 0 = sym (div-one (whole + q)) in
    let leaf : whole + q - whole ≡ q = omega arith in
    let top : (whole + q) / whole ≡ 1 = rw one-mul at (div-mul-add 1 whole q is_leaf) in
    let up = climb-path secret (whole + q) secret.height 0 (whole + q) itself in
    rw (leaf, zero-add, top) at up

pub verifies : (secret : TreeSecret) (q : ℕ) (message : List ℕ) → IsAllowed secret → length secret.id ≡ 16
    → q < 2 ^ secret.height → LmsOk (public_of secret) message (signature_of secret q message)
unfolding leaf_of signature_of one_time_of
verifies secret q message allowed id_length is_leaf =
    let known = known_width secret.width allowed.width in
    let key = ots_key-signed secret q message known.width_is in
    record {
      tree_code = tree_code secret.height;
      ots_code = ots_code secret.width;
      height = secret.height;
      type = ots_of secret.width;
      known_tree = height_of-tree_code secret.height allowed.height;
      known_ots = known.type_is;
      id = secret.id;
      root = root_of secret;
      id_length = id_length;
      root_length = length-node_of secret _ _;
      public_is = refl;
      q = q;
      randomizer = randomizer_of secret q;
      values = chain_values secret q (digit secret.width (signed_of secret q message));
      path = path_of secret q;
      randomizer_length = length-sha256 _;
      values_are = AreValues-chain_values secret q _;
      path_is = AreValues-path_of secret q;
      signature_is = refl;
      is_leaf = is_leaf;
      reaches_root = ap (λ (k : List ℕ). climb secret.id (2 ^ secret.height + q) (leaf_node secret.id (2 ^ secret.height + q) k) (path_of secret q)) key
          ∙ reaches secret q is_leaf;
    }
