-- An LMS signature at the front of bytes passes the tests exactly where it is one, for one level.
use Rattle.std.proofs.Common.{◌≡◌, ℕ, ◌+◌, ◌*◌, ◌^◌, ◌<◌, ◌≤◌, ◌↔◌, List, [], ◌++◌, length, take, drop, Option, Some, None, sym, refl, ap, ap₂, ◌∙◌, arith, length-drop, length-take-le, length-append, append_assoc, append-nil, take_all, le-leb, leb-true, lt-ltb, ltb-true, eqb-true, eq-eqb, pow_mono, lt_of_lt_of_le, subst}
use Rattle.std.proofs.lemmas.Bool.Decides.{nat_tests}
use Rattle.std.proofs.lemmas.Option.{same_Some}
use Rattle.std.proofs.lemmas.Slice.Eq.{bytes_eq-Decides}
use Rattle.std.specs.List.{concat}
use Rattle.std.specs.Int.{w32, to_be_bytes}
use Rattle.sz_lms.specs.Bits.{AreBytes, u32_at, values_of}
use Rattle.sz_lms.specs.Ots.{OtsType, ots_type, ots_key, ots_signature, AreValues}
use Rattle.sz_lms.specs.Lms.{height_of, climb, leaf_node, lms_public, lms_signature, LmsOk}
use Rattle.sz_lms.specs.Rules.{TreeType, both, tree_type, ots_length, lms_length, signature_rules, root_from, root_rules, lms_rules, ots_key_at}
use Rattle.sz_lms.proofs.LawTests.{Pass, pass_one, one_passes, none_passes, pass_append, append_passes, pass_known, known_passes, pass_at}
use Rattle.sz_lms.proofs.LawBytes.{number_spelled, small_number_spelled, number_at, part_at, behind, four_parts, values_are, concat-values_of, values_at, length-values}
use Rattle.sz_lms.proofs.LawOts.{Parts, wide, ots_spelled, ots_parts, ots_code_small, length-ots, key_of_parts}

-- ---- known types

pub tree_code_small : (code height : ℕ) → height_of code ≡ Some height → code < 256
tree_code_small code height h = grind (arith, nat_tests)

pub height_small : (code height : ℕ) → height_of code ≡ Some height → height ≤ 25
height_small code height h = grind (arith, nat_tests)

pub leaf_small : (q height : ℕ) → height ≤ 25 → q < 2 ^ height → q < 2 ^ 32
leaf_small q height h l =
    let below : height ≤ 32 = omega arith in
    lt_of_lt_of_le l (pow_mono below)

pub both_parts : (height : Option ℕ) (ots : Option OtsType) (type : TreeType) → both height ots ≡ Some type
    → (height ≡ Some type.height) × (ots ≡ Some type.ots)
both_parts None ots type h = cc
both_parts (Some height) None type h = cc
both_parts (Some height) (Some ots) type h =
    let same = same_Some _ _ h in
    (ap (λ (t : TreeType). Some t.height) same, ap (λ (t : TreeType). Some t.ots) same)

both_are : (tree ots : ℕ) (type : TreeType) → height_of tree ≡ Some type.height → ots_type ots ≡ Some type.ots
    → both (height_of tree) (ots_type ots) ≡ Some type
both_are tree ots type h o = rw (h, o)

-- ---- what the tests say of the signature at the front of the bytes

pub record Stands (key : List ℕ) (type : TreeType) (bytes : List ℕ) : Type 0 where
  pub same_ots : u32_at bytes 4 ≡ u32_at key 4
  pub same_tree : u32_at bytes (4 + ots_length type.ots) ≡ u32_at key 0
  pub whole : lms_length type ≤ length bytes
  pub is_leaf : u32_at bytes 0 < 2 ^ type.height

pub pass_stands : (key : List ℕ) (type : TreeType) (bytes : List ℕ) → Pass (signature_rules key type bytes) → Stands key type bytes
pass_stands key type bytes pass =
    let long = pass_one _ _ _ pass in
    let same_ots = pass_one _ _ _ long.1 in
    let longer = pass_one _ _ _ same_ots.1 in
    let same_tree = pass_one _ _ _ longer.1 in
    let whole = pass_one _ _ _ same_tree.1 in
    let is_leaf = pass_one _ _ _ whole.1 in
    record {
      same_ots = eqb-true _ _ same_ots.0;
      same_tree = eqb-true _ _ same_tree.0;
      whole = leb-true _ _ whole.0;
      is_leaf = ltb-true _ _ is_leaf.0;
    }

pub stands_passes : (key : List ℕ) (type : TreeType) (bytes : List ℕ) → Stands key type bytes → Pass (signature_rules key type bytes)
stands_passes key type bytes stands =
    let whole : lms_length type ≤ length bytes = stands.whole in
    one_passes _ _ _ (le-leb 8 (length bytes) (omega arith))
    (one_passes _ _ _ (eq-eqb _ _ stands.same_ots)
    (one_passes _ _ _ (le-leb (8 + ots_length type.ots) (length bytes) (omega arith))
    (one_passes _ _ _ (eq-eqb _ _ stands.same_tree)
    (one_passes _ _ _ (le-leb (lms_length type) (length bytes) whole)
    (one_passes _ _ _ (lt-ltb _ _ stands.is_leaf) none_passes)))))

-- ---- from the tests to the relation

-- a key of 56 bytes is spelled of the parts that stand at its places
pub key_spelled : (key : List ℕ) → u32_at key 0 < 256 → u32_at key 4 < 256 → length key ≡ 56
    → key ≡ lms_public (u32_at key 0) (u32_at key 4) (take 16 (drop 8 key)) (drop 24 key)
key_spelled key tree ots size =
    let root : drop 24 key ≡ take 32 (drop 24 key) = sym (take_all 32 (drop 24 key) (simp length-drop (omega arith))) in
    sym (four_parts (to_be_bytes w32 (u32_at key 0)) (to_be_bytes w32 (u32_at key 4)) (take 16 (drop 8 key)) (drop 24 key) key
    4 4 16 32 (small_number_spelled key 0 tree (omega arith)) (small_number_spelled key 4 ots (omega arith)) refl root
    ∙ take_all 56 key (omega arith))

-- the spelling of the LMS signature at the front
pub signature_spelled : (bytes : List ℕ) (type : TreeType) → AreBytes bytes → lms_length type ≤ length bytes
    → lms_signature (u32_at bytes 0)
    (ots_signature (u32_at bytes 4) (take 32 (drop 4 (drop 4 bytes))) (values_of type.ots.chains (drop 36 (drop 4 bytes))))
    (u32_at bytes (4 + ots_length type.ots)) (values_of type.height (drop (8 + ots_length type.ots) bytes))
    ≡ take (lms_length type) bytes
signature_spelled bytes type h l =
    let behind_ots : 8 + ots_length type.ots ≡ 4 + ots_length type.ots + 4 = omega arith in
    let path : List (List ℕ) = values_of type.height (drop (8 + ots_length type.ots) bytes) in
    four_parts (to_be_bytes w32 (u32_at bytes 0))
    (ots_signature (u32_at bytes 4) (take 32 (drop 4 (drop 4 bytes))) (values_of type.ots.chains (drop 36 (drop 4 bytes))))
    (to_be_bytes w32 (u32_at bytes (4 + ots_length type.ots))) (concat path) bytes
    4 (ots_length type.ots) 4 (32 * type.height)
    (number_spelled bytes 0 h (omega arith))
    (ots_spelled (drop 4 bytes) type.ots.chains (number_spelled bytes 4 h (omega arith)))
    (number_spelled bytes (4 + ots_length type.ots) h (omega arith))
    (concat-values_of type.height (drop (8 + ots_length type.ots) bytes)
    ∙ ap (λ (n : ℕ). take (32 * type.height) (drop n bytes)) behind_ots)

pub level_ok : (key : List ℕ) (type : TreeType) (message bytes : List ℕ) → AreBytes bytes → length key ≡ 56
    → tree_type key ≡ Some type → Stands key type bytes → root_from key type message bytes ≡ drop 24 key
    → LmsOk key message (take (lms_length type) bytes)
unfolding root_from ots_key
level_ok key type message bytes h size known stands root =
    let codes = both_parts (height_of (u32_at key 0)) (ots_type (u32_at key 4)) type known in
    let whole : lms_length type ≤ length bytes = stands.whole in
    let spelled_with : ℕ → ℕ → List ℕ = λ ots tree.
    lms_signature (u32_at bytes 0)
    (ots_signature ots (take 32 (drop 4 (drop 4 bytes))) (values_of type.ots.chains (drop 36 (drop 4 bytes)))) tree
    (values_of type.height (drop (8 + ots_length type.ots) bytes)) in
    let same_codes = ap₂ spelled_with (sym stands.same_ots) (sym stands.same_tree) in
    record {
      tree_code = u32_at key 0;
      ots_code = u32_at key 4;
      height = type.height;
      type = type.ots;
      known_tree = codes.0;
      known_ots = codes.1;
      id = take 16 (drop 8 key);
      root = drop 24 key;
      id_length = length-take-le 16 (drop 8 key) (simp length-drop (omega arith));
      root_length = simp length-drop (omega arith);
      public_is = key_spelled key (tree_code_small (u32_at key 0) type.height codes.0) (ots_code_small (u32_at key 4) type.ots codes.1) size;
      q = u32_at bytes 0;
      randomizer = take 32 (drop 4 (drop 4 bytes));
      values = values_of type.ots.chains (drop 36 (drop 4 bytes));
      path = values_of type.height (drop (8 + ots_length type.ots) bytes);
      randomizer_length = length-take-le 32 (drop 4 (drop 4 bytes)) (simp length-drop (omega arith));
      values_are = values_are type.ots.chains (drop 36 (drop 4 bytes)) (simp length-drop (omega arith));
      path_is = values_are type.height (drop (8 + ots_length type.ots) bytes) (simp length-drop (omega arith));
      signature_is = sym (same_codes ∙ signature_spelled bytes type h whole);
      is_leaf = stands.is_leaf;
      reaches_root = root;
    }

-- ---- from the relation to the tests

-- the parts that stand in a key
pub record KeyParts (key : List ℕ) (tree ots : ℕ) (id root : List ℕ) : Type 0 where
  pub tree_is : u32_at key 0 ≡ tree
  pub ots_is : u32_at key 4 ≡ ots
  pub id_is : take 16 (drop 8 key) ≡ id
  pub root_is : drop 24 key ≡ root
  pub size : length key ≡ 56

key_parts : (tree ots : ℕ) (id root : List ℕ) → tree < 256 → ots < 256 → length id ≡ 16 → length root ≡ 32
    → KeyParts (lms_public tree ots id root) tree ots id root
key_parts tree ots id root t o i r =
    let key : List ℕ = lms_public tree ots id root in
    record {
      tree_is = number_at key (to_be_bytes w32 ots ++ id ++ root) 0 tree refl (wide tree t);
      ots_is = number_at key (id ++ root) 4 ots refl (wide ots o);
      id_is = part_at key id root 8 16 refl i;
      root_is = behind key id root 8 16 refl i;
      size = rw length-append (omega (arith, i, r));
    }

-- the parts that stand in a signature and what follows it
pub record SignatureParts (bytes : List ℕ) (o height q : ℕ) (ots : List ℕ) (tree : ℕ) (path : List (List ℕ)) : Type 0 where
  pub q_is : u32_at bytes 0 ≡ q
  pub more : List ℕ
  pub ots_is : drop 4 bytes ≡ ots ++ more
  pub tree_is : u32_at bytes (4 + o) ≡ tree
  pub path_is : values_of height (drop (8 + o) bytes) ≡ path

signature_parts : (o height q : ℕ) (ots : List ℕ) (tree : ℕ) (path : List (List ℕ)) (rest : List ℕ) → q < 2 ^ 32 → tree < 256
    → length ots ≡ o → AreValues height path → SignatureParts (lms_signature q ots tree path ++ rest) o height q ots tree path
signature_parts o height q ots tree path rest small t l v =
    let bytes : List ℕ = lms_signature q ots tree path ++ rest in
    let behind_q : drop 4 bytes ≡ ots ++ (to_be_bytes w32 tree ++ (concat path ++ rest)) =
    append_assoc (ots ++ to_be_bytes w32 tree) (concat path) rest ∙ append_assoc ots (to_be_bytes w32 tree) (concat path ++ rest) in
    let behind_ots : drop (4 + o) bytes ≡ to_be_bytes w32 tree ++ (concat path ++ rest) =
    behind bytes ots (to_be_bytes w32 tree ++ (concat path ++ rest)) 4 o behind_q l in
    let behind_tree : drop (4 + o + 4) bytes ≡ concat path ++ rest =
    behind bytes (to_be_bytes w32 tree) (concat path ++ rest) (4 + o) 4 behind_ots refl in
    let same_place : 8 + o ≡ 4 + o + 4 = omega arith in
    record {
      q_is = number_at bytes (ots ++ to_be_bytes w32 tree ++ concat path ++ rest) 0 q refl small;
      more = to_be_bytes w32 tree ++ (concat path ++ rest);
      ots_is = behind_q;
      tree_is = number_at bytes (concat path ++ rest) (4 + o) tree behind_ots (wide tree t);
      path_is = values_at height (drop (8 + o) bytes) rest path (ap (λ (n : ℕ). drop n bytes) same_place ∙ behind_tree) v;
    }

length-signature : (o height q : ℕ) (ots : List ℕ) (tree : ℕ) (path : List (List ℕ)) → length ots ≡ o → AreValues height path
    → length (lms_signature q ots tree path) ≡ 4 + o + 4 + 32 * height
length-signature o height q ots tree path l v =
    simp length-append (omega (arith, l, length-values height path v))

same_root : (height q n : ℕ) (id other key other_key : List ℕ) (path other_path : List (List ℕ)) → other ≡ id → n ≡ q
    → other_key ≡ key → other_path ≡ path
    → climb other (2 ^ height + n) (leaf_node other (2 ^ height + n) other_key) other_path
    ≡ climb id (2 ^ height + q) (leaf_node id (2 ^ height + q) key) path
same_root height q n id other key other_key path other_path i e k p = rw (i, e, k, p)

-- what stands at a level whose signature stands at the front of the bytes
pub record Level (key : List ℕ) (type : TreeType) (message bytes : List ℕ) : Type 0 where
  pub key_length : length key ≡ 56
  pub known : tree_type key ≡ Some type
  pub stands : Stands key type bytes
  pub root : root_from key type message bytes ≡ drop 24 key

abbrev pub types_of : (key message signature : List ℕ) → LmsOk key message signature → TreeType
types_of key message signature ok = record { height = ok.height; ots = ok.type }

ok_key : (key message signature : List ℕ) (ok : LmsOk key message signature)
    → KeyParts key ok.tree_code ok.ots_code ok.id ok.root
ok_key key message signature ok =
    rw ok.public_is (key_parts ok.tree_code ok.ots_code ok.id ok.root (tree_code_small ok.tree_code ok.height ok.known_tree)
    (ots_code_small ok.ots_code ok.type ok.known_ots) ok.id_length ok.root_length)

abbrev ots_of : (key message signature : List ℕ) → LmsOk key message signature → List ℕ
ots_of key message signature ok = ots_signature ok.ots_code ok.randomizer ok.values

ok_ots_length : (key message signature : List ℕ) (ok : LmsOk key message signature)
    → length (ots_of key message signature ok) ≡ ots_length ok.type
ok_ots_length key message signature ok =
    length-ots ok.ots_code ok.type.chains ok.randomizer ok.values ok.randomizer_length ok.values_are

pub ok_length : (key message signature : List ℕ) (ok : LmsOk key message signature)
    → length signature ≡ lms_length (types_of key message signature ok)
ok_length key message signature ok =
    ap length ok.signature_is
    ∙ length-signature (ots_length ok.type) ok.height ok.q (ots_of key message signature ok) ok.tree_code ok.path
    (ok_ots_length key message signature ok) ok.path_is

ok_signature : (key message signature rest : List ℕ) (ok : LmsOk key message signature)
    → SignatureParts (signature ++ rest) (ots_length ok.type) ok.height ok.q (ots_of key message signature ok) ok.tree_code ok.path
ok_signature key message signature rest ok =
    rw ok.signature_is
    (signature_parts (ots_length ok.type) ok.height ok.q (ots_of key message signature ok) ok.tree_code ok.path rest
    (leaf_small ok.q ok.height (height_small ok.tree_code ok.height ok.known_tree) ok.is_leaf)
    (tree_code_small ok.tree_code ok.height ok.known_tree) (ok_ots_length key message signature ok) ok.path_is)

ok_ots : (key message signature bytes more : List ℕ) (ok : LmsOk key message signature)
    → bytes ≡ ots_of key message signature ok ++ more → Parts bytes ok.type.chains ok.ots_code ok.randomizer ok.values
ok_ots key message signature bytes more ok e =
    rw e
    (ots_parts ok.ots_code ok.type.chains ok.randomizer more ok.values (ots_code_small ok.ots_code ok.type ok.known_ots)
    ok.randomizer_length ok.values_are)

pub ok_level : (key message signature rest : List ℕ) (ok : LmsOk key message signature)
    → Level key (types_of key message signature ok) message (signature ++ rest)
unfolding root_from ots_key
ok_level key message signature rest ok =
    let type : TreeType = types_of key message signature ok in
    let bytes : List ℕ = signature ++ rest in
    let of_key = ok_key key message signature ok in
    let of_bytes = ok_signature key message signature rest ok in
    let of_ots = ok_ots key message signature (drop 4 bytes) of_bytes.more ok of_bytes.ots_is in
    let size : length signature ≡ lms_length type = ok_length key message signature ok in
    let same_key : ots_key_at (take 16 (drop 8 key)) (u32_at bytes 0) ok.type (drop 4 bytes) message
    ≡ ots_key ok.id ok.q ok.type ok.randomizer ok.values message =
    key_of_parts (u32_at bytes 0) ok.type ok.ots_code (take 16 (drop 8 key)) (drop 4 bytes) ok.randomizer message ok.values of_ots
    ∙ ap₂ (λ (id : List ℕ) (q : ℕ). ots_key id q ok.type ok.randomizer ok.values message) of_key.id_is of_bytes.q_is in
    record {
      key_length = of_key.size;
      known = both_are (u32_at key 0) (u32_at key 4) type (ap height_of of_key.tree_is ∙ ok.known_tree)
          (ap ots_type of_key.ots_is ∙ ok.known_ots);
      stands = record {
        same_ots = of_ots.code_is ∙ sym of_key.ots_is;
        same_tree = of_bytes.tree_is ∙ sym of_key.tree_is;
        whole = rw length-append (omega (arith, size));
        is_leaf = subst (λ (n : ℕ). n < 2 ^ ok.height) (sym of_bytes.q_is) ok.is_leaf;
      };
      root = same_root ok.height ok.q (u32_at bytes 0) ok.id (take 16 (drop 8 key))
          (ots_key ok.id ok.q ok.type ok.randomizer ok.values message)
          (ots_key_at (take 16 (drop 8 key)) (u32_at bytes 0) ok.type (drop 4 bytes) message) ok.path
          (values_of ok.height (drop (8 + ots_length ok.type) bytes)) of_key.id_is of_bytes.q_is same_key of_bytes.path_is
          ∙ ok.reaches_root ∙ sym of_key.root_is;
    }

-- ---- one signature by itself

pub level_ok_whole : (key : List ℕ) (type : TreeType) (message bytes : List ℕ) → AreBytes bytes → length key ≡ 56
    → tree_type key ≡ Some type → Stands key type bytes → root_from key type message bytes ≡ drop 24 key
    → length bytes ≡ lms_length type → LmsOk key message bytes
level_ok_whole key type message bytes h size known stands root long =
    subst (λ (front : List ℕ). LmsOk key message front) (take_all (lms_length type) bytes (omega (arith, long)))
    (level_ok key type message bytes h size known stands root)

pub ok_whole_level : (key message signature : List ℕ) (ok : LmsOk key message signature)
    → Level key (types_of key message signature ok) message signature
ok_whole_level key message signature ok =
    subst (λ (bytes : List ℕ). Level key (types_of key message signature ok) message bytes) (append-nil signature)
    (ok_level key message signature [] ok)

pub root_passes : (key : List ℕ) (type : TreeType) (message bytes : List ℕ) → tree_type key ≡ Some type
    → root_from key type message bytes ≡ drop 24 key → Pass (root_rules key message bytes)
root_passes key type message bytes known root =
    known_passes _ _ type known
    (one_passes _ _ _ ((bytes_eq-Decides (root_from key type message bytes) (drop 24 key)).1 root) none_passes)

pub pass_root : (key : List ℕ) (type : TreeType) (message bytes : List ℕ) → tree_type key ≡ Some type
    → Pass (root_rules key message bytes) → root_from key type message bytes ≡ drop 24 key
pass_root key type message bytes known pass =
    (bytes_eq-Decides (root_from key type message bytes) (drop 24 key)).0
    (pass_one _ _ _ (pass_at (tree_type key) _ type known pass)).0

pub lms_ok : (public message signature : List ℕ) → AreBytes signature → Pass (lms_rules public message signature)
    → LmsOk public message signature
unfolding lms_rules
lms_ok public message signature s pass =
    let size = pass_one _ _ _ pass in
    let known = pass_known _ _ size.1 in
    let type : TreeType = known.0 in
    let parts = pass_append (signature_rules public type signature) _ known.2 in
    let whole = pass_one _ _ _ parts.1 in
    let root = pass_root public type message signature known.1 whole.1 in
    level_ok_whole public type message signature s (eqb-true (length public) 56 size.0) known.1
    (pass_stands public type signature parts.0) root (eqb-true (length signature) (lms_length type) whole.0)

pub lms_passes : (public message signature : List ℕ) → LmsOk public message signature → Pass (lms_rules public message signature)
unfolding lms_rules
lms_passes public message signature ok =
    let type : TreeType = types_of public message signature ok in
    let level : Level public type message signature =
    ok_whole_level public message signature ok in
    one_passes _ _ _ (eq-eqb (length public) 56 level.key_length)
    (known_passes _ _ type level.known
    (append_passes (signature_rules public type signature) _ (stands_passes public type signature level.stands)
    (one_passes _ _ _ (eq-eqb (length signature) (lms_length type) (ok_length public message signature ok))
    (root_passes public type message signature level.known level.root))))

pub lms_law : (public message signature : List ℕ) → AreBytes signature
    → Pass (lms_rules public message signature) ↔ LmsOk public message signature
lms_law public message signature s =
    (lms_ok public message signature s, lms_passes public message signature)
