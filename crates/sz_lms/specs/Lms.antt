-- LMS signatures of one tree with SHA-256 (RFC 8554 section 5).
use Rattle.std.specs.Prelude.{◌≡◌, ℕ, ◌+◌, ◌/◌, ◌%◌, ◌^◌, ◌<◌, ◌==◌, if◌then◌else◌, List, [], ◌∷◌, ◌++◌, length, Option, Some, None}
use Rattle.std.specs.List.{concat}
use Rattle.std.specs.Int.{w32, to_be_bytes}
use Rattle.sz_lms.specs.Ots.{OtsType, ots_type, hashed, ots_key, ots_signature, AreValues}

-- the height of the tree of the LMS type with this code (section 5.1, table 2)
abbrev pub height_of : ℕ → Option ℕ
height_of code =
    if code == 5 then Some 5 else if code == 6 then Some 10 else if code == 7 then Some 15
    else if code == 8 then Some 20 else if code == 9 then Some 25 else None

abbrev pub D_LEAF : ℕ
D_LEAF = 0x8282

abbrev pub D_INTR : ℕ
D_INTR = 0x8383

-- the leaf at node number r, over a one-time public key (section 5.3)
abbrev pub leaf_node : List ℕ → ℕ → List ℕ → List ℕ
leaf_node id r key = hashed id r D_LEAF key

-- node number r, over its left and its right child
abbrev pub inner_node : List ℕ → ℕ → List ℕ → List ℕ → List ℕ
inner_node id r left right = hashed id r D_INTR (left ++ right)

-- The root above node number r with this value, when the siblings on the way up are these: the node with an
-- even number is the left child (section 5.4.2, algorithm 6a).
unfoldable pub climb : List ℕ → ℕ → List ℕ → List (List ℕ) → List ℕ
climb id r value [] = value
climb id r value (sibling ∷ path) =
    climb id (r / 2)
    (if r % 2 == 0 then inner_node id (r / 2) value sibling else inner_node id (r / 2) sibling value) path

abbrev pub lms_public_length : ℕ
lms_public_length = 56

-- an LMS public key: the codes of its types, I and the root T[1] (section 5.3)
abbrev pub lms_public : ℕ → ℕ → List ℕ → List ℕ → List ℕ
lms_public tree_code ots_code id root = to_be_bytes w32 tree_code ++ to_be_bytes w32 ots_code ++ id ++ root

-- an LMS signature: the leaf's number, a one-time signature, the code of the tree's type, and the path
-- (section 5.4)
abbrev pub lms_signature : ℕ → List ℕ → ℕ → List (List ℕ) → List ℕ
lms_signature q one_time tree_code path = to_be_bytes w32 q ++ one_time ++ to_be_bytes w32 tree_code ++ concat path

-- The signature is one of the message under the public key (section 5.4.2).
pub record LmsOk (public message signature : List ℕ) : Type 0 where
  pub tree_code : ℕ
  pub ots_code : ℕ
  pub height : ℕ
  pub type : OtsType
  pub known_tree : height_of tree_code ≡ Some height
  pub known_ots : ots_type ots_code ≡ Some type
  -- the public key is I and a root of these types
  pub id : List ℕ
  pub root : List ℕ
  pub id_length : length id ≡ 16
  pub root_length : length root ≡ 32
  pub public_is : public ≡ lms_public tree_code ots_code id root
  -- the signature is exactly one of these types
  pub q : ℕ
  pub randomizer : List ℕ
  pub values : List (List ℕ)
  pub path : List (List ℕ)
  pub randomizer_length : length randomizer ≡ 32
  pub values_are : AreValues type.chains values
  pub path_is : AreValues height path
  pub signature_is : signature ≡ lms_signature q (ots_signature ots_code randomizer values) tree_code path
  -- and leads from a leaf of the tree to its root
  pub is_leaf : q < 2 ^ height
  pub reaches_root :
      climb id (2 ^ height + q)
      (leaf_node id (2 ^ height + q) (ots_key id q type randomizer values message)) path ≡ root
