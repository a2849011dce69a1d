-- The stored form of a key, with its next leaf number and the end of its leaf numbers (this project's own).
use Rattle.std.specs.Prelude.{◌≡◌, ℕ, suc, ◌≤◌, List, [], ◌∷◌, ◌++◌, length}
use Rattle.std.specs.Int.{w64, to_be_bytes}
use Rattle.std.specs.List.{flat_map}
use Rattle.sz_hss.specs.Key.{Shape, HssKey, IsKey, levels_of}
use Rattle.sz_hss.specs.Leaf.{leaf_count}

-- a key, the first leaf number that is not handed out yet, and the first that there is not
pub record StoredKey : Type 0 where
  pub key : HssKey
  pub next : ℕ
  pub end : ℕ

abbrev pub shape_bytes : Shape → List ℕ
shape_bytes shape = shape.height ∷ shape.width ∷ []

-- the version of the form
abbrev pub version : ℕ
version = 1

-- the version, the number of levels, the shape of each level from the top, SEED, I, next and end
unfoldable pub spelled : StoredKey → List ℕ
spelled stored =
    version ∷ suc (length stored.key.below)
    ∷ (flat_map shape_bytes (levels_of stored.key)
    ++ (stored.key.top.seed ++ (stored.key.top.id ++ (to_be_bytes w64 stored.next ++ to_be_bytes w64 stored.end))))

-- a key that may be stored
pub record IsStorable (stored : StoredKey) : Type 0 where
  pub is_key : IsKey stored.key
  pub begun : stored.next ≤ stored.end
  pub within : stored.end ≤ leaf_count stored.key

-- the bytes are the stored form of this key
pub record IsStoredKey (stored : StoredKey) (bytes : List ℕ) : Type 0 where
  pub storable : IsStorable stored
  pub spelled_is : bytes ≡ spelled stored
