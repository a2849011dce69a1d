-- A key disk: one stored key in the cell at its front (this project's own).
use Rattle.std.specs.Prelude.{◌≡◌, ℕ, ◌+◌, List}
use Rattle.sz_cell.specs.Meaning.{meaning, value}
use Rattle.sz_disk.specs.Disk.{Seen}
use Rattle.sz_hss.specs.Stored.{StoredKey, IsStoredKey}

-- where the cell lies
abbrev pub key_place : ℕ
key_place = 0

abbrev pub key_capacity : ℕ
key_capacity = 1008

-- the least size of a key disk
abbrev pub least_size : ℕ
least_size = 2048

-- the image means this key: its cell has a value, which is the key's stored form
pub record MeansKey (stored : StoredKey) (image : List ℕ) : Type 0 where
  pub slot : ℕ
  pub sequence : ℕ
  pub payload : List ℕ
  pub value_is : meaning key_place key_capacity image ≡ value slot sequence payload
  pub stored_is : IsStoredKey stored payload

-- every image that a crash now may leave means this key
abbrev pub HoldsKey : Seen → StoredKey → Type 0
HoldsKey disk stored = (image : List ℕ) → disk.leaves image → MeansKey stored image

-- the key with so many more leaf numbers handed out
abbrev pub advanced : ℕ → StoredKey → StoredKey
advanced n stored = record { key = stored.key; next = stored.next + n; end = stored.end }
