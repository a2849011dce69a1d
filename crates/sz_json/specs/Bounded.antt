-- What is read of a text that comes from a source or a client: JSON with few of the bytes that make its value large,
-- which are `{`, `[`, `,` and `:` outside of its strings.
use Rattle.std.specs.Prelude.{ℕ, ◌≤◌, ◌||◌, ◌==◌, Bool, if◌then◌else◌, List, [], ◌∷◌, ◌++◌, count_by}
use Rattle.serde_json.specs.Data.{Data}
use Rattle.sz_json.specs.Json.{IsJson}
use Rattle.sz_json.specs.declared.bounded.Place.{Place}
use Rattle.sz_json.specs.declared.bounded.Place.TheVariants.{Outside, Inside, Escaped}

-- The place behind a byte: a string begins with `"` and ends with the next `"` that no backslash escapes.
abbrev pub behind : Place → ℕ → Place
behind Outside byte = if byte == 34 then Inside else Outside
behind Inside byte = if byte == 34 then Outside else if byte == 92 then Escaped else Inside
behind Escaped byte = Inside

-- what is left of a byte without the strings
abbrev pub left_of : Place → ℕ → List ℕ
left_of Outside byte = if byte == 34 then [] else byte ∷ []
left_of Inside byte = []
left_of Escaped byte = []

-- the text from a place on, without its strings
abbrev pub without_strings : Place → List ℕ → List ℕ
without_strings place [] = []
without_strings place (byte ∷ text) = left_of place byte ++ without_strings (behind place byte) text

-- `{`, `[`, `,` or `:`
abbrev pub is_mark : ℕ → Bool
is_mark byte = byte == 123 || byte == 91 || byte == 44 || byte == 58

-- how many of them the text has outside of its strings
unfoldable pub marks_in : List ℕ → ℕ
marks_in text = count_by is_mark (without_strings Outside text)

-- at most so many
abbrev pub IsBounded : List ℕ → Type 0
IsBounded text = marks_in text ≤ 16_384

-- the bytes are JSON of this value, and bounded
pub record IsBoundedJson (bytes : List ℕ) (value : Data) : Type 0 where
  pub bounded : IsBounded bytes
  pub json : IsJson bytes value
