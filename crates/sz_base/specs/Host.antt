-- Hosts as texts: names, and IPv6 texts in brackets.
use Rattle.std.specs.Prelude.{◌≡◌, ℕ, ◌≤◌, Bool, ◌||◌, ◌⊎◌, List, [], ◌∷◌, ◌++◌, length, count_by, codes}
use Rattle.std.specs.Char.{is_ascii_alphanumeric, is_ascii_hexdigit}
use Rattle.std.specs.List.{AllPass}
use Rattle.sz_base.specs.Byte.{is_colon, is_one_of}

-- a letter, a digit, or one of three marks
abbrev pub is_name_byte : ℕ → Bool
is_name_byte byte = is_ascii_alphanumeric byte || is_one_of (codes "-_.") byte

abbrev pub most_name_bytes : ℕ
most_name_bytes = 255

-- such bytes, at least one: a name or an IPv4 text
pub record IsName (text : List ℕ) : Type 0 where
  pub some : 1 ≤ length text
  pub most : length text ≤ most_name_bytes
  pub allowed : AllPass is_name_byte text

-- a hexadecimal digit, or one of two marks
abbrev pub is_ipv6_byte : ℕ → Bool
is_ipv6_byte byte = is_ascii_hexdigit byte || is_one_of (codes ":.") byte

abbrev pub most_ipv6_bytes : ℕ
most_ipv6_bytes = 45

-- such bytes, at least two of them colons. Whether it is a real address is left to the connect.
pub record IsIpv6Text (text : List ℕ) : Type 0 where
  pub some : 2 ≤ length text
  pub most : length text ≤ most_ipv6_bytes
  pub allowed : AllPass is_ipv6_byte text
  pub two_colons : 2 ≤ count_by is_colon text

-- the text between '[' and ']'
abbrev pub in_brackets : List ℕ → List ℕ
in_brackets text = 91 ∷ text ++ 93 ∷ []

-- an IPv6 text in brackets
abbrev pub IsInBrackets : List ℕ → Type 0
IsInBrackets text = (inner : List ℕ) × (text ≡ in_brackets inner) × IsIpv6Text inner

-- a name, or an IPv6 text in brackets
abbrev pub IsHost : List ℕ → Type 0
IsHost text = IsName text ⊎ IsInBrackets text
