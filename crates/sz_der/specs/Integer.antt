-- INTEGER values and their contents (X.690 section 8.3).
use Rattle.std.specs.Prelude.{◌≡◌, ℕ, ◌^◌, ◌<◌, ◌≤◌, ◌&&◌, ◌||◌, ◌==◌, not, nat_lt, nat_le, if◌then◌else◌, Bool, false, List, [], ◌∷◌, length, slice_index, ℤ, pos, ◌-ℤ◌}
use Rattle.sz_der.specs.Der.{AreOctets, number_of}

-- An INTEGER has an octet, and where it has more, its first nine bits are not all alike (8.3.1, 8.3.2).
pub record IsInteger (content : List ℕ) : Type 0 where
  pub some : 0 < length content
  pub not_all_clear : 1 < length content → slice_index content 0 ≡ 0 → 128 ≤ slice_index content 1
  pub not_all_set : 1 < length content → slice_index content 0 ≡ 255 → slice_index content 1 < 128

-- the number that octets write in two's complement (8.3.3)
abbrev pub integer_of : List ℕ → ℤ
integer_of octets =
    if nat_lt (slice_index octets 0) 128 then pos (number_of octets)
    else pos (number_of octets) -ℤ pos (256 ^ length octets)

-- the content of an INTEGER of this value
pub record IsIntegerOf (value : ℤ) (content : List ℕ) : Type 0 where
  pub minimal : IsInteger content
  pub octets : AreOctets content
  pub writes : integer_of content ≡ value

-- the first nine bits are all alike (8.3.2)
abbrev pub is_redundant : ℕ → ℕ → Bool
is_redundant first second = (first == 0 && nat_lt second 128) || (first == 255 && nat_le 128 second)

-- whether octets are the content of an INTEGER, as a test
abbrev pub is_integer : List ℕ → Bool
is_integer [] = false
is_integer (first ∷ []) = not false
is_integer (first ∷ second ∷ octets) = not (is_redundant first second)
