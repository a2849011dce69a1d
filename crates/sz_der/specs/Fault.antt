-- Why no item stands at a place, as a function of the bytes.
use Rattle.std.specs.Prelude.{ℕ, ◌+◌, ◌-◌, ◌%◌, ◌^◌, Bool, ◌||◌, ◌&&◌, ◌==◌, nat_lt, nat_le, if◌then◌else◌, List, [], ◌∷◌, length, take, drop, slice_index, Option, Some, None}
use Rattle.sz_der.specs.declared.fault.DerKind.{DerKind}
use Rattle.sz_der.specs.declared.fault.DerKind.TheVariants.{Short, LongForm, Indefinite, HighTag}
use Rattle.sz_der.specs.Der.{number_of}

-- the kind that stands beside the first condition that holds
abbrev pub first_of : List (Bool × DerKind) → Option DerKind
first_of [] = None
first_of (rule ∷ rules) = if rule.0 then Some rule.1 else first_of rules

-- how many octets the first octet of a length counts: none in the short form
abbrev pub counted : List ℕ → ℕ
counted bytes = slice_index bytes 1 - 128

-- these octets
abbrev pub size_octets : List ℕ → List ℕ
size_octets bytes = take (counted bytes) (drop 2 bytes)

-- how many octets stand before the content
abbrev pub header_size : List ℕ → ℕ
header_size bytes = 2 + counted bytes

-- the length of the content
abbrev pub content_size : List ℕ → ℕ
content_size bytes =
    if nat_lt (slice_index bytes 1) 128 then slice_index bytes 1 else number_of (size_octets bytes)

-- the octets after the first of a length are more than it needs: the short form, or fewer octets, would do
abbrev pub is_padded : List ℕ → Bool
is_padded octets = nat_lt (number_of octets) 128 || nat_lt (number_of octets) (256 ^ (length octets - 1))

-- The fault of an item at the front of the bytes is the first that applies.
unfoldable pub fault_of : List ℕ → Option DerKind
fault_of bytes = first_of (
    (length bytes == 0, Short)
    ∷ (slice_index bytes 0 % 32 == 31, HighTag)
    ∷ (length bytes == 1, Short)
    ∷ (slice_index bytes 1 == 128, Indefinite)
    ∷ (slice_index bytes 1 == 255, LongForm)
    ∷ (nat_lt (length bytes) (header_size bytes), Short)
    ∷ (nat_le 128 (slice_index bytes 1) && is_padded (size_octets bytes), LongForm)
    ∷ (nat_lt 4 (counted bytes), Short)
    ∷ (nat_lt (length bytes) (header_size bytes + content_size bytes), Short)
    ∷ [])

-- the fault of an item at a place
abbrev pub fault_at : List ℕ → ℕ → Option DerKind
fault_at bytes place = fault_of (drop place bytes)
