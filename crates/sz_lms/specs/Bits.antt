-- Bytes, their bits, and the numbers and digits that stand in them.
use Rattle.std.specs.Prelude.{ℕ, ◌+◌, ◌*◌, ◌/◌, ◌%◌, ◌<◌, zero, suc, List, [], ◌∷◌, fold, map, take, drop, slice_index}
use Rattle.std.specs.List.{flat_map, range_with_len}
use Rattle.std.specs.Int.{w32, from_be_bytes}

-- each is below 256
abbrev pub AreBytes : List ℕ → Type 0
AreBytes bytes = (i : ℕ) → slice_index bytes i < 256

-- the bits of a byte, the highest first
abbrev pub bits_of_byte : ℕ → List ℕ
bits_of_byte byte =
    byte / 128 % 2 ∷ byte / 64 % 2 ∷ byte / 32 % 2 ∷ byte / 16 % 2
    ∷ byte / 8 % 2 ∷ byte / 4 % 2 ∷ byte / 2 % 2 ∷ byte % 2 ∷ []

-- the number that bits spell, the highest first
abbrev pub number_of_bits : List ℕ → ℕ
number_of_bits bits = fold (λ number bit. 2 * number + bit) 0 bits

-- Digit i of bytes: the bits of the bytes are one list, and the digits are its groups of w bits from the
-- front (RFC 8554 section 3.1.3).
unfoldable pub digit : ℕ → List ℕ → ℕ → ℕ
digit w bytes i = number_of_bits (take w (drop (w * i) (flat_map bits_of_byte bytes)))

-- the first n digits
abbrev pub digits : ℕ → ℕ → List ℕ → List ℕ
digits w n bytes = map (digit w bytes) (range_with_len 0 n)

-- the number in the four bytes at a place
abbrev pub u32_at : List ℕ → ℕ → ℕ
u32_at bytes at = from_be_bytes w32 (take 4 (drop at bytes))

-- the first n values of 32 bytes
unfoldable pub values_of : ℕ → List ℕ → List (List ℕ)
values_of zero bytes = []
values_of (suc n) bytes = take 32 bytes ∷ values_of n (drop 32 bytes)
