-- The contents of the other types that are read (X.690 section 8).
use Rattle.std.specs.Prelude.{◌≡◌, ℕ, ◌-◌, ◌/◌, ◌%◌, ◌^◌, ◌<◌, ◌≤◌, Bool, true, false, List, [], ◌∷◌, length, slice_index}
use Rattle.std.specs.Int.{bit_at}
use Rattle.sz_der.specs.declared.fault.DerFault.{DerFault}
use Rattle.sz_der.specs.declared.fault.DerKind.TheVariants.{Content}

-- A BOOLEAN is one octet, with all bits clear for false (8.2) and all bits set for true (11.1).
abbrev pub IsBoolean : Bool → List ℕ → Type 0
IsBoolean false content = content ≡ 0 ∷ []
IsBoolean true content = content ≡ 255 ∷ []

-- A BIT STRING of whole octets: the octet before them counts no unused bits (8.6.2).
abbrev pub IsBitString : List ℕ → List ℕ → Type 0
IsBitString octets content = content ≡ 0 ∷ octets

-- A BIT STRING of any number of bits: the first octet counts the unused bits, at most seven and none where no
-- octet follows (8.6.2.2, 8.6.2.3); they are the last bits of the last octet, and clear (11.2.1).
pub record IsBits (unused : ℕ) (octets : List ℕ) : Type 0 where
  pub at_most_seven : unused ≤ 7
  pub none_of_none : octets ≡ [] → unused ≡ 0
  pub clear : slice_index octets (length octets - 1) % 2 ^ unused ≡ 0

-- Bit k of a BIT STRING: the first is the most significant of the first octet (8.6.2.1). Past the end they are
-- clear, which in a list of named bits says the same (11.2.2).
abbrev pub bit_of : List ℕ → ℕ → ℕ
bit_of octets k = bit_at (slice_index octets (k / 8)) (7 - k % 8)

-- the number has as its bits the first 16 of the BIT STRING, bit k with the value 2^k
abbrev pub HasNamedBits : List ℕ → ℕ → Type 0
HasNamedBits octets number = (k : ℕ) → k < 16 → bit_at number k ≡ bit_of octets k

-- the fault of an item that is not of the type, at the item's tag
abbrev pub IsContentFault : ℕ → List ℕ → DerFault → Type 0
IsContentFault after whole fault = (fault.kind ≡ Content) × (fault.place ≡ after - length whole)

-- the content of a BIT STRING whose first 16 bits the number has
abbrev pub HoldsBits : List ℕ → ℕ → Type 0
HoldsBits content number =
    (unused : ℕ) × (octets : List ℕ) × (content ≡ unused ∷ octets) × IsBits unused octets × HasNamedBits octets number
