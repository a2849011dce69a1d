-- Items of the Distinguished Encoding Rules as relations on whole strings of octets (X.690).
use Rattle.std.specs.Prelude.{◌≡◌, ◌≢◌, ◌⊎◌, ℕ, ◌+◌, ◌-◌, ◌*◌, ◌%◌, ◌^◌, ◌<◌, ◌≤◌, List, [], ◌∷◌, ◌++◌, length, slice_range}
use Rattle.std.specs.List.{AllByRecursion}

-- numbers that an octet can hold
abbrev pub AreOctets : List ℕ → Type 0
AreOctets octets = AllByRecursion (λ octet. octet < 256) octets

-- the number that octets write, the most significant first (8.1.3.5)
abbrev pub number_of : List ℕ → ℕ
number_of [] = 0
number_of (octet ∷ octets) = octet * 256 ^ length octets + number_of octets

-- an identifier of one octet: its low five bits are not all ones (8.1.2.2, 8.1.2.4)
abbrev pub IsTag : ℕ → Type 0
IsTag tag = (tag < 256) × (tag % 32 ≢ 31)

-- The long form of a length: an octet with bit 8 set counts the octets after it, which write the length
-- (8.1.3.5). They are as few as will do, and a length that fits the short form does not take the long
-- one (10.1).
pub record IsLongForm (first : ℕ) (octets : List ℕ) (size : ℕ) : Type 0 where
  pub counts : first ≡ 128 + length octets
  pub at_most_four : length octets ≤ 4
  pub are_octets : AreOctets octets
  pub writes : number_of octets ≡ size
  pub no_fewer_do : 256 ^ (length octets - 1) ≤ size
  pub not_short : 128 ≤ size

-- The length octets of a content of that size. In the short form one octet is a length below 128 (8.1.3.4).
abbrev pub IsLength : List ℕ → ℕ → Type 0
IsLength [] size = ⊥
IsLength (first ∷ octets) size = ((octets ≡ []) × (first ≡ size) × (size < 128)) ⊎ IsLongForm first octets size

-- The bytes are one item: a tag, the minimal definite length of the content in at most four octets after
-- the first, and the content (8.1.2, 8.1.3, 10.1).
pub record Der (tag : ℕ) (content bytes : List ℕ) : Type 0 where
  pub is_tag : IsTag tag
  pub size : List ℕ
  pub is_size : IsLength size (length content)
  pub spelled : bytes ≡ tag ∷ (size ++ content)

-- The item `whole` with this tag and content stands at the place of the bytes, counted from 0.
pub record StandsAt (bytes : List ℕ) (place tag : ℕ) (content whole : List ℕ) : Type 0 where
  pub is_item : Der tag content whole
  pub there : slice_range bytes place (place + length whole) ≡ whole
