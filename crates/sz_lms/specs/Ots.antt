-- LM-OTS one-time signatures with SHA-256 (RFC 8554 section 4). Values are lists of 32 bytes.
use Rattle.std.specs.Prelude.{◌≡◌, ℕ, zero, suc, ◌+◌, ◌-◌, ◌*◌, ◌/◌, ◌%◌, ◌^◌, ◌==◌, if◌then◌else◌, List, [], ◌∷◌, ◌++◌, length, All, Option, Some, None, sum_by}
use Rattle.std.specs.List.{concat}
use Rattle.std.specs.Int.{w16, w32, to_be_bytes}
use Rattle.sha2.specs.Sha256.{sha256}
use Rattle.sz_lms.specs.Bits.{digit, digits}

-- What an LM-OTS type fixes (section 4.1, table 1): the bits of a digit (w), the number of chains (p), and
-- by how many bits the checksum is shifted (ls).
pub record OtsType : Type 0 where
  pub width : ℕ
  pub chains : ℕ
  pub shift : ℕ

abbrev pub LMOTS_SHA256_N32_W1 : OtsType
LMOTS_SHA256_N32_W1 = record { width = 1; chains = 265; shift = 7 }

abbrev pub LMOTS_SHA256_N32_W2 : OtsType
LMOTS_SHA256_N32_W2 = record { width = 2; chains = 133; shift = 6 }

abbrev pub LMOTS_SHA256_N32_W4 : OtsType
LMOTS_SHA256_N32_W4 = record { width = 4; chains = 67; shift = 4 }

abbrev pub LMOTS_SHA256_N32_W8 : OtsType
LMOTS_SHA256_N32_W8 = record { width = 8; chains = 34; shift = 0 }

-- the LM-OTS type with this code
abbrev pub ots_type : ℕ → Option OtsType
ots_type code =
    if code == 1 then Some LMOTS_SHA256_N32_W1 else if code == 2 then Some LMOTS_SHA256_N32_W2
    else if code == 3 then Some LMOTS_SHA256_N32_W4 else if code == 4 then Some LMOTS_SHA256_N32_W8
    else None

-- Each hash is over the tree's identifier I, a number in four bytes, a number or tag in two, and the rest.
-- The tags D_PBLC and D_MESG are of section 7.1.
abbrev pub hashed : List ℕ → ℕ → ℕ → List ℕ → List ℕ
hashed id number tag rest = sha256 (id ++ to_be_bytes w32 number ++ to_be_bytes w16 tag ++ rest)

abbrev pub D_PBLC : ℕ
D_PBLC = 0x8080

abbrev pub D_MESG : ℕ
D_MESG = 0x8181

-- what is hashed before the message
abbrev pub message_head : List ℕ → ℕ → List ℕ → List ℕ
message_head id q randomizer = id ++ to_be_bytes w32 q ++ to_be_bytes w16 D_MESG ++ randomizer

-- what is signed in place of the message: Q of section 4.5
abbrev pub message_digest : List ℕ → ℕ → List ℕ → List ℕ → List ℕ
message_digest id q randomizer message = hashed id q D_MESG (randomizer ++ message)

-- how much the digits of Q lack of being the greatest, all together
abbrev pub missing_of : OtsType → List ℕ → ℕ
missing_of type bytes = sum_by (λ one. 2 ^ type.width - 1 - one) (digits type.width (256 / type.width) bytes)

-- the checksum of the digits of Q, as two bytes (section 4.4)
abbrev pub checksum : OtsType → List ℕ → List ℕ
checksum type bytes = to_be_bytes w16 (missing_of type bytes * 2 ^ type.shift % 2 ^ 16)

-- Q and its checksum, whose digits say how far each chain runs
abbrev pub signed_bytes : OtsType → List ℕ → List ℕ
signed_bytes type bytes = bytes ++ checksum type bytes

-- step j of chain i
abbrev pub chain_step : List ℕ → ℕ → ℕ → ℕ → List ℕ → List ℕ
chain_step id q i j value = hashed id q i (j ∷ value)

-- n steps of chain i, from step j on
unfoldable pub chain : List ℕ → ℕ → ℕ → ℕ → ℕ → List ℕ → List ℕ
chain id q i j zero value = value
chain id q i j (suc n) value = chain id q i (j + 1) n (chain_step id q i j value)

-- The ends of chains i, i + 1 and so on: each value of a signature is taken from its digit to the last step
-- (section 4.6, algorithm 4b).
unfoldable pub chain_ends : List ℕ → ℕ → ℕ → List ℕ → ℕ → List (List ℕ) → List (List ℕ)
chain_ends id q w signed i [] = []
chain_ends id q w signed i (value ∷ values) =
    chain id q i (digit w signed i) (2 ^ w - 1 - digit w signed i) value ∷ chain_ends id q w signed (i + 1) values

-- the one-time public key of these chain ends (section 4.3)
abbrev pub key_of_ends : List ℕ → ℕ → List (List ℕ) → List ℕ
key_of_ends id q ends = hashed id q D_PBLC (concat ends)

-- the public key candidate Kc of the values of a one-time signature of Q
abbrev pub key_of_digest : List ℕ → ℕ → OtsType → List (List ℕ) → List ℕ → List ℕ
key_of_digest id q type values digest =
    key_of_ends id q (chain_ends id q type.width (signed_bytes type digest) 0 values)

-- the public key candidate Kc of a one-time signature of a message (section 4.6, algorithm 4b)
unfoldable pub ots_key : List ℕ → ℕ → OtsType → List ℕ → List (List ℕ) → List ℕ → List ℕ
ots_key id q type randomizer values message =
    key_of_digest id q type values (message_digest id q randomizer message)

-- values of 32 bytes
abbrev pub AreValues : ℕ → List (List ℕ) → Type 0
AreValues n values = (length values ≡ n) × All (λ value. length value ≡ 32) values

-- a one-time signature: its type, C and one value a chain (section 4.5)
abbrev pub ots_signature : ℕ → List ℕ → List (List ℕ) → List ℕ
ots_signature code randomizer values = to_be_bytes w32 code ++ randomizer ++ concat values
