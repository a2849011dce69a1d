-- The hash of a boot image (RFC 8572 section 6.3): 32 bytes as pairs of hexadecimal digits, joined by colons.
use Rattle.std.specs.Prelude.{ℕ, ◌+◌, ◌*◌, ◌||◌, ◌==◌, Bool, if◌then◌else◌, List, [], ◌∷◌, length, Option, None, option_and_then, option_map, codes}
use Rattle.std.specs.Str.{bytes_eq}
use Rattle.hex.specs.Hex.{hex_digit_value}
use Rattle.serde_json.specs.Data.{Data}
use Rattle.sz_json.specs.Form.{text_of}

-- the byte of two hexadecimal digits
abbrev pub pair_of : ℕ → ℕ → Option ℕ
pair_of high low = option_and_then (λ h. option_map (λ l. 16 * h + l) (hex_digit_value low)) (hex_digit_value high)

-- the bytes of pairs joined by colons
unfoldable pub pairs_of : List ℕ → Option (List ℕ)
pairs_of [] = None
pairs_of (high ∷ []) = None
pairs_of (high ∷ low ∷ []) = option_map (λ byte. byte ∷ []) (pair_of high low)
pairs_of (high ∷ low ∷ colon ∷ rest) =
    if colon == 58
    then option_and_then (λ byte. option_map (λ bytes. byte ∷ bytes) (pairs_of rest)) (pair_of high low) else None

-- the bytes of 32 pairs
unfoldable pub hash_of_text : List ℕ → Option (List ℕ)
hash_of_text text = if length text == 95 then pairs_of text else None

-- a hash, as its text
abbrev pub hash_of : Data → Option (List ℕ)
hash_of value = option_and_then hash_of_text (text_of value)

-- the name of SHA-256, with and without its module (RFC 7951 section 6.8)
abbrev pub is_sha256 : List ℕ → Bool
is_sha256 algorithm =
    bytes_eq algorithm (codes "ietf-sztp-conveyed-info:sha-256") || bytes_eq algorithm (codes "sha-256")
