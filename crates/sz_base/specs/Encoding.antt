-- Bytes as texts.
use Rattle.std.specs.Prelude.{◌≡◌, ℕ, ◌+◌, ◌*◌, ◌<◌, true, Some, List, length, slice_index, codes}
use Rattle.base64.specs.GeneralPurpose.{IsBytes}
use Rattle.base64.specs.Rfc4648.{encode}
use Rattle.hex.specs.Hex.{hex_digit_value}

-- two hexadecimal digits, in either case, and the byte that they stand for
pub record IsPair (high low byte : ℕ) : Type 0 where
  pub high_value : ℕ
  pub low_value : ℕ
  pub high_digit : hex_digit_value high ≡ Some high_value
  pub low_digit : hex_digit_value low ≡ Some low_value
  pub value : byte ≡ 16 * high_value + low_value

-- 32 pairs of hexadecimal digits, joined by colons, and the bytes that they stand for
pub record IsColonHex (text bytes : List ℕ) : Type 0 where
  pub size : length text ≡ 95
  pub count : length bytes ≡ 32
  pub pairs : (k : ℕ) → k < 32
      → IsPair (slice_index text (3 * k)) (slice_index text (3 * k + 1)) (slice_index bytes k)
  pub colons : (k : ℕ) → k < 31 → slice_index text (3 * k + 2) ≡ 58

-- the standard alphabet of RFC 4648, section 4
abbrev pub alphabet : List ℕ
alphabet = codes "ABCDEFGHIJKLMNOPQRSTUVWXYZabcdefghijklmnopqrstuvwxyz0123456789+/"

-- the text of the bytes in base64 (RFC 4648, section 4), padded with '='
abbrev pub base64_text : List ℕ → List ℕ
base64_text bytes = encode alphabet 61 true bytes

-- the text is that of these bytes
pub record IsBase64 (text bytes : List ℕ) : Type 0 where
  pub bytes_fit : IsBytes bytes
  pub spelled : text ≡ base64_text bytes

-- the text is that of some bytes
abbrev pub IsBase64Text : List ℕ → Type 0
IsBase64Text text = (bytes : List ℕ) × IsBase64 text bytes

-- the text is that of so many bytes
abbrev pub IsBase64Of : List ℕ → ℕ → Type 0
IsBase64Of text count = (bytes : List ℕ) × IsBase64 text bytes × (length bytes ≡ count)
