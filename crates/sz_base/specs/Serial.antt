-- Serial numbers as texts.
use Rattle.std.specs.Prelude.{◌≢◌, ℕ, ◌≤◌, Bool, ◌||◌, List, length, slice_index, codes}
use Rattle.std.specs.Char.{is_ascii_alphanumeric}
use Rattle.std.specs.List.{AllPass}
use Rattle.sz_base.specs.Byte.{is_one_of}

-- a letter, a digit, or one of five marks
abbrev pub is_serial_byte : ℕ → Bool
is_serial_byte byte = is_ascii_alphanumeric byte || is_one_of (codes "-_.:+") byte

abbrev pub most_serial_bytes : ℕ
most_serial_bytes = 64

-- such bytes, at least one, the first of them no point
pub record IsSerial (text : List ℕ) : Type 0 where
  pub some : 1 ≤ length text
  pub most : length text ≤ most_serial_bytes
  pub allowed : AllPass is_serial_byte text
  pub first : slice_index text 0 ≢ 46
