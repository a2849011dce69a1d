-- Numbers as texts.
use Rattle.std.specs.Prelude.{◌≡◌, ◌≢◌, ℕ, ◌^◌, ◌<◌, ◌≤◌, List, length, slice_index}
use Rattle.std.specs.Char.{is_ascii_digit}
use Rattle.std.specs.List.{AllPass}
use Rattle.std.specs.Str.Parse.{digits_value}

-- one digit or more, nothing else, and no zero before another digit
pub record IsNumeral (text : List ℕ) : Type 0 where
  pub some : 1 ≤ length text
  pub digits : AllPass is_ascii_digit text
  pub no_leading_zero : 2 ≤ length text → slice_index text 0 ≢ 48

-- the text is the number in decimal
pub record IsDecimal (text : List ℕ) (n : ℕ) : Type 0 where
  pub form : IsNumeral text
  pub value : n ≡ digits_value 10 text

-- the text is the number in decimal, and the number fits 64 bits
pub record IsNumber (text : List ℕ) (n : ℕ) : Type 0 where
  pub decimal : IsDecimal text n
  pub below : n < 2 ^ 64
