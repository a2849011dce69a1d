-- One-time signatures by their form alone, whatever they sign (RFC 8554 section 4.5).
use Rattle.std.specs.Prelude.{◌≡◌, ℕ, List, length, Some}
use Rattle.sz_lms.specs.Ots.{OtsType, ots_type, AreValues, ots_signature}

-- The bytes are spelled as a one-time signature of a known type.
pub record IsOtsSignature (bytes : List ℕ) : Type 0 where
  pub code : ℕ
  pub type : OtsType
  pub known : ots_type code ≡ Some type
  pub randomizer : List ℕ
  pub values : List (List ℕ)
  pub randomizer_length : length randomizer ≡ 32
  pub values_are : AreValues type.chains values
  pub bytes_are : bytes ≡ ots_signature code randomizer values
