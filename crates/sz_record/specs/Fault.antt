-- What a reader that refuses a payload answers.
use Rattle.std.specs.Prelude.{◌≡◌, ℕ, ◌≤◌, List, length, slice_index, Some}
use Rattle.sz_record.specs.Stored.{first_wrong}
use Rattle.sz_record.specs.declared.fault.RecordFault.{RecordFault}
use Rattle.sz_record.specs.declared.fault.RecordFault.TheVariants.{BadRecord}

-- the payload's first wrong byte stands at this place, and this is it, or 0 where the place is the end
pub record IsBadAt (space : ℕ) (payload : List ℕ) (place value : ℕ) : Type 0 where
  pub first : first_wrong space payload ≡ Some place
  pub within : place ≤ length payload
  pub byte : value ≡ slice_index payload place

-- the answer tells a place and a byte only where they are these; else memory ran out
abbrev pub IsFault : ℕ → List ℕ → RecordFault → Type 0
IsFault space payload fault =
    (place value : ℕ) → fault ≡ BadRecord place value → IsBadAt space payload place value
