-- What a reader takes from the front of the bytes that are left to it, and why it refuses.
use Rattle.std.specs.Prelude.{◌≡◌, ℕ, ◌+◌, ◌≤◌, List, ◌++◌, length, Some, Ok, Err}
use Rattle.std.specs.Int.{Width, byte_len, from_be_bytes}
use Rattle.sz_record.specs.Field.{Field}
use Rattle.sz_record.specs.Stored.{first_wrong}
use Rattle.sz_record.specs.declared.unread.Wrong.{Wrong}
use Rattle.sz_record.specs.declared.unread.Wrong.TheVariants.{At}

-- the field at the front is taken, whose bytes these are
pub record TakesField (field : Field) (own old new : List ℕ) : Type 0 where
  pub joined : old ≡ own ++ new
  pub told : field old ≡ Ok (length own)

-- a number at the front is taken, between these bounds
pub record TakesNumber (width : Width) (low most : ℕ) (own : List ℕ) (number : ℕ) (old new : List ℕ) : Type 0 where
  pub joined : old ≡ own ++ new
  pub size : length own ≡ byte_len width
  pub value : from_be_bytes width old ≡ number
  pub above : low ≤ number
  pub below : number ≤ most

-- the field is wrong where so many bytes are left
pub record IsWrongAt (field : Field) (left : List ℕ) (count : ℕ) : Type 0 where
  pub place : ℕ
  pub told : field left ≡ Err place
  pub counted : place + count ≡ length left

-- the answer tells of so many bytes only where the field is wrong there; else memory ran out
pub record IsWrong (field : Field) (left : List ℕ) (wrong : Wrong) : Type 0 where
  pub at : (count : ℕ) → wrong ≡ At count → IsWrongAt field left count

-- the payload's first wrong byte stands where so many bytes are left
pub record IsLastLeft (space : ℕ) (payload : List ℕ) (count : ℕ) : Type 0 where
  pub place : ℕ
  pub first : first_wrong space payload ≡ Some place
  pub counted : place + count ≡ length payload

-- the answer tells of so many bytes only where the payload's first wrong byte stands there; else memory ran out
pub record IsFirstWrong (space : ℕ) (payload : List ℕ) (wrong : Wrong) : Type 0 where
  pub at : (count : ℕ) → wrong ≡ At count → IsLastLeft space payload count
