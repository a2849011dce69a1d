-- What is found of a file that is read whole.
use Rattle.std.specs.Prelude.{ℕ, ◌<◌, ◌≤◌, List, length, Option, Some, None, if◌then◌else◌, nat_le}
use Rattle.sz_io.specs.declared.read.Found.{Found}
use Rattle.sz_io.specs.declared.read.Found.TheVariants.{Absent, Larger, Whole, OutOfMemory}

-- what is found of a file, where at most so many bytes are wanted
abbrev pub found_of : ℕ → Option (List ℕ) → Found
found_of most None = Absent
found_of most (Some bytes) = if nat_le (length bytes) most then Whole bytes else Larger (length bytes)

-- the limit is kept, and a file over it is not said to be under it
abbrev pub IsWithin : ℕ → Found → Type 0
IsWithin most Absent = Unit {0}
IsWithin most (Larger length) = most < length
IsWithin most (Whole bytes) = length bytes ≤ most
IsWithin most OutOfMemory = Unit {0}
