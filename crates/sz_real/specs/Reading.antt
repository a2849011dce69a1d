-- The file that a folder has open for reading.
use Rattle.std.specs.Prelude.{◌≡◌, ℕ, List, Option, Some, IfSome, MatchOption, IsSomeAnd}
use Rattle.sz_real.specs.declared.folder.Reading.{Reading}
use Rattle.sz_real.specs.declared.folder.RealFolder.{RealFolder}
use Rattle.sz_real.specs.Place.{GivesPart}

-- the file that is open, with its path, if one is
abbrev pub open_file : {R F D : Type 0} → RealFolder R F D → Option (Reading F)
open_file folder = folder.reading

-- the file under this path is open, and tells these bytes
abbrev pub IsOpen : {F : Type 0} → (F → Option (List ℕ)) → Option (Reading F) → List ℕ → List ℕ → Type 0
IsOpen held reading path bytes = IsSomeAnd reading (λ reading. (reading.path ≡ path) × (held reading.file ≡ Some bytes))

-- A read under this path gave so many bytes, which are in the front of the buffer: those of the file that is open
-- under it, and none where none is.
abbrev pub GivesFromOpen : {F : Type 0} → (F → Option (List ℕ)) → Option (Reading F) → List ℕ → ℕ → List ℕ → ℕ → Type 0
GivesFromOpen held reading path at into count = MatchOption reading (count ≡ 0) (λ it.
    (it.path ≡ path) × IfSome (held it.file) (λ bytes. GivesPart bytes at count into))
