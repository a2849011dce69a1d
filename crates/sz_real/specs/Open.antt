-- The file of a disk.
use Rattle.std.specs.Prelude.{◌≡◌, List, ℕ, Option, Some, None, IfSome, IsSomeAnd, IsTrue}
use Rattle.sz_real.specs.declared.disk.Opening.{Opening}
use Rattle.sz_real.specs.declared.disk.Opening.TheVariants.{NotTried, Refused, Open}
use Rattle.sz_real.specs.declared.disk.FileDisk.{FileDisk}

-- the file of a disk that was opened
abbrev pub file_in : {F : Type 0} → Opening F → Option F
file_in NotTried = None
file_in Refused = None
file_in (Open held) = Some held.file

abbrev pub disk_file : {R F D : Type 0} → FileDisk R F D → Option F
disk_file disk = file_in disk.opening

-- the file could not be opened, or a sync of it was refused
abbrev pub IsLostIn : {F : Type 0} → Opening F → Type 0
IsLostIn NotTried = ⊥
IsLostIn Refused = Unit {0}
IsLostIn (Open held) = IsTrue held.is_spoiled

abbrev pub IsLost : {R F D : Type 0} → FileDisk R F D → Type 0
IsLost disk = IsLostIn disk.opening

-- a file that was open still is, and what it tells of its bytes before and now is related so
abbrev pub StaysOpen : {F : Type 0} → (F → Option (List ℕ)) → (Option (List ℕ) → Option (List ℕ) → Type 0)
    → Option F → Option F → Type 0
StaysOpen held R before now = IfSome before (λ old. IsSomeAnd now (λ new. R (held old) (held new)))

-- no call was made yet
abbrev pub IsNotTried : {R F D : Type 0} → FileDisk R F D → Type 0
IsNotTried disk = disk.opening ≡ NotTried
