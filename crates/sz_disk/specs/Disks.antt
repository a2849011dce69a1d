-- A list of names and disks.
use Rattle.std.specs.Prelude.{ℕ, zero, suc, Bool, Option, List, [], ◌∷◌, if◌then◌else◌, map}
use Rattle.std.specs.Str.{bytes_eq}
use Rattle.std.specs.Borrow.{Lends, LendsIf, Fml, RattleType, MutBor}
use Rattle.sz_disk.specs.contracts.disks.Disks.{the_row}

-- whether an entry has this name
abbrev pub has_name : {X : Type 0} → List ℕ → List ℕ × X → Bool
has_name name entry = bytes_eq entry.0 name

abbrev pub names : {X : Type 0} → List (List ℕ × X) → List (List ℕ)
names entries = map (λ entry. entry.0) entries

-- the entries with this disk in the first entry of this name
abbrev pub with_disk : {X : Type 0} → List ℕ → List (List ℕ × X) → X → List (List ℕ × X)
with_disk name [] disk = []
with_disk name (entry ∷ entries) disk =
    if has_name name entry then (entry.0, disk) ∷ entries else entry ∷ with_disk name entries disk

-- the entries with this disk at one place
abbrev pub with_disk_at : {X : Type 0} → ℕ → List (List ℕ × X) → X → List (List ℕ × X)
with_disk_at place [] disk = []
with_disk_at zero (entry ∷ entries) disk = (entry.0, disk) ∷ entries
with_disk_at (suc place) (entry ∷ entries) disk = entry ∷ with_disk_at place entries disk

module _ (D : RattleType) (disks : MutBor (List (List ℕ × D.Denot))) where
  -- once the borrow r ends, the first entry of this name has what was written through r, and at `None` all
  -- entries are as they were
  abbrev pub lends_named : List ℕ → Option (MutBor D.Denot) → Fml
  lends_named name r = LendsIf (the_row D) D disks r (with_disk name disks.now) disks.now

  -- the same of the entry at one place
  abbrev pub lends_at : ℕ → MutBor D.Denot → Fml
  lends_at place r = Lends (the_row D) D disks r (with_disk_at place disks.now)
