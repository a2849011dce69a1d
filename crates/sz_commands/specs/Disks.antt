-- The disk that a word of a command names.
use Rattle.std.specs.Prelude.{◌≡◌, ℕ, List, Option, Some}
use Rattle.std.specs.List.{find}
use Rattle.std.specs.Option.{option_map}
use Rattle.sz_disk.specs.Disks.{has_name, with_disk}

-- the disk in the first entry of this name
abbrev pub disk_under : {X : Type 0} → List (List ℕ × X) → List ℕ → Option X
disk_under disks name = option_map (λ entry. entry.1) (find (has_name name) disks)

-- There is a disk under the word. It was the old one and is the new one, and the others stay.
pub record ChangesDisk {X : Type 0} (word : List ℕ) (before after : List (List ℕ × X)) (old new : X) : Type 0 where
  pub held : disk_under before word ≡ Some old
  pub others : after ≡ with_disk word before new
