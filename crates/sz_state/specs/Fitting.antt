-- Whether a device's record fits the cell.
use Rattle.std.specs.Prelude.{◌≡◌, ◌↔◌, ℕ, ◌≤◌, length, Option, IfSome, IsNone}
use Rattle.sz_record.specs.Size.{size_of}
use Rattle.sz_record.specs.Spelling.{new_version, record_bytes}
use Rattle.sz_record.specs.declared.device.Device.{Device}

-- the stored form of the device is at most so long
abbrev pub Fits : ℕ → Device → Type 0
Fits capacity device = length (record_bytes new_version device) ≤ capacity

-- nothing where it fits, else how long it is, capped
pub record FitsAs (capacity : ℕ) (device : Device) (found : Option ℕ) : Type 0 where
  pub none : IsNone found ↔ Fits capacity device
  pub some : IfSome found (λ size. size ≡ size_of (record_bytes new_version device))
