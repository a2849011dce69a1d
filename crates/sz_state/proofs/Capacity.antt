-- Sizes of records against the capacity of a cell.
use Rattle.std.proofs.Common.{◌≡◌, ℕ, ◌<◌, ◌≤◌, ◌^◌, Some, None, arith, refl}
use Rattle.sz_record.specs.Size.{size_of}
use Rattle.sz_record.specs.Spelling.{new_version, record_bytes}
use Rattle.sz_record.specs.declared.device.Device.{Device}
use Rattle.sz_state.specs.Fitting.{FitsAs}
use Rattle.sz_state.specs.Ran.{IsTooLarge}

pub fits_none : (capacity size : ℕ) (device : Device) → size ≡ size_of (record_bytes new_version device)
    → capacity < 2 ^ 32 → size ≤ capacity → FitsAs capacity device None
fits_none capacity size device is small within = record {
  none = (λ _. omega arith, λ _. refl);
  some = tt;
}

pub fits_some : (capacity size : ℕ) (device : Device) → size ≡ size_of (record_bytes new_version device)
    → capacity < size → FitsAs capacity device (Some size)
fits_some capacity size device is over = record {
  none = (λ none. absurd (cc none), λ within. absurd (omega arith));
  some = is;
}

pub too_large : (capacity size : ℕ) (device : Device) → size ≡ size_of (record_bytes new_version device)
    → capacity < size → IsTooLarge capacity device size
too_large capacity size device is over = record {
  size_is = is;
  over = λ within. omega arith;
}
