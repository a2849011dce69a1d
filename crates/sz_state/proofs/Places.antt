-- Where the cell and the areas lie.
use Rattle.std.proofs.Common.{◌≡◌, ℕ, ◌+◌, ◌/◌, ◌%◌, ◌≤◌, ap, arith}
use Rattle.sz_disk.specs.Disk.{Seen}
use Rattle.sz_cell.specs.Cell.{Kept}
use Rattle.sz_cell.specs.Slot.{region_size}
use Rattle.sz_cell.specs.Transition.{IsAttached}
use Rattle.sz_state.specs.Layout.{HasLayout, IsLayout, capacity_of}
use Rattle.sz_state.specs.declared.areas.Layout.{Layout}

-- the region lies in the first quarter of the disk
pub region_within : (size : ℕ) → HasLayout size → region_size (capacity_of size) ≤ size / 4
region_within size has = omega (arith, has.least)

pub region_fits : (size : ℕ) (layout : Layout) → HasLayout size → IsLayout size layout
    → layout.cell.at + region_size layout.cell.capacity ≤ size
region_fits size layout has is =
    let same = ap (λ n. region_size n) is.capacity in
    omega (arith, region_within size has, is.at, same)

pub attached_fits : (size : ℕ) (layout : Layout) (disk : Seen) (kept : Kept) → HasLayout size → IsLayout size layout
    → disk.size ≡ size → IsAttached layout.cell.at layout.cell.capacity disk kept
    → kept.at + region_size kept.capacity ≤ disk.size
attached_fits size layout disk kept has is same attached =
    let one = ap (λ n. region_size n) attached.capacity_is in
    omega (arith, region_fits size layout has is, attached.at_is, one, same)

-- the least size of a disk
pub least_layout : (size : ℕ) → size ≡ 1048576 → HasLayout size
least_layout size is = record { multiple = ap (λ n. n % 64) is; least = omega arith; greatest = omega arith }
