-- Where a device's record and its images lie on a disk (this project's own).
use Rattle.std.specs.Prelude.{◌≡◌, ℕ, ◌-◌, ◌/◌, ◌%◌, ◌≤◌, ◌==◌, if◌then◌else◌, [], ◌∷◌}
use Rattle.sz_cell.specs.Slot.{header_size}
use Rattle.sz_state.specs.declared.areas.Layout.{Layout}

-- the sizes of a device disk: multiples of 64 from 1 MiB to 64 GiB
pub record HasLayout (size : ℕ) : Type 0 where
  pub multiple : size % 64 ≡ 0
  pub least : 1048576 ≤ size
  pub greatest : size ≤ 68719476736

-- the cell lies at the front, and each of its two slots has a 64th of the disk
abbrev pub cell_place : ℕ
cell_place = 0

abbrev pub capacity_of : ℕ → ℕ
capacity_of size = size / 64 - header_size

-- each image area has a quarter of the disk: area 0 is the second quarter, and area 1 the third
abbrev pub space_of : ℕ → ℕ
space_of size = size / 4

abbrev pub area_place : ℕ → ℕ → ℕ
area_place size area = if area == 0 then size / 4 else size / 2

pub record IsLayout (size : ℕ) (layout : Layout) : Type 0 where
  pub at : layout.cell.at ≡ cell_place
  pub capacity : layout.cell.capacity ≡ capacity_of size
  pub areas : layout.areas ≡ area_place size 0 ∷ area_place size 1 ∷ []
  pub space : layout.space ≡ space_of size
