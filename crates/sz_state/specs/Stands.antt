-- What the bytes of a device disk mean.
use Rattle.std.specs.Prelude.{◌≡◌, ℕ, List, length, IfSome}
use Rattle.sha2.specs.Sha256.{sha256}
use Rattle.sz_disk.specs.Image.{part}
use Rattle.sz_cell.specs.Meaning.{value, meaning}
use Rattle.sz_record.specs.Fault.{IsBadAt}
use Rattle.sz_record.specs.Spelling.{new_version, record_bytes}
use Rattle.sz_record.specs.Stored.{IsStored}
use Rattle.sz_record.specs.declared.device.Device.{Device}
use Rattle.sz_record.specs.declared.device.Image.{Image}
use Rattle.sz_state.specs.Layout.{HasLayout, area_place, capacity_of, cell_place, space_of}

-- the cell has a value, whose payload is the stored form of this device
pub record HasRecord (image : List ℕ) (device : Device) (sequence : ℕ) : Type 0 where
  pub slot : ℕ
  pub payload : List ℕ
  pub means : meaning cell_place (capacity_of (length image)) image ≡ value slot sequence payload
  pub stored : IsStored (space_of (length image)) payload device

-- the cell has a value, whose payload has its first wrong byte at this place
pub record HasBadRecord (image : List ℕ) (place byte : ℕ) : Type 0 where
  pub slot : ℕ
  pub sequence : ℕ
  pub payload : List ℕ
  pub means : meaning cell_place (capacity_of (length image)) image ≡ value slot sequence payload
  pub bad : IsBadAt (space_of (length image)) payload place byte

-- the first bytes of an area have this SHA-256
abbrev pub AreaHas : List ℕ → ℕ → ℕ → List ℕ → Type 0
AreaHas image area size hash = sha256 (part image (area_place (length image) area) size) ≡ hash

-- the bytes of a device's image are in its area
abbrev pub HasImage : List ℕ → Image → Type 0
HasImage image named = AreaHas image named.area named.size named.hash

-- the disk stands for this device
pub record Stands (image : List ℕ) (device : Device) : Type 0 where
  pub layout : HasLayout (length image)
  pub sequence : ℕ
  pub record_is : HasRecord image device sequence
  pub in_area : IfSome device.image (HasImage image)

-- the disk stands for this device by a record of version 2, the one that is written
pub record StandsAnew (image : List ℕ) (device : Device) : Type 0 where
  pub stands : Stands image device
  pub written : stands.record_is.payload ≡ record_bytes new_version device
