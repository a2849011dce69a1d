-- A device on its disk while its other area is written.
use Rattle.std.proofs.Common.{◌⊎◌, ℕ, ◌+◌, ◌/◌, ◌≤◌, ◌==◌, if◌then◌else◌, Bool, true, false, List, length, Option, Some, None, IfSome, refl, sym, ap, subst, ◌∙◌, inl, inr, arith}
use Rattle.sha2.specs.Sha256.{sha256}
use Rattle.sz_disk.specs.Disk.{Seen, IsLawful, LeavesOnly, TornIn}
use Rattle.sz_disk.specs.Image.{ChangedIn, part}
use Rattle.sz_disk.proofs.Moments.{leaves-weaker, length-left, torn-leaves}
use Rattle.sz_disk.proofs.Parts.{part-outside}
use Rattle.sz_cell.specs.Cell.{IsElsewhere}
use Rattle.sz_cell.specs.Meaning.{meaning}
use Rattle.sz_cell.proofs.Elsewhere.{ready-elsewhere, region-elsewhere}
use Rattle.sz_cell.proofs.Regions.{meaning-region}
use Rattle.sz_record.specs.Stored.{IsStored, IsWithin}
use Rattle.sz_record.specs.declared.device.Device.{Device}
use Rattle.sz_record.specs.declared.device.Image.{Image}
use Rattle.sz_state.specs.Held.{IsHeld}
use Rattle.sz_state.specs.Layout.{HasLayout, area_place, capacity_of, cell_place, space_of}
use Rattle.sz_state.specs.Ran.{NowStands}
use Rattle.sz_state.specs.Stands.{Stands}
use Rattle.sz_state.specs.Step.{other_area}
use Rattle.sz_state.specs.declared.held.Held.{Held}
use Rattle.sz_state.proofs.Changing.{InArea, area_above, from_area, to_area}
use Rattle.sz_state.proofs.Places.{region_within}
use Rattle.sz_state.proofs.Crash.{stands_by}

-- what an area holds is outside the cell
area_elsewhere : (size area : ℕ) → HasLayout size → IsElsewhere cell_place (capacity_of size) (area_place size area) (space_of size)
area_elsewhere size area has = inr (omega (arith, region_within size has, area_above size area))

-- a device that was found stays found while an area is written
pub held-elsewhere : (before after : Seen) (held : Held) (area : ℕ) → IsLawful after → IsHeld before held
    → TornIn (area_place before.size area) (space_of before.size) before after → IsHeld after held
held-elsewhere before after held area lawful is torn =
    let P : ℕ → Type 0 = λ s. HasLayout s in
    let Q : ℕ → Type 0 = λ s. IsStored (space_of s) is.payload held.device in
    let R : ℕ → Type 0 = λ at. IsElsewhere at (capacity_of before.size) (area_place before.size area) (space_of before.size) in
    let S : ℕ → Type 0 = λ c. IsElsewhere held.ready.at c (area_place before.size area) (space_of before.size) in
    let elsewhere : S held.ready.capacity =
    subst S (sym is.capacity) (subst R (sym is.at) (area_elsewhere before.size area is.layout)) in
    record {
      layout = subst P (sym torn.size) is.layout;
      at = is.at;
      capacity = is.capacity ∙ ap (λ s. capacity_of s) (sym torn.size);
      payload = is.payload;
      ready = ready-elsewhere before after lawful held.ready (area_place before.size area) (space_of before.size)
          elsewhere torn is.payload is.ready;
      stored = subst Q (sym torn.size) is.stored;
    }

apart_by : (first : Bool) (size n : ℕ) → n ≤ size / 4
    → ((if first then size / 4 else size / 2) + n ≤ area_place size (if first then 1 else 0))
    ⊎ (area_place size (if first then 1 else 0) + size / 4 ≤ (if first then size / 4 else size / 2))
apart_by true size n fits = inl (omega arith)
apart_by false size n fits = inr (omega arith)

-- the device's image is outside its other area
areas_apart : (size : ℕ) (named : Image) → named.size ≤ space_of size
    → (area_place size named.area + named.size ≤ area_place size (other_area (Some named)))
    ⊎ (area_place size (other_area (Some named)) + space_of size ≤ area_place size named.area)
areas_apart size named fits = apart_by (named.area == 0) size named.size fits

area_kept : (size : ℕ) (named : Option Image) (before after : List ℕ) → IfSome named (IsWithin (space_of size))
    → ChangedIn (area_place size (other_area named)) (space_of size) before after → InArea size named before
    → InArea size named after
area_kept size None before after within changed has = tt
area_kept size (Some named) before after within changed has =
    ap (λ l. sha256 l)
    (part-outside (area_place size (other_area (Some named))) (space_of size) before after (area_place size named.area)
    named.size changed (areas_apart size named within.size))
    ∙ has

-- an image that stands for a device, with any bytes in the area that the device does not use
image-elsewhere : (device : Device) (whole image : List ℕ)
    → ChangedIn (area_place (length whole) (other_area device.image)) (space_of (length whole)) whole image
    → Stands whole device → Stands image device
image-elsewhere device whole image changed stands =
    let r = stands.record_is in
    let elsewhere = area_elsewhere (length whole) (other_area device.image) stands.layout in
    let same = region-elsewhere cell_place (capacity_of (length whole)) (area_place (length whole) (other_area device.image))
    (space_of (length whole)) whole image elsewhere changed in
    stands_by (length whole) image device r.slot stands.sequence r.payload stands.layout changed.size
    (meaning-region cell_place (capacity_of (length whole)) image whole same ∙ r.means) r.stored
    (from_area (length whole) device.image image changed.size
    (area_kept (length whole) device.image whole image r.stored.within changed
    (to_area (length whole) device.image whole refl stands.in_area)))

-- while an image is staged, a crash at any moment leaves a disk that stands for the device
pub stands-elsewhere : (before after : Seen) (device : Device) → IsLawful before → NowStands before device
    → TornIn (area_place before.size (other_area device.image)) (space_of before.size) before after
    → LeavesOnly before after (λ image. Stands image device)
stands-elsewhere before after device lawful stands torn =
    leaves-weaker before after _ (λ image. Stands image device)
    (λ image from.
    let P : ℕ → Type 0 = λ s. ChangedIn (area_place s (other_area device.image)) (space_of s) from.0 image in
    image-elsewhere device from.0 image (subst P (sym (length-left before lawful from.0 from.1)) from.2) (stands from.0 from.1))
    (torn-leaves (area_place before.size (other_area device.image)) (space_of before.size) before after lawful torn)
