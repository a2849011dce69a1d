-- A device's record that is replaced: what stands over every crash.
use Rattle.std.proofs.Common.{◌≡◌, ◌⊎◌, ℕ, ◌+◌, ◌-◌, ◌/◌, ◌≤◌, ◌==◌, if◌then◌else◌, Bool, true, false, List, length, Option, Some, None, IfSome, Result, Ok, Err, IfOk, refl, sym, ap, subst, ◌∙◌, inl, inr, arith}
use Rattle.sha2.specs.Sha256.{sha256}
use Rattle.sz_disk.specs.Disk.{Seen, IsLawful, LeavesOnly, TornIn}
use Rattle.sz_disk.specs.Image.{IsSpared, part}
use Rattle.sz_disk.proofs.Moments.{leaves-both_facts, leaves-now, leaves-weaker, length-left, spared-torn}
use Rattle.sz_disk.proofs.Parts.{part-outside}
use Rattle.sz_cell.specs.Cell.{Kept, MeansEither}
use Rattle.sz_cell.specs.Meaning.{Meaning, meaning}
use Rattle.sz_cell.specs.Slot.{region_size}
use Rattle.sz_base.specs.declared.evidence.Evidence.{Evidence}
use Rattle.sz_base.specs.declared.moment.Moment.{Moment}
use Rattle.sz_artifacts.specs.declared.conveyed.onboarding.Onboarding.{Onboarding}
use Rattle.sz_record.specs.Field.{longest}
use Rattle.sz_record.specs.Spelling.{new_version, record_bytes}
use Rattle.sz_record.specs.Stored.{HasWidths, IsStorable, IsStored, IsWithin}
use Rattle.sz_record.specs.declared.device.Device.{Device}
use Rattle.sz_record.specs.declared.device.Image.{Image}
use Rattle.sz_record.proofs.Parts.{stored_is_storable}
use Rattle.sz_state.specs.Change.{CanInstall, CanOnboard, IsChanged, NamesImage, NowHasImage, StandsThrough}
use Rattle.sz_state.specs.Held.{IsHeld}
use Rattle.sz_state.specs.Layout.{HasLayout, area_place, capacity_of, cell_place, space_of}
use Rattle.sz_state.specs.Ran.{NowStands, RecordReplaced}
use Rattle.sz_state.specs.Stands.{HasImage, Stands, StandsAnew}
use Rattle.sz_state.specs.Step.{installed_as, installed_by, once_installed, once_onboarded, other_area, staged_image, with_image}
use Rattle.sz_state.specs.declared.staged.Staged.{Staged}
use Rattle.sz_state.specs.declared.fault.StateFault.{StateFault}
use Rattle.sz_state.specs.declared.held.Held.{Held}
use Rattle.sz_state.proofs.Crash.{anew_by, leaves-sized, ready-anew, stands_by}
use Rattle.sz_state.proofs.Lengths.{installed-storable, onboarded-storable}
use Rattle.sz_state.proofs.Places.{region_within}

area_above_by : (first : Bool) (size : ℕ) → size / 4 ≤ (if first then size / 4 else size / 2)
area_above_by true size = omega arith
area_above_by false size = omega arith

-- the areas lie behind the cell
pub area_above : (size area : ℕ) → size / 4 ≤ area_place size area
area_above size area = area_above_by (area == 0) size

-- the bytes of an image in its area, where it is one, on a disk of this size
abbrev pub InArea : ℕ → Option Image → List ℕ → Type 0
InArea size None image = Unit {0}
InArea size (Some named) image = sha256 (part image (area_place size named.area) named.size) ≡ named.hash

pub to_area : (size : ℕ) (named : Option Image) (image : List ℕ) → length image ≡ size → IfSome named (HasImage image)
    → InArea size named image
to_area size None image sized has = tt
to_area size (Some named) image sized has =
    let P : ℕ → Type 0 = λ s. sha256 (part image (area_place s named.area) named.size) ≡ named.hash in subst P sized has

pub from_area : (size : ℕ) (named : Option Image) (image : List ℕ) → length image ≡ size → InArea size named image
    → IfSome named (HasImage image)
from_area size None image sized has = tt
from_area size (Some named) image sized has =
    let P : ℕ → Type 0 = λ s. sha256 (part image (area_place s named.area) named.size) ≡ named.hash in
    subst P (sym sized) has

area_spared : (size at n : ℕ) (named : Option Image) → at + n ≤ size / 4 → IsSpared (at, n) (InArea size named)
area_spared size at n None low before after changed has = tt
area_spared size at n (Some named) low before after changed has =
    let above : at + n ≤ area_place size named.area = omega (arith, low, area_above size named.area) in
    ap (λ l. sha256 l) (part-outside at n before after (area_place size named.area) named.size changed (inr above)) ∙ has

-- writes in the cell leave the areas
area_through : (old new : Seen) (kept : Kept) (named : Option Image) → IsLawful old
    → TornIn kept.at (region_size kept.capacity) old new → kept.at + region_size kept.capacity ≤ old.size / 4
    → ((image : List ℕ) → old.leaves image → IfSome named (HasImage image)) → LeavesOnly old new (InArea old.size named)
area_through old new kept named lawful torn low has =
    spared-torn kept.at (region_size kept.capacity) old new (InArea old.size named) lawful torn
    (area_spared old.size kept.at (region_size kept.capacity) named low)
    (λ image left. to_area old.size named image (length-left old lawful image left) (has image left))

-- the stored form of the newer version
pub stored_as : (space : ℕ) (device : Device) → IsStorable new_version device → IfSome device.image (IsWithin space)
    → HasWidths device → IsStored space (record_bytes new_version device) device
stored_as space device storable within widths = record {
  version = new_version;
  known = inr refl;
  spelled = refl;
  storable = storable;
  within = within;
  widths = widths;
}

module _ (old new : Seen) (held : Held) (after : Device) (next : List ℕ) (lawful : IsLawful old) (lawful_new : IsLawful new)
    (is : IsHeld old held) (stored : IsStored (space_of old.size) next after)
    (written : next ≡ record_bytes new_version after) where
  low : held.ready.at + region_size held.ready.capacity ≤ old.size / 4
  low =
      let same = ap (λ n. region_size n) is.capacity in
      omega (arith, region_within old.size is.layout, is.at, same)

  placed : (image : List ℕ) (m : Meaning) → meaning held.ready.at held.ready.capacity image ≡ m
      → meaning cell_place (capacity_of old.size) image ≡ m
  placed image m means =
      ap (λ a. meaning a (capacity_of old.size) image) (sym is.at)
      ∙ ap (λ c. meaning held.ready.at c image) (sym is.capacity)
      ∙ means

  stands_either : (image : List ℕ) → MeansEither held.ready is.payload next image → length image ≡ old.size
      → InArea old.size held.device.image image → InArea old.size after.image image
      → Stands image held.device ⊎ StandsAnew image after
  stands_either image (inl means) sized one two =
      inl (stands_by old.size image held.device _ _ is.payload is.layout sized (placed image _ means) is.stored
      (from_area old.size held.device.image image sized one))
  stands_either image (inr means) sized one two =
      inr (anew_by old.size image after _ _ next is.layout sized (placed image _ means) stored
      (from_area old.size after.image image sized two) written)

  any_moment : LeavesOnly old new (MeansEither held.ready is.payload next)
      → TornIn held.ready.at (region_size held.ready.capacity) old new → NowStands old held.device → NowHasImage old after
      → LeavesOnly old new (λ image. Stands image held.device ⊎ StandsAnew image after)
  any_moment means torn stands in_area =
      leaves-weaker old new _ (λ image. Stands image held.device ⊎ StandsAnew image after)
      (λ image facts. stands_either image facts.0.0 facts.0.1 facts.1.0 facts.1.1)
      (leaves-both_facts old new _ _
      (leaves-both_facts old new _ _ means (leaves-sized old new lawful_new torn.size torn.later))
      (leaves-both_facts old new _ _
      (area_through old new held.ready held.device.image lawful torn low (λ image left. (stands image left).in_area))
      (area_through old new held.ready after.image lawful torn low in_area)))

  pub through : (result : Result Held StateFault) → RecordReplaced old new held.ready is.payload next result
      → NowStands old held.device → NowHasImage old after → StandsThrough old new held.device after result
  through (Ok now) replaced stands in_area = record {
    any_moment = any_moment replaced.any_moment replaced.torn stands in_area;
    ok = ready-anew new old.size after now.ready next lawful_new replaced.torn.size is.layout
        (replaced.at ∙ is.at) (replaced.capacity ∙ is.capacity) replaced.ready stored written
        (λ image left. from_area old.size after.image image (length-left new lawful_new image left ∙ replaced.torn.size)
        (leaves-now old new (InArea old.size after.image) lawful_new
        (area_through old new held.ready after.image lawful replaced.torn low in_area) image left));
  }
  through (Err fault) replaced stands in_area = record {
    any_moment = any_moment replaced.any_moment replaced.torn stands in_area;
    ok = tt;
  }

  pub changed : (result : Result Held StateFault) → RecordReplaced old new held.ready is.payload next result
      → IfOk result (λ now. now.device ≡ after) → IfOk result (IsChanged new after)
  changed (Ok now) replaced device =
      let same : new.size ≡ old.size = replaced.torn.size in
      let P : ℕ → Type 0 = λ s. HasLayout s in
      let Q : ℕ → Type 0 = λ s. IsStored (space_of s) next now.device in
      let R : Device → Type 0 = λ d. IsStored (space_of old.size) next d in
      record {
        device = device;
        found = record {
          layout = subst P (sym same) is.layout;
          at = replaced.at ∙ is.at;
          capacity = replaced.capacity ∙ is.capacity ∙ ap (λ s. capacity_of s) (sym same);
          payload = next;
          ready = replaced.ready;
          stored = subst Q (sym same) (subst R (sym device) stored);
        };
        written = written;
        settled = replaced.settled;
      }
  changed (Err fault) replaced device = tt

-- what stands by a record of version 2 stands
pub either-stands : (old new : Seen) (before after : Device)
    → LeavesOnly old new (λ image. Stands image before ⊎ StandsAnew image after)
    → LeavesOnly old new (λ image. Stands image before ⊎ Stands image after)
either-stands old new before after leaves =
    leaves-weaker old new (λ image. Stands image before ⊎ StandsAnew image after)
    (λ image. Stands image before ⊎ Stands image after) one leaves
  where
    one : (image : List ℕ) → Stands image before ⊎ StandsAnew image after → Stands image before ⊎ Stands image after
    one image (inl stands) = inl stands
    one image (inr anew) = inr anew.stands

other_area_by : (first : Bool) → (if first then 1 else 0) ≤ 1
other_area_by true = omega arith
other_area_by false = omega arith

other_area_small : (named : Option Image) → other_area named ≤ 1
other_area_small None = omega arith
other_area_small (Some named) = other_area_by (named.area == 0)

capacity_short : (size : ℕ) → HasLayout size → capacity_of size ≤ longest
capacity_short size has = omega (arith, has.greatest)

-- the device once the image is in place, where the information names the hash
pub once_installed-is : (device : Device) (staged : Staged) (onboarding : Onboarding) (when : Moment) (evidence : Evidence)
    (names : NamesImage onboarding) → once_installed device onboarding staged when evidence
    ≡ with_image device names.boot (staged_image staged names.hash when evidence)
once_installed-is device staged onboarding when evidence names =
    ap (λ o. installed_by device o staged when evidence) names.named
    ∙ ap (λ h. installed_as device names.boot h staged when evidence) names.hashed

-- the next records can be written
pub installed-stored : (size : ℕ) (payload : List ℕ) (device : Device) (staged : Staged) (onboarding : Onboarding)
    (when : Moment) (evidence : Evidence) → HasLayout size → IsStored (space_of size) payload device
    → CanInstall size device staged onboarding when evidence
    → IsStorable new_version (once_installed device onboarding staged when evidence)
    × IfSome (once_installed device onboarding staged when evidence).image (IsWithin (space_of size))
installed-stored size payload device staged onboarding when evidence has stored can =
    let P : Device → Type 0 = λ d. IsStorable new_version d × IfSome d.image (IsWithin (space_of size)) in
    subst P (sym (once_installed-is device staged onboarding when evidence can.names)) (
      installed-storable (capacity_of size) device can.names.boot (staged_image staged can.names.hash when evidence)
          (capacity_short size has) (stored_is_storable (space_of size) payload device stored) can.short can.fits,
      record { area = omega (arith, can.area, other_area_small device.image); size = can.within },
    )

pub committed-stored : (size : ℕ) (payload : List ℕ) (device : Device) (onboarding : Onboarding) (when : Moment)
    (evidence : Evidence) → HasLayout size → IsStored (space_of size) payload device
    → CanOnboard size device onboarding when evidence
    → IsStorable new_version (once_onboarded device onboarding when evidence)
committed-stored size payload device onboarding when evidence has stored can =
    onboarded-storable (capacity_of size) device onboarding when evidence (capacity_short size has)
    (stored_is_storable (space_of size) payload device stored) can.fits
