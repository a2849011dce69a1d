-- The laws of a staging, as a room. They stand here since a trait's law is proved where it is given, and that proof may
-- cite nothing of the crate's `proofs`.
use Rattle.std.specs.Prelude.{◌≡◌, ℕ, ◌+◌, ◌/◌, ◌≤◌, ◌==◌, if◌then◌else◌, Bool, true, false, List, length, Option, Some, None}
use Rattle.std.specs.Option.{option_map}
use Rattle.std.proofs.Common.{refl, sym, ap, subst, ◌∙◌, arith}
use Rattle.sz_disk.specs.Disk.{Seen, IsLawful, TornIn}
use Rattle.sz_disk.specs.Image.{part}
use Rattle.sz_disk.specs.Room.{IsSound}
use Rattle.sz_disk.proofs.Moments.{length-read, quiet-none, still-torn, torn-torn}
use Rattle.sz_disk.proofs.Parts.{length-part}
use Rattle.sz_state.specs.Layout.{area_place, space_of}
use Rattle.sz_state.specs.Staging.{IsLed, room_of}

area_fits_by : (first : Bool) (size : ℕ) → (if first then size / 4 else size / 2) + size / 4 ≤ size
area_fits_by true size = omega arith
area_fits_by false size = omega arith

-- an area lies on the disk
pub area_fits : (size area : ℕ) → area_place size area + space_of size ≤ size
area_fits size area = area_fits_by (area == 0) size

held_by : (at used size : ℕ) (reads : Option (List ℕ)) → at + used ≤ size
    → ((bytes : List ℕ) → reads ≡ Some bytes → length bytes ≡ size) → (held : List ℕ)
    → option_map (λ bytes. part bytes at used) reads ≡ Some held → length held ≡ used
held_by at used size None fits sized held is = absurd (cc is)
held_by at used size (Some bytes) fits sized held is =
    let same : part bytes at used ≡ held = cc is in
    let whole : length bytes ≡ size = sized bytes refl in
    ap (λ (l : List ℕ). length l) (sym same) ∙ length-part bytes at used (omega (arith, whole))

pub staging_sound : (disk : Seen) (area used : ℕ) → IsLawful disk → used ≤ space_of disk.size
    → IsSound (room_of disk area used)
staging_sound disk area used lawful within = record {
  word = omega (arith, lawful.word);
  within = within;
  counted = λ held is. held_by (area_place disk.size area) used disk.size disk.reads
      (omega (arith, area_fits disk.size area)) (λ bytes told. length-read disk lawful bytes told) held is;
}

pub led-same : (disk : Seen) (area : ℕ) → IsLed disk disk area area
led-same disk area = record {
  area = refl;
  torn = still-torn (area_place disk.size area) (space_of disk.size) disk disk (quiet-none disk).still;
}

pub led-on : (first middle last : Seen) (one two three : ℕ) → IsLed first middle one two → IsLed middle last two three
    → IsLed first last one three
led-on first middle last one two three a b =
    let P : ℕ → Type 0 = λ size. TornIn (area_place size two) (space_of size) middle last in
    let Q : ℕ → Type 0 = λ area. TornIn (area_place first.size area) (space_of first.size) middle last in
    record {
      area = b.area ∙ a.area;
      torn = torn-torn (area_place first.size one) (space_of first.size) first middle last a.torn
          (subst Q a.area (subst P a.torn.size b.torn));
    }
