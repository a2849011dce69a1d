-- What the room over a device's other area leaves of the disk.
use Rattle.std.specs.Prelude.{◌≡◌, ℕ}
use Rattle.std.proofs.Common.{sym, subst}
use Rattle.sz_disk.specs.Disk.{Seen, IsLawful, IsStill, TornIn}
use Rattle.sz_disk.proofs.Moments.{still-torn, torn-torn}
use Rattle.sz_state.specs.Held.{IsHeld}
use Rattle.sz_state.specs.Layout.{area_place, space_of}
use Rattle.sz_state.specs.Staging.{IsLed}
use Rattle.sz_state.specs.Step.{other_area}
use Rattle.sz_state.specs.declared.held.Held.{Held}
use Rattle.sz_state.proofs.Elsewhere.{held-elsewhere}
use Rattle.sz_offer.specs.Trial.{WritesSpare}

torn_spares : (old new : Seen) (held : Held) → IsLawful new → IsHeld old held
    → TornIn (area_place old.size (other_area held.device.image)) (space_of old.size) old new → WritesSpare old new held
torn_spares old new held lawful found torn = record {
  torn = torn;
  found = held-elsewhere old new held (other_area held.device.image) lawful found torn;
}

led_spares : (old new : Seen) (held : Held) (area after : ℕ) → IsLawful new → IsHeld old held
    → area ≡ other_area held.device.image → IsLed old new area after → WritesSpare old new held
led_spares old new held area after lawful found is led =
    torn_spares old new held lawful found
    (subst (λ (a : ℕ). TornIn (area_place old.size a) (space_of old.size) old new) is led.torn)

still_spares : (old middle new : Seen) (held : Held) → IsLawful new → IsHeld old held → WritesSpare old middle held
    → IsStill middle new → WritesSpare old new held
still_spares old middle new held lawful found spare still =
    let at = area_place old.size (other_area held.device.image) in
    torn_spares old new held lawful found
    (torn-torn at (space_of old.size) old middle new spare.torn (still-torn at (space_of old.size) middle new still))

-- the room was led so from the disk as it was at first, and the disk is as the room left it
pub spared : {D : Type 0} (seen : D → Seen) → ((d : D) → IsLawful (seen d)) → (start first now last : D) (held : Held)
    (area after : ℕ) → IsHeld (seen start) held → first ≡ start → area ≡ other_area held.device.image
    → IsLed (seen first) (seen now) area after → last ≡ now → WritesSpare (seen start) (seen last) held
spared {D} seen lawful start first now last held area after found begins is led ends =
    let from : IsLed (seen start) (seen now) area after =
    subst (λ (d : D). IsLed (seen d) (seen now) area after) begins led in
    subst (λ (d : D). WritesSpare (seen start) (seen d) held) (sym ends)
    (led_spares (seen start) (seen now) held area after (lawful now) found is from)

-- and then nothing was written
pub spared_still : {D : Type 0} (seen : D → Seen) → ((d : D) → IsLawful (seen d)) → (start first now synced last : D)
    (held : Held) (area after : ℕ) → IsHeld (seen start) held → first ≡ start → area ≡ other_area held.device.image
    → IsLed (seen first) (seen now) area after → IsStill (seen now) (seen synced) → last ≡ synced
    → WritesSpare (seen start) (seen last) held
spared_still {D} seen lawful start first now synced last held area after found begins is led still ends =
    let from : IsLed (seen start) (seen now) area after =
    subst (λ (d : D). IsLed (seen d) (seen now) area after) begins led in
    let spare = led_spares (seen start) (seen now) held area after (lawful now) found is from in
    subst (λ (d : D). WritesSpare (seen start) (seen d) held) (sym ends)
    (still_spares (seen start) (seen now) (seen synced) held (lawful synced) found spare still)
