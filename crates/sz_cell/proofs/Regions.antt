-- Where the slots of a region lie, and what a change elsewhere leaves of them.
use Rattle.std.specs.Prelude.{◌≡◌, ◌⊎◌, ℕ, ◌+◌, ◌-◌, ◌≤◌, ◌<◌, List}
use Rattle.std.proofs.Common.{zero, suc, refl, sym, ◌∙◌, ap, arith, inl, inr}
use Rattle.sz_disk.specs.Image.{part, ChangedIn}
use Rattle.sz_disk.proofs.Parts.{part-part, part-outside}
use Rattle.sz_cell.specs.Cell.{Kept, spare_place}
use Rattle.sz_cell.specs.Slot.{slot_of, slot_in, place, slot_size, region_size}
use Rattle.sz_cell.specs.Meaning.{meaning, meaning_of}

-- a slot lies in its region
pub place_inside : (at capacity slot : ℕ) → slot < 2
    → (at ≤ place at capacity slot) × (place at capacity slot + slot_size capacity ≤ at + region_size capacity)
unfolding place
place_inside at capacity zero two = (omega arith, omega arith)
place_inside at capacity (suc zero) two = (omega arith, omega arith)
place_inside at capacity (suc (suc slot)) two = absurd (omega arith)

-- slot 0 is the front of the region
pub place_zero : (at capacity : ℕ) → place at capacity 0 ≡ at
unfolding place
place_zero at capacity = refl

-- the two slots lie apart
pub places_apart : (at capacity slot : ℕ) → slot < 2
    → (place at capacity slot + slot_size capacity ≤ place at capacity (1 - slot))
    ⊎ (place at capacity (1 - slot) + slot_size capacity ≤ place at capacity slot)
unfolding place
places_apart at capacity zero two = inl (omega arith)
places_apart at capacity (suc zero) two = inr (omega arith)
places_apart at capacity (suc (suc slot)) two = absurd (omega arith)

-- a change outside a slot leaves it
pub slot_in-outside : (at capacity slot : ℕ) (from n : ℕ) (before after : List ℕ) → ChangedIn from n before after
    → (place at capacity slot + slot_size capacity ≤ from) ⊎ (from + n ≤ place at capacity slot)
    → slot_in at capacity slot after ≡ slot_in at capacity slot before
unfolding slot_in
slot_in-outside at capacity slot from n before after changed outside =
    ap slot_of (part-outside from n before after (place at capacity slot) (slot_size capacity) changed outside)

-- equal bytes in the region are equal slots
pub slot_in-region : (at capacity slot : ℕ) (a b : List ℕ) → slot < 2
    → part a at (region_size capacity) ≡ part b at (region_size capacity) → slot_in at capacity slot a ≡ slot_in at capacity slot b
unfolding slot_in
slot_in-region at capacity slot a b two same =
    let inside = place_inside at capacity slot two in
    let o : ℕ = place at capacity slot - at in
    let is : at + o ≡ place at capacity slot = omega (arith, inside.0) in
    let fits : o + slot_size capacity ≤ region_size capacity = omega (arith, inside.0, inside.1) in
    let slot_part = λ (image : List ℕ).
    part-part image at (region_size capacity) o (slot_size capacity) fits ∙ ap (λ k. part image k (slot_size capacity)) is in
    ap slot_of (sym (slot_part a) ∙ ap (λ l. part l o (slot_size capacity)) same ∙ slot_part b)

-- equal bytes in the region mean the same
pub meaning-region : (at capacity : ℕ) (a b : List ℕ)
    → part a at (region_size capacity) ≡ part b at (region_size capacity) → meaning at capacity a ≡ meaning at capacity b
unfolding meaning
meaning-region at capacity a b same =
    ap (λ s. meaning_of capacity s (slot_in at capacity 1 a)) (slot_in-region at capacity 0 a b (omega arith) same)
    ∙ ap (λ s. meaning_of capacity (slot_in at capacity 0 b) s) (slot_in-region at capacity 1 a b (omega arith) same)

-- a change within the other slot leaves this one
pub mine_kept : (at capacity slot : ℕ) (from n : ℕ) (before after : List ℕ) → slot < 2 → ChangedIn from n before after
    → place at capacity (1 - slot) ≤ from → from + n ≤ place at capacity (1 - slot) + slot_size capacity
    → slot_in at capacity slot after ≡ slot_in at capacity slot before
mine_kept at capacity slot from n before after two changed low high =
    elim (places_apart at capacity slot two) [
      | inl below ↦ slot_in-outside at capacity slot from n before after changed (inl (omega (arith, below, low)))
      | inr above ↦ slot_in-outside at capacity slot from n before after changed (inr (omega (arith, above, high)))
    ]

-- the other slot lies in the region
pub spare_inside : (kept : Kept) → (kept.at ≤ spare_place kept) × (spare_place kept + slot_size kept.capacity ≤ kept.at + region_size kept.capacity)
spare_inside kept = place_inside kept.at kept.capacity (1 - kept.slot) (omega arith)
