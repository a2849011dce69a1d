-- The record of a cell that is replaced, as the cell tells it.
use Rattle.std.proofs.Common.{◌≡◌, ◌⊎◌, ◌↔◌, ℕ, ◌+◌, ◌^◌, ◌≤◌, List, ◌∷◌, length, Ok, Err, refl, sym, subst, inl, arith}
use Rattle.sz_disk.specs.Disk.{Seen, IsLawful, TornIn}
use Rattle.sz_disk.proofs.Moments.{leaves-none, quiet-none, still-torn, torn-wider}
use Rattle.sz_cell.specs.Cell.{IsReady, Kept, MeansEither, next_of, spare_place}
use Rattle.sz_cell.specs.Slot.{open_gate, region_size, spelled}
use Rattle.sz_cell.specs.Transition.{Replaced}
use Rattle.sz_cell.specs.declared.fault.ClearFault.{ClearFault}
use Rattle.sz_cell.specs.declared.fault.ClearFault.TheVariants.{Failed as clear_fault, Exhausted as exhausted_cell}
use Rattle.sz_cell.proofs.Regions.{spare_inside}
use Rattle.sz_cell.proofs.Slots.{length-spelled}
use Rattle.sz_record.specs.declared.device.Device.{Device}
use Rattle.sz_state.specs.Change.{ChangeAnswered, StandsThrough}
use Rattle.sz_state.specs.Fault.{of_clear}
use Rattle.sz_state.specs.Ran.{NowStands, RecordReplaced}
use Rattle.sz_state.specs.Stands.{Stands, StandsAnew}
use Rattle.sz_state.specs.declared.fault.StateFault.{StateFault}
use Rattle.sz_state.specs.declared.held.Held.{Held}

-- the slot that is written lies in the cell
cell_torn : (old new : Seen) (kept : Kept) (sequence : ℕ) (payload : List ℕ) → length payload ≤ kept.capacity
    → TornIn (spare_place kept) (length (open_gate ∷ spelled sequence payload)) old new
    → TornIn kept.at (region_size kept.capacity) old new
cell_torn old new kept sequence payload fits torn =
    let inside = spare_inside kept in
    torn-wider (spare_place kept) (length (open_gate ∷ spelled sequence payload)) kept.at (region_size kept.capacity)
    old new inside.0 (omega (arith, inside.1, length-spelled sequence payload, fits)) torn

module _ (old new : Seen) (kept : Kept) (before payload : List ℕ) (sequence : ℕ) (fits : length payload ≤ kept.capacity)
    (torn : TornIn (spare_place kept) (length (open_gate ∷ spelled sequence payload)) old new) where
  pub replaced-ok : (now : Kept) (device : Device) → now ≡ next_of (record { kept = kept; size = length payload })
      → Replaced {T = Kept} {E = ClearFault} old new (record { kept = kept; size = length payload }) before payload (Ok now)
      → RecordReplaced old new kept before payload (Ok (record { device = device; ready = now }))
  replaced-ok now device same replaced =
      let P : Kept → Type 0 = λ k. IsReady new k payload in
      let Q : Kept → Type 0 = λ k. k.at ≡ kept.at in
      let R : Kept → Type 0 = λ k. k.capacity ≡ kept.capacity in
      record {
        ready = subst P (sym same) replaced.ok;
        at = subst Q (sym same) refl;
        capacity = subst R (sym same) refl;
        settled = replaced.settled;
        any_moment = replaced.any_moment;
        torn = cell_torn old new kept sequence payload fits torn;
      }

  pub replaced-err : (fault : ClearFault) (refusal : StateFault)
      → Replaced {T = Kept} {E = ClearFault} old new (record { kept = kept; size = length payload }) before payload (Err fault)
      → RecordReplaced old new kept before payload (Err refusal)
  replaced-err fault refusal replaced = record {
    ready = tt;
    at = tt;
    capacity = tt;
    settled = tt;
    any_moment = replaced.any_moment;
    torn = cell_torn old new kept sequence payload fits torn;
  }

-- nothing was done
pub replaced-not : (disk : Seen) (kept : Kept) (before next : List ℕ) (refusal : StateFault) → IsLawful disk
    → IsReady disk kept before → RecordReplaced disk disk kept before next (Err refusal)
replaced-not disk kept before next refusal lawful ready = record {
  ready = tt;
  at = tt;
  capacity = tt;
  settled = tt;
  any_moment = leaves-none disk (MeansEither kept before next) lawful (λ image left. inl (ready.means image left));
  torn = still-torn kept.at (region_size kept.capacity) disk disk (quiet-none disk).still;
}

pub stands-not : (disk : Seen) (before after : Device) (refusal : StateFault) → IsLawful disk → NowStands disk before
    → StandsThrough {T = Held} {E = StateFault} disk disk before after (Err refusal)
stands-not disk before after refusal lawful stands = record {
  any_moment = leaves-none disk (λ image. Stands image before ⊎ StandsAnew image after) lawful
      (λ image left. inl (stands image left));
  ok = tt;
}

-- `Exhausted` exactly at the last sequence
pub clear-answered : (sequence : ℕ) (fault : ClearFault)
    → ((number : ℕ) → (fault ≡ exhausted_cell number) ↔ ((number ≡ sequence) × (sequence + 1 ≡ 2 ^ 64)))
    → ChangeAnswered sequence (Err (of_clear fault))
clear-answered sequence clear_fault exact = λ last. absurd (cc ((exact sequence).1 (refl, last)))
clear-answered sequence (exhausted_cell number) exact = (exact number).0 refl
