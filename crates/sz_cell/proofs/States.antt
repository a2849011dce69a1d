-- What the calls of a cell make of what its states say.
use Rattle.std.specs.Prelude.{◌≡◌, ◌≢◌, ℕ, ◌+◌, ◌-◌, ◌≤◌, ◌<◌, ◌^◌, List, [], ◌∷◌, length, slice_index, Option, Some, None, Result, Ok}
use Rattle.std.proofs.Common.{refl, sym, ◌∙◌, ap, subst, arith, inl, inr}
use Rattle.std.proofs.lemmas.Bool.{cases_eq}
use Rattle.std.proofs.lemmas.Option.{none-some, same_Some}
use Rattle.sz_disk.specs.Disk.{Seen, IsLawful, IsQuiet, IsSettled, LeavesOnly, TornIn}
use Rattle.sz_disk.specs.Image.{TornFrom}
use Rattle.sz_disk.proofs.Moments.{length-read, still-leaves, torn-leaves, leaves-weaker, leaves-now}
use Rattle.sz_cell.specs.Cell.{Kept, Pending, Means, MeansEither, IsReady, IsCleared, IsFilled, spare, spare_place, next_of}
use Rattle.sz_cell.specs.Slot.{Slot, IsSpelled, open_gate, closed_gate, spelled, header_size}
use Rattle.sz_cell.specs.Write.{Wrote, ClosesGate}
use Rattle.sz_cell.proofs.Regions.{slot_in-region}
use Rattle.sz_cell.proofs.Slots.{gate_at, gate_written, slot_written, length-spelled}
use Rattle.sz_cell.proofs.Torn.{clear_torn, fill_torn, publish_open, publish_torn}
use Rattle.sz_cell.proofs.Writes.{wrote_image}

-- calls that write nothing
pub ready-quiet : (old new : Seen) (kept : Kept) (payload : List ℕ) → IsQuiet old new → IsReady old kept payload → IsReady new kept payload
ready-quiet old new kept payload quiet ready = record {
  same = λ image left. let same = ready.same image (quiet.still.crash image left) in (same.0, quiet.reads ∙ same.1, same.2);
  means = λ image left. ready.means image (quiet.still.crash image left);
  size = ready.size;
}

-- on a settled disk
pub ready-settled : (disk : Seen) (kept : Kept) (payload : List ℕ) → IsSettled disk
    → ((image : List ℕ) → disk.leaves image → Means kept payload image) → length payload ≡ kept.size → IsReady disk kept payload
ready-settled disk kept payload settled means size = record {
  same = λ image left. (image, settled image left, refl);
  means = means;
  size = size;
}

-- the other slot is the one that the disk reads
spare_read : (disk : Seen) (kept : Kept) (payload : List ℕ) → IsReady disk kept payload → (image bytes : List ℕ) → disk.leaves image
    → disk.reads ≡ Some bytes → spare kept image ≡ spare kept bytes
spare_read disk kept payload ready image bytes left told =
    let same = ready.same image left in
    slot_in-region kept.at kept.capacity (1 - kept.slot) image same.0 (omega arith) same.2
    ∙ ap (spare kept) (same_Some same.0 bytes (sym same.1 ∙ told))

-- a disk that tells nothing leaves nothing
pub untold : (disk : Seen) → IsLawful disk → disk.reads ≡ None → (image : List ℕ) → disk.leaves image → ⊥
untold disk lawful none image left =
    let read = lawful.tells_reads image left in
    none-some read.0 (sym none ∙ read.1)

module _ (old new : Seen) (lawful : IsLawful old) (kept : Kept) (payload : List ℕ) where
  -- the gate that the disk reads is that of each image
  gate_each : IsReady old kept payload → (bytes : List ℕ) → old.reads ≡ Some bytes → (image : List ℕ) → old.leaves image
      → (spare kept image).gate ≡ slice_index bytes (spare_place kept)
  gate_each ready bytes told image left =
      ap (λ (s : Slot). s.gate) (spare_read old kept payload ready image bytes left told)
      ∙ gate_at kept.at kept.capacity (1 - kept.slot) bytes

  module _ {T E : Type 0} (result : Result T E) (ready : IsReady old kept payload) (closes : ClosesGate (spare_place kept) old new result) where
    -- the gate of the other slot is closed: at any moment
    pub clear-any_moment : LeavesOnly old new (Means kept payload)
    clear-any_moment = by_reads old.reads refl
      where
        torn : LeavesOnly old new (TornFrom (spare_place kept) 1 old.leaves)
        torn = torn-leaves (spare_place kept) 1 old new lawful closes.elsewhere

        by_reads : (reads : Option (List ℕ)) → old.reads ≡ reads → LeavesOnly old new (Means kept payload)
        by_reads None none =
            leaves-weaker old new _ (Means kept payload) (λ image from. absurd (untold old lawful none from.0 from.1)) torn
        by_reads (Some bytes) told = elim (cases_eq (slice_index bytes (spare_place kept)) open_gate) [
          | inl is ↦ leaves-weaker old new _ (Means kept payload)
              (λ image from.
              clear_torn kept payload from.0 image (ready.means from.0 from.1) (gate_each ready bytes told from.0 from.1 ∙ is) from.2)
              torn
          | inr shut ↦ leaves-weaker old new _ (Means kept payload) ready.means
              (still-leaves old new lawful (closes.where_closed bytes told shut).still)
        ]

  -- and at the end
  pub clear-ok : {T E : Type 0} (value : T) → IsLawful new → spare_place kept + 1 ≤ old.size → IsReady old kept payload
      → ClosesGate {T = T} {E = E} (spare_place kept) old new (Ok value) → IsCleared new kept payload
  clear-ok value after fits ready closes = by_reads old.reads refl
    where
      p : ℕ
      p = spare_place kept

      means : (image : List ℕ) → new.leaves image → Means kept payload image
      means = leaves-now old new (Means kept payload) after (clear-any_moment (Ok value) ready closes)

      by_reads : (reads : Option (List ℕ)) → old.reads ≡ reads → IsCleared new kept payload
      by_reads None none =
          let nothing = λ (image : List ℕ) (left : new.leaves image).
          let from = closes.elsewhere.crash image left in
          untold old lawful none from.0 from.1 in
          record {
            ready = record {
              same = λ image left. absurd (nothing image left);
              means = λ image left. absurd (nothing image left);
              size = ready.size;
            };
            closed = λ image left. absurd (nothing image left);
          }
      by_reads (Some bytes) told = elim (cases_eq (slice_index bytes p) open_gate) [
        | inl is ↦
            let wrote = closes.where_open bytes told is in
            record {
              ready = ready-settled new kept payload wrote.settled means ready.size;
              closed = λ image left here.
                  let from = wrote_image p (closed_gate ∷ []) old new wrote image left in
                  let inside : p + 1 ≤ length from.0 = omega (arith, fits, length-read old lawful from.0 from.1) in
                  let shut : (spare kept image).gate ≡ closed_gate =
                  ap (λ l. (spare kept l).gate) from.2 ∙ gate_written kept.at kept.capacity (1 - kept.slot) closed_gate from.0 inside in
                  absurd (omega (arith, shut, here));
            }
        | inr shut ↦
            let quiet = closes.where_closed bytes told shut in
            record {
              ready = ready-quiet old new kept payload quiet ready;
              closed = λ image left here. shut (sym (gate_each ready bytes told image (quiet.still.crash image left)) ∙ here);
            }
      ]

  -- the other slot is written behind its closed gate: at any moment
  pub fill-torn : (n : ℕ) → n ≤ header_size - 1 + kept.capacity → IsCleared old kept payload → TornIn (spare_place kept + 1) n old new
      → LeavesOnly old new (λ image. Means kept payload image × ((spare kept image).gate ≢ open_gate))
  fill-torn n fits cleared torn =
      leaves-weaker old new (TornFrom (spare_place kept + 1) n old.leaves) _
      (λ image from. fill_torn kept payload from.0 image (cleared.ready.means from.0 from.1) n (cleared.closed from.0 from.1) fits from.2)
      (torn-leaves (spare_place kept + 1) n old new lawful torn)

  pub fill-any_moment : (n : ℕ) → n ≤ header_size - 1 + kept.capacity → IsCleared old kept payload
      → TornIn (spare_place kept + 1) n old new → LeavesOnly old new (Means kept payload)
  fill-any_moment n fits cleared torn =
      leaves-weaker old new _ (Means kept payload) (λ image both. both.0) (fill-torn n fits cleared torn)

  -- and at the end
  pub fill-ok : (next : List ℕ) → IsLawful new → kept.sequence + 1 < 2 ^ 64 → length next < 2 ^ 32 → length next ≤ kept.capacity
      → spare_place kept + 1 ≤ old.size → IsCleared old kept payload
      → TornIn (spare_place kept + 1) (length (spelled (kept.sequence + 1) next)) old new
      → Wrote (spare_place kept + 1) (spelled (kept.sequence + 1) next) old new
      → IsFilled new (record { kept = kept; size = length next }) payload next
  fill-ok next after word short fits within cleared torn wrote =
      let long : length (spelled (kept.sequence + 1) next) ≤ header_size - 1 + kept.capacity =
      omega (arith, length-spelled (kept.sequence + 1) next) in
      let now = leaves-now old new _ after (fill-torn (length (spelled (kept.sequence + 1) next)) long cleared torn) in
      record {
        cleared = record {
          ready = ready-settled new kept payload wrote.settled (λ image left. (now image left).0) cleared.ready.size;
          closed = λ image left. (now image left).1;
        };
        spelled = λ image left.
            let from = wrote_image (spare_place kept + 1) (spelled (kept.sequence + 1) next) old new wrote image left in
            let inside : spare_place kept + 1 ≤ length from.0 = omega (arith, within, length-read old lawful from.0 from.1) in
            subst (λ l. IsSpelled (spare kept l) (kept.sequence + 1) next) (sym from.2)
            (slot_written kept.at kept.capacity (1 - kept.slot) (kept.sequence + 1) next from.0 word short fits inside);
        size = refl;
        fits = fits;
      }

module _ (old new : Seen) (lawful : IsLawful old) (pending : Pending) (payload next : List ℕ) where
  module _ (filled : IsFilled old pending payload next) (torn : TornIn (spare_place pending.kept) 1 old new) where
    -- the gate of the next value is opened: at any moment
    pub publish-any_moment : LeavesOnly old new (MeansEither pending.kept payload next)
    publish-any_moment =
        leaves-weaker old new (TornFrom (spare_place pending.kept) 1 old.leaves) _
        (λ image from.
        publish_torn pending.kept payload from.0 image (filled.cleared.ready.means from.0 from.1) next (filled.spelled from.0 from.1)
        (omega (arith, filled.size, filled.fits)) from.2)
        (torn-leaves (spare_place pending.kept) 1 old new lawful torn)

    -- and at the end
    pub publish-ok : IsLawful new → spare_place pending.kept + 1 ≤ old.size → Wrote (spare_place pending.kept) (open_gate ∷ []) old new
        → IsReady new (next_of pending) next
    publish-ok after within wrote =
        ready-settled new (next_of pending) next wrote.settled
        (λ image left.
        let from = wrote_image (spare_place pending.kept) (open_gate ∷ []) old new wrote image left in
        let inside : spare_place pending.kept + 1 ≤ length from.0 = omega (arith, within, length-read old lawful from.0 from.1) in
        let gate : (spare pending.kept image).gate ≡ open_gate =
        ap (λ l. (spare pending.kept l).gate) from.2
        ∙ gate_written pending.kept.at pending.kept.capacity (1 - pending.kept.slot) open_gate from.0 inside in
        let whole = torn.crash image left in
        publish_open pending.kept payload whole.0 image (filled.cleared.ready.means whole.0 whole.1) next
        (filled.spelled whole.0 whole.1) (omega (arith, filled.size, filled.fits)) whole.2 gate)
        filled.size
