-- A region without a value, and the first value that is written to it.
use Rattle.std.specs.Prelude.{◌≡◌, ◌≢◌, ◌⊎◌, ℕ, ◌+◌, ◌-◌, ◌≤◌, ◌<◌, ◌^◌, List, [], ◌∷◌, length, Option, Some}
use Rattle.std.proofs.Common.{zero, suc, refl, sym, ◌∙◌, ap, subst, arith, inl, inr}
use Rattle.std.proofs.lemmas.Bool.{cases_eq}
use Rattle.sz_disk.specs.Disk.{Seen, IsLawful, IsSynced, IsStill, LeavesOnly, TornIn}
use Rattle.sz_disk.specs.Image.{ChangedIn, TornFrom}
use Rattle.sz_disk.proofs.Moments.{length-read, still-leaves, torn-leaves, leaves-weaker, leaves-both_runs}
use Rattle.sz_cell.specs.Cell.{IsReady, NoneOpen, formatted}
use Rattle.sz_cell.specs.Meaning.{none, value, meaning}
use Rattle.sz_cell.specs.Slot.{IsSpelled, open_gate, slot_in, place, spelled, header_size, slot_size}
use Rattle.sz_cell.specs.Transition.{MeansAsBeforeOr}
use Rattle.sz_cell.specs.Write.{Wrote}
use Rattle.sz_cell.proofs.Judged.{neither}
use Rattle.sz_cell.proofs.Regions.{mine_kept}
use Rattle.sz_cell.proofs.Slots.{gate_torn, gate_kept, gate_written, slot_written, length-spelled}
use Rattle.sz_cell.proofs.States.{ready-settled}
use Rattle.sz_cell.proofs.Values.{HasValue, value_in}
use Rattle.sz_cell.proofs.Writes.{wrote_image}

module _ (at capacity : ℕ) where
  abbrev pub BothClosed : List ℕ → Type 0
  BothClosed image = (slot : ℕ) → slot < 2 → (slot_in at capacity slot image).gate ≢ open_gate

  pub closed_none : (image : List ℕ) → BothClosed image → meaning at capacity image ≡ none
  unfolding meaning
  closed_none image closed =
      neither capacity (slot_in at capacity 0 image) (slot_in at capacity 1 image) (closed 0 (omega arith)) (closed 1 (omega arith))

  pub closed_read : (reads : Option (List ℕ)) (bytes : List ℕ) → NoneOpen at capacity reads → reads ≡ Some bytes → BothClosed bytes
  closed_read reads bytes closed told = subst (λ r. NoneOpen at capacity r) told closed

  -- slot 0 written behind its gate
  pub behind_closed : (n : ℕ) (whole image : List ℕ) → n ≤ header_size - 1 + capacity → BothClosed whole
      → ChangedIn (place at capacity 0 + 1) n whole image → BothClosed image
  behind_closed n whole image fits closed changed zero two is =
      closed 0 two (sym (gate_kept at capacity 0 n whole image changed) ∙ is)
  behind_closed n whole image fits closed changed (suc zero) two is =
      let same = mine_kept at capacity 1 (place at capacity 0 + 1) n whole image two changed (omega arith) (omega arith) in
      closed 1 two (ap (λ s. s.gate) (sym same) ∙ is)
  behind_closed n whole image fits closed changed (suc (suc slot)) two is = omega arith

  module _ (payload : List ℕ) (fits : length payload ≤ capacity) (whole image : List ℕ) (closed : BothClosed whole)
      (written : IsSpelled (slot_in at capacity 0 whole) 1 payload) (changed : ChangedIn (place at capacity 0) 1 whole image) where
    other_same : slot_in at capacity 1 image ≡ slot_in at capacity 1 whole
    other_same =
        mine_kept at capacity 1 (place at capacity 0) 1 whole image (omega arith) changed (omega arith) (omega arith)

    other_closed : (slot_in at capacity 1 image).gate ≢ open_gate
    other_closed is = closed 1 (omega arith) (ap (λ s. s.gate) (sym other_same) ∙ is)

    -- the gate of slot 0, open
    pub first_value : (slot_in at capacity 0 image).gate ≡ open_gate → meaning at capacity image ≡ value 0 1 payload
    first_value gate =
        let behind = gate_torn at capacity 0 whole image changed in
        let has : HasValue capacity (slot_in at capacity 0 image) (slot_in at capacity 1 image) = record {
          gate = gate;
          fits = omega (arith, behind.size, written.size_is, fits);
          older = λ is. absurd (other_closed is);
        } in
        value_in at capacity 0 image (omega arith) has
        ∙ ap (λ s. value 0 s (slot_in at capacity 0 image).payload) (behind.sequence ∙ written.sequence_is)
        ∙ ap (λ p. value 0 1 p) (behind.payload ∙ written.payload_is)

    -- and torn
    pub first_torn : (meaning at capacity image ≡ none) ⊎ (meaning at capacity image ≡ value 0 1 payload)
    first_torn = elim (cases_eq (slot_in at capacity 0 image).gate open_gate) [
      | inl is ↦ inr (first_value is)
      | inr shut ↦ inl (closed_none image (both shut))
    ]
      where
        both : (slot_in at capacity 0 image).gate ≢ open_gate → BothClosed image
        both shut zero two = shut
        both shut (suc zero) two = other_closed
        both shut (suc (suc slot)) two = absurd (omega arith)

-- A region whose gates are both closed, on a disk that was synced.
module _ (at capacity : ℕ) (payload : List ℕ) (fits : length payload ≤ capacity) (old synced behind : Seen)
    (lawful : IsLawful old) (lawful_synced : IsLawful synced) where
  abbrev AsBefore : List ℕ → Type 0
  AsBefore image = MeansAsBeforeOr at capacity old.leaves (value 0 1 payload) image

  pub still-any_moment : (new : Seen) → IsStill old new → LeavesOnly old new AsBefore
  still-any_moment new still =
      leaves-weaker old new old.leaves AsBefore (λ image left. inl (image, left, refl)) (still-leaves old new lawful still)

  module _ (sync : IsSynced old synced) (free : NoneOpen at capacity old.reads)
      (torn : TornIn (place at capacity 0 + 1) (length (spelled 1 payload)) synced behind) where
    long : length (spelled 1 payload) ≤ header_size - 1 + capacity
    long = omega (arith, length-spelled 1 payload)

    closed : (image : List ℕ) → synced.leaves image → BothClosed at capacity image
    closed image left = closed_read at capacity old.reads image free (sym sync.quiet.reads ∙ sync.settled image left)

    closed_behind : (image : List ℕ) → TornFrom (place at capacity 0 + 1) (length (spelled 1 payload)) synced.leaves image
        → BothClosed at capacity image
    closed_behind image from =
        behind_closed at capacity (length (spelled 1 payload)) from.0 image long (closed from.0 from.1) from.2

    -- what means nothing means what an image from before means
    as_before : (image whole : List ℕ) → synced.leaves whole → meaning at capacity image ≡ none → AsBefore image
    as_before image whole left is = inl (
      whole,
      sync.quiet.still.crash whole left,
      is ∙ sym (closed_none at capacity whole (closed whole left)),
    )

    -- while slot 0 is written behind its gate
    pub behind-any_moment : LeavesOnly old behind AsBefore
    behind-any_moment = leaves-both_runs old synced behind AsBefore (still-any_moment synced sync.quiet.still)
        (leaves-weaker synced behind _ AsBefore
        (λ image from. as_before image from.0 from.1 (closed_none at capacity image (closed_behind image from)))
        (torn-leaves (place at capacity 0 + 1) (length (spelled 1 payload)) synced behind lawful_synced torn))

    module _ (last : Seen) (lawful_behind : IsLawful behind) (short : length payload < 2 ^ 32)
        (within : place at capacity 0 + slot_size capacity ≤ old.size)
        (wrote : Wrote (place at capacity 0 + 1) (spelled 1 payload) synced behind) (gate : TornIn (place at capacity 0) 1 behind last) where
      filled : (image : List ℕ) → behind.leaves image → IsSpelled (slot_in at capacity 0 image) 1 payload
      filled image left =
          let from = wrote_image (place at capacity 0 + 1) (spelled 1 payload) synced behind wrote image left in
          let inside : place at capacity 0 + 1 ≤ length from.0 =
          omega (arith, within, sync.quiet.still.size, length-read synced lawful_synced from.0 from.1) in
          subst (λ l. IsSpelled (slot_in at capacity 0 l) 1 payload) (sym from.2)
          (slot_written at capacity 0 1 payload from.0 (omega arith) short fits inside)

      -- while its gate is opened
      pub gate-any_moment : LeavesOnly old last AsBefore
      gate-any_moment = leaves-both_runs old behind last AsBefore behind-any_moment
          (leaves-weaker behind last (TornFrom (place at capacity 0) 1 behind.leaves) AsBefore
          (λ image from.
          let whole = torn.crash from.0 from.1 in
          elim (first_torn at capacity payload fits from.0 image (closed_behind from.0 whole) (filled from.0 from.1) from.2) [
            | inl is ↦ as_before image whole.0 whole.1 is
            | inr is ↦ inr is
          ])
          (torn-leaves (place at capacity 0) 1 behind last lawful_behind gate))

      -- and once it is open
      pub first-ready : Wrote (place at capacity 0) (open_gate ∷ []) behind last
          → IsReady last (formatted at capacity (length payload)) payload
      first-ready opened = ready-settled last (formatted at capacity (length payload)) payload opened.settled
          (λ image left.
          let from = wrote_image (place at capacity 0) (open_gate ∷ []) behind last opened image left in
          let inside : place at capacity 0 + 1 ≤ length from.0 =
          omega (arith, within, sync.quiet.still.size, torn.size, length-read behind lawful_behind from.0 from.1) in
          let is : (slot_in at capacity 0 image).gate ≡ open_gate =
          ap (λ l. (slot_in at capacity 0 l).gate) from.2 ∙ gate_written at capacity 0 open_gate from.0 inside in
          let at_once = gate.crash image left in
          first_value at capacity payload fits at_once.0 image (closed_behind at_once.0 (torn.crash at_once.0 at_once.1))
          (filled at_once.0 at_once.1) at_once.2 is)
          refl
