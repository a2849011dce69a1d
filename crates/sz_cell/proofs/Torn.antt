-- What a write to the other slot leaves of the value that stands, in one image: also while it is torn.
use Rattle.std.specs.Prelude.{◌≡◌, ◌≢◌, ℕ, ◌+◌, ◌-◌, ◌≤◌, ◌<◌, List, length}
use Rattle.std.proofs.Common.{sym, ◌∙◌, ap, subst, arith, inl, inr}
use Rattle.std.proofs.lemmas.Bool.{cases_eq}
use Rattle.sz_disk.specs.Image.{ChangedIn}
use Rattle.sz_cell.specs.Cell.{Kept, Means, MeansNext, MeansEither, spare, spare_place}
use Rattle.sz_cell.specs.Meaning.{value}
use Rattle.sz_cell.specs.Slot.{Slot, IsSpelled, open_gate, slot_in, header_size}
use Rattle.sz_cell.proofs.Regions.{mine_kept}
use Rattle.sz_cell.proofs.Slots.{gate_torn, gate_kept}
use Rattle.sz_cell.proofs.Values.{HasValue, Found, value_in, value_found}

-- the slot in which the value stands
abbrev pub own : Kept → List ℕ → Slot
own kept image = slot_in kept.at kept.capacity kept.slot image

module _ (kept : Kept) (payload : List ℕ) (whole image : List ℕ) (means : Means kept payload whole) where
  found : (kept.slot < 2) × Found kept.capacity (own kept whole) (spare kept whole) kept.sequence payload
  found = value_found kept.at kept.capacity kept.slot whole kept.sequence payload means

  -- the value stands on where its slot is the same and the other one is closed, or whole and older
  same_value : own kept image ≡ own kept whole
      → ((spare kept image).gate ≡ open_gate
      → ((spare kept image).sequence < (own kept whole).sequence) × ((spare kept image).size ≤ kept.capacity))
      → Means kept payload image
  same_value same older =
      let has = found.1.has in
      let now : HasValue kept.capacity (own kept image) (spare kept image) =
      subst (λ (m : Slot). HasValue kept.capacity m (spare kept image)) (sym same) (record { gate = has.gate; fits = has.fits; older = older }) in
      value_in kept.at kept.capacity kept.slot image found.0 now
      ∙ ap (λ (m : Slot). value kept.slot m.sequence m.payload) same
      ∙ sym (value_in kept.at kept.capacity kept.slot whole found.0 has)
      ∙ means

  -- the gate of an older whole value, torn
  pub clear_torn : (spare kept whole).gate ≡ open_gate → ChangedIn (spare_place kept) 1 whole image → Means kept payload image
  clear_torn gate changed =
      let behind = gate_torn kept.at kept.capacity (1 - kept.slot) whole image changed in
      let older = found.1.has.older gate in
      same_value (mine_kept kept.at kept.capacity kept.slot _ 1 whole image found.0 changed (omega arith) (omega arith))
      (λ _. (omega (arith, behind.sequence, older.0), omega (arith, behind.size, older.1)))

  -- a closed slot, written behind its gate
  pub fill_torn : (n : ℕ) → (spare kept whole).gate ≢ open_gate → n ≤ header_size - 1 + kept.capacity
      → ChangedIn (spare_place kept + 1) n whole image
      → Means kept payload image × ((spare kept image).gate ≢ open_gate)
  fill_torn n closed fits changed =
      let gate = gate_kept kept.at kept.capacity (1 - kept.slot) n whole image changed in
      let shut : (spare kept image).gate ≢ open_gate = λ is. closed (sym gate ∙ is) in (
        same_value (mine_kept kept.at kept.capacity kept.slot _ n whole image found.0 changed (omega arith) (omega arith)) (λ is. absurd (shut is)),
        shut,
      )

  module _ (next : List ℕ) (spelled : IsSpelled (spare kept whole) (kept.sequence + 1) next) (fits : length next ≤ kept.capacity)
      (changed : ChangedIn (spare_place kept) 1 whole image) where
    -- the next value, once its gate is open
    pub publish_open : (spare kept image).gate ≡ open_gate → MeansNext kept next image
    publish_open gate =
        let behind = gate_torn kept.at kept.capacity (1 - kept.slot) whole image changed in
        let mine = mine_kept kept.at kept.capacity kept.slot _ 1 whole image found.0 changed (omega arith) (omega arith) in
        let back : 1 - (1 - kept.slot) ≡ kept.slot = omega (arith, found.0) in
        let P : ℕ → Type 0 = λ s. HasValue kept.capacity (spare kept image) (slot_in kept.at kept.capacity s image) in
        let has : P (1 - (1 - kept.slot)) =
        subst P (sym back) (record {
          gate = gate;
          fits = omega (arith, behind.size, spelled.size_is);
          older = λ _. (
            omega (arith, behind.sequence, spelled.sequence_is, found.1.sequence_is, ap (λ (m : Slot). m.sequence) mine),
            omega (arith, found.1.has.fits, ap (λ (m : Slot). m.size) mine),
          );
        }) in
        value_in kept.at kept.capacity (1 - kept.slot) image (omega arith) has
        ∙ ap (λ s. value (1 - kept.slot) s (spare kept image).payload) (behind.sequence ∙ spelled.sequence_is)
        ∙ ap (λ p. value (1 - kept.slot) (kept.sequence + 1) p) (behind.payload ∙ spelled.payload_is)

    -- and while its gate is torn
    pub publish_torn : MeansEither kept payload next image
    publish_torn = elim (cases_eq (spare kept image).gate open_gate) [
      | inl is ↦ inr (publish_open is)
      | inr shut ↦ inl (
          same_value (mine_kept kept.at kept.capacity kept.slot _ 1 whole image found.0 changed (omega arith) (omega arith)) (λ is. absurd (shut is))
          )
    ]
