-- When a slot has the cell's value.
use Rattle.std.specs.Prelude.{◌≡◌, ◌⊎◌, ℕ, ◌-◌, ◌≤◌, ◌<◌, List, true, false}
use Rattle.std.proofs.Common.{zero, suc, sym, ◌∙◌, subst, arith, inl, inr}
use Rattle.std.proofs.lemmas.Bool.{cases_Bool, cond-true, cond-false}
use Rattle.std.proofs.lemmas.Bool.Decides.{nat_tests}
use Rattle.sz_cell.specs.Slot.{Slot, open_gate, slot_in}
use Rattle.sz_cell.specs.Meaning.{none, damaged, value, is_damaged, is_newest, meaning_of, meaning}

-- the slot is open and whole, and the other one is closed, or whole and older
pub record HasValue (capacity : ℕ) (mine other : Slot) : Type 0 where
  pub gate : mine.gate ≡ open_gate
  pub fits : mine.size ≤ capacity
  pub older : other.gate ≡ open_gate → (other.sequence < mine.sequence) × (other.size ≤ capacity)

pub meaning_of-first : (capacity : ℕ) (first second : Slot) → HasValue capacity first second
    → meaning_of capacity first second ≡ value 0 first.sequence first.payload
unfolding meaning_of
meaning_of-first capacity first second has = grind (arith, nat_tests, has.gate, has.fits, has.older)

pub meaning_of-second : (capacity : ℕ) (first second : Slot) → HasValue capacity second first
    → meaning_of capacity first second ≡ value 1 second.sequence second.payload
unfolding meaning_of
meaning_of-second capacity first second has = grind (arith, nat_tests, has.gate, has.fits, has.older)

-- what has a value, has one in a slot
pub record Found (capacity : ℕ) (mine other : Slot) (sequence : ℕ) (payload : List ℕ) : Type 0 where
  pub has : HasValue capacity mine other
  pub sequence_is : sequence ≡ mine.sequence
  pub payload_is : payload ≡ mine.payload

-- the tests of `meaning_of`, read back
module _ (capacity : ℕ) (slot other : Slot) where
  whole : is_damaged capacity slot other ≡ false → slot.gate ≡ open_gate → slot.size ≤ capacity
  whole test gate = grind (arith, nat_tests)

  newest_gate : is_newest slot other ≡ true → slot.gate ≡ open_gate
  newest_gate test = grind (arith, nat_tests)

  newest_older : is_newest slot other ≡ true → other.gate ≡ open_gate → other.sequence < slot.sequence
  newest_older test gate = grind (arith, nat_tests)

  -- a newest slot, neither of them damaged
  newest_found : is_damaged capacity slot other ≡ false → is_damaged capacity other slot ≡ false → is_newest slot other ≡ true
      → (sequence : ℕ) (payload : List ℕ) → sequence ≡ slot.sequence → payload ≡ slot.payload
      → Found capacity slot other sequence payload
  newest_found mine_whole other_whole newest sequence payload a b = record {
    has = record {
      gate = newest_gate newest;
      fits = whole mine_whole (newest_gate newest);
      older = λ gate. (newest_older newest gate, grind (arith, nat_tests));
    };
    sequence_is = a;
    payload_is = b;
  }

value_parts : (a b d e : ℕ) (c f : List ℕ) → value a b c ≡ value d e f → (a ≡ d) × (b ≡ e) × (c ≡ f)
value_parts a b d e c f same = (cc, cc, cc)

value_has : (capacity : ℕ) (first second : Slot) (slot sequence : ℕ) (payload : List ℕ)
    → meaning_of capacity first second ≡ value slot sequence payload
    → ((slot ≡ 0) × Found capacity first second sequence payload) ⊎ ((slot ≡ 1) × Found capacity second first sequence payload)
unfolding meaning_of
value_has capacity first second slot sequence payload is = elim (cases_Bool (is_damaged capacity first second)) [
  | inl broken ↦ absurd (differs_damaged 0 first.sequence first.size (sym (cond-true _ _ _ broken) ∙ is))
  | inr whole_first ↦ elim (cases_Bool (is_damaged capacity second first)) [
    | inl broken ↦ absurd (differs_damaged 1 second.sequence second.size (sym (cond-false _ _ _ whole_first ∙ cond-true _ _ _ broken) ∙ is))
    | inr whole_second ↦ elim (cases_Bool (is_newest first second)) [
      | inl newest ↦
          let both = cond-false _ _ _ whole_first ∙ cond-false _ _ _ whole_second ∙ cond-true _ _ _ newest in
          let parts = value_parts 0 first.sequence slot sequence first.payload payload (sym both ∙ is) in
          inl (sym parts.0, newest_found capacity first second whole_first whole_second newest sequence payload (sym parts.1) (sym parts.2))
      | inr not_first ↦ elim (cases_Bool (is_newest second first)) [
        | inl newest ↦
            let all = cond-false _ _ _ whole_first ∙ cond-false _ _ _ whole_second ∙ cond-false _ _ _ not_first ∙ cond-true _ _ _ newest in
            let parts = value_parts 1 second.sequence slot sequence second.payload payload (sym all ∙ is) in
            inr (sym parts.0, newest_found capacity second first whole_second whole_first newest sequence payload (sym parts.1) (sym parts.2))
        | inr not_second ↦
            let all = cond-false _ _ _ whole_first ∙ cond-false _ _ _ whole_second ∙ cond-false _ _ _ not_first ∙ cond-false _ _ _ not_second in
            absurd (differs_none (sym all ∙ is))
      ]
    ]
  ]
]
  where
    differs_damaged : (a b c : ℕ) → damaged a b c ≡ value slot sequence payload → ⊥
    differs_damaged a b c same = cc

    differs_none : none ≡ value slot sequence payload → ⊥
    differs_none same = cc

-- a slot that has the value, in an image
pub value_in : (at capacity slot : ℕ) (image : List ℕ) → slot < 2
    → HasValue capacity (slot_in at capacity slot image) (slot_in at capacity (1 - slot) image)
    → meaning at capacity image ≡ value slot (slot_in at capacity slot image).sequence (slot_in at capacity slot image).payload
unfolding meaning
value_in at capacity zero image two has = meaning_of-first capacity (slot_in at capacity 0 image) (slot_in at capacity 1 image) has
value_in at capacity (suc zero) image two has = meaning_of-second capacity (slot_in at capacity 0 image) (slot_in at capacity 1 image) has
value_in at capacity (suc (suc slot)) image two has = absurd (omega arith)

-- and back
pub value_found : (at capacity slot : ℕ) (image : List ℕ) (sequence : ℕ) (payload : List ℕ)
    → meaning at capacity image ≡ value slot sequence payload
    → (slot < 2) × Found capacity (slot_in at capacity slot image) (slot_in at capacity (1 - slot) image) sequence payload
unfolding meaning
value_found at capacity slot image sequence payload is =
    let P : ℕ → Type 0 = λ s. (s < 2) × Found capacity (slot_in at capacity s image) (slot_in at capacity (1 - s) image) sequence payload in
    elim (value_has capacity (slot_in at capacity 0 image) (slot_in at capacity 1 image) slot sequence payload is) as (λ _. P slot) [
      | inl (zero_is, found) ↦ subst P (sym zero_is) (omega arith, found)
      | inr (one_is, found) ↦ subst P (sym one_is) (omega arith, found)
    ]
