-- What the headers of two slots tell.
use Rattle.std.specs.Prelude.{◌≡◌, ◌≢◌, ℕ, ◌≤◌, ◌<◌, nat_le, Result, Ok, Err, if◌then◌else◌}
use Rattle.std.proofs.Common.{refl, sym, ◌∙◌, ap, arith, inl, inr}
use Rattle.std.proofs.lemmas.Bool.{cond_both, leb-true, leb-false}
use Rattle.std.proofs.lemmas.Bool.Decides.{nat_tests}
use Rattle.sz_cell.specs.Header.{slot_with, Judges}
use Rattle.sz_cell.specs.Meaning.{none, damaged, meaning_of}
use Rattle.sz_cell.specs.Slot.{Slot, open_gate}
use Rattle.sz_cell.specs.declared.fault.AttachFault.{AttachFault}
use Rattle.sz_cell.specs.declared.fault.AttachFault.TheVariants.{Damaged}
use Rattle.sz_cell.specs.declared.header.Header.{Header}
use Rattle.sz_cell.proofs.Values.{meaning_of-first, meaning_of-second}

module _ (capacity : ℕ) (first second : Slot) where
  pub neither : first.gate ≢ open_gate → second.gate ≢ open_gate → meaning_of capacity first second ≡ none
  unfolding meaning_of
  neither a b = grind (arith, nat_tests)

  pub first_long : first.gate ≡ open_gate → capacity < first.size → meaning_of capacity first second ≡ damaged 0 first.sequence first.size
  unfolding meaning_of
  first_long gate long = grind (arith, nat_tests)

  pub same_sequence : first.gate ≡ open_gate → second.gate ≡ open_gate → first.sequence ≡ second.sequence
      → meaning_of capacity first second ≡ damaged 0 first.sequence first.size
  unfolding meaning_of
  same_sequence a b same = grind (arith, nat_tests)

  pub second_long : (first.gate ≡ open_gate → (first.size ≤ capacity) × (first.sequence ≢ second.sequence)) → second.gate ≡ open_gate
      → capacity < second.size → meaning_of capacity first second ≡ damaged 1 second.sequence second.size
  unfolding meaning_of
  second_long whole gate long = grind (arith, nat_tests)

-- the answer at a slot that is open alone
abbrev pub alone : ℕ → Header → Result Header AttachFault
alone capacity header =
    if nat_le header.size capacity then Ok header else Err (Damaged header.slot header.sequence header.size)

module _ (capacity : ℕ) (first second : Header) where
  pub first_alone : first.slot ≡ 0 → first.gate ≡ open_gate → second.gate ≢ open_gate
      → Judges capacity first second (alone capacity first)
  first_alone slot gate closed = cond_both (nat_le first.size capacity) (Ok first) (Err (Damaged first.slot first.sequence first.size))
      (Judges capacity first second)
      (λ test p q. inl (
        refl,
        leb-true _ _ test,
        meaning_of-first capacity (slot_with first p) (slot_with second q)
            (record { gate = gate; fits = leb-true _ _ test; older = λ is. absurd (closed is) }),
      ))
      (λ test p q.
      first_long capacity (slot_with first p) (slot_with second q) gate (leb-false _ _ test)
      ∙ ap (λ s. damaged s first.sequence first.size) (sym slot))

  pub second_alone : second.slot ≡ 1 → first.gate ≢ open_gate → second.gate ≡ open_gate
      → Judges capacity first second (alone capacity second)
  second_alone slot closed gate = cond_both (nat_le second.size capacity) (Ok second) (Err (Damaged second.slot second.sequence second.size))
      (Judges capacity first second)
      (λ test p q. inr (
        refl,
        leb-true _ _ test,
        meaning_of-second capacity (slot_with first p) (slot_with second q)
            (record { gate = gate; fits = leb-true _ _ test; older = λ is. absurd (closed is) }),
      ))
      (λ test p q.
      second_long capacity (slot_with first p) (slot_with second q) (λ is. absurd (closed is)) gate (leb-false _ _ test)
      ∙ ap (λ s. damaged s second.sequence second.size) (sym slot))
