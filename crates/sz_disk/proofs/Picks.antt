-- The byte that a choice picks.
use Rattle.std.proofs.Common.{◌≡◌, ◌≢◌, ◌⊎◌, ℕ, zero, suc, ◌+◌, ◌-◌, ◌*◌, ◌%◌, ◌<◌, ◌≤◌, Bool, true, false, cond, List, length, set, get_or, add-zero, add-suc, add-one, arith, sym, ap, ◌∙◌, inl, inr, ⊎_elim}
use Rattle.std.proofs.lemmas.Bool.{cases_lt, false≢true}
use Rattle.std.proofs.lemmas.List.{length-set, get_or-set_same, get_or-set_other, get_or_default}
use Rattle.std.proofs.lemmas.Nat.{mul-mod}
use Rattle.std.proofs.Math.Nat.{mod-add-mod, add-mod-mod}
use Rattle.std.proofs.lemmas.Bool.Decides.{nat_tests}
use Rattle.sz_disk.specs.Event.{is_covered, undone, written_over}
use Rattle.sz_disk.specs.Laws.{length-undone}
use Rattle.sz_disk.specs.Medium.{EachFits}
use Rattle.sz_disk.proofs.Undone.{get_or-undone}
use Rattle.sz_disk.specs.Choice.{rank, picked_byte, IsFirst, IsPicked}
use Rattle.sz_disk.specs.declared.event.Event.{Event}

-- the turn, of numbers that are small enough
pub turn-small : (choice rank : ℕ) → (choice % 3 * ((rank % 3 + 1) % 3)) % 3 ≡ choice * (rank + 1) % 3
turn-small choice rank =
    ap (λ (k : ℕ). (choice % 3 * k) % 3) (mod-add-mod rank 3 1) ∙ sym (mul-mod choice (rank + 1) 3)

-- the third byte, likewise
pub other-small : (choice rank : ℕ) → (choice % 256 + rank % 256) % 256 ≡ (choice + rank) % 256
other-small choice rank = mod-add-mod choice 256 (rank % 256) ∙ add-mod-mod choice rank 256

pub picked-old : (choice rank old new : ℕ) → choice ≢ 0 → choice ≢ 1 → choice * (rank + 1) % 3 ≡ 0 → old ≡ picked_byte choice rank old new
picked-old choice rank old new a b turn = grind (arith, nat_tests)

pub picked-new : (choice rank old new : ℕ) → choice ≢ 0 → choice ≢ 1 → choice * (rank + 1) % 3 ≡ 1 → new ≡ picked_byte choice rank old new
picked-new choice rank old new a b turn = grind (arith, nat_tests)

pub picked-other : (choice rank old new : ℕ) → choice ≢ 0 → choice ≢ 1 → choice * (rank + 1) % 3 ≢ 0 → choice * (rank + 1) % 3 ≢ 1
    → (choice + rank) % 256 ≡ picked_byte choice rank old new
picked-other choice rank old new a b c d = grind (arith, nat_tests)

-- no more places are covered than there are
rank-cond : (b : Bool) (n k : ℕ) → n ≤ k → cond b (n + 1) n ≤ suc k
rank-cond true n k le = omega arith
rank-cond false n k le = omega arith

pub rank-le : (events : List Event) (k : ℕ) → rank events k ≤ k
rank-le events zero = omega arith
rank-le events (suc k) = rank-cond (is_covered events k) (rank events k) k (rank-le events k)

-- past places that are not covered
rank-past : (events : List Event) (from n : ℕ) → ((k : ℕ) → from ≤ k → k < from + n → is_covered events k ≡ false) → rank events (from + n) ≡ rank events from
rank-past events from zero none = ap (rank events) (add-zero from)
rank-past events from (suc n) none =
    ap (rank events) (add-suc from n)
    ∙ ap (λ b. cond b (rank events (from + n) + 1) (rank events (from + n))) (none (from + n) (omega arith) (omega arith))
    ∙ rank-past events from n (λ k a b. none k a (omega arith))

-- past the first that is
rank-next : (events : List Event) (from place : ℕ) → from ≤ place → ((k : ℕ) → from ≤ k → k < place → is_covered events k ≡ false)
    → is_covered events place ≡ true → rank events (place + 1) ≡ rank events from + 1
rank-next events from place le none covered =
    let e : from + (place - from) ≡ place = omega arith in
    ap (rank events) (add-one place)
    ∙ ap (λ b. cond b (rank events place + 1) (rank events place)) covered
    ∙ ap (λ (k : ℕ). rank events k + 1) (sym e)
    ∙ ap (λ (n : ℕ). n + 1) (rank-past events from (place - from) (λ k a b. none k a (omega arith)))

-- The bytes below a place are picked, and the others are as they were.
pub record PickedSoFar (choice : ℕ) (events : List Event) (from count : ℕ) (start bytes : List ℕ) : Type 0 where
  pub within : from ≤ length bytes
  pub size : length bytes ≡ length start
  pub counted : count ≡ rank events from
  pub kept : (k : ℕ) → is_covered events k ≡ false → get_or bytes k 0 ≡ get_or start k 0
  pub taken : (k : ℕ) → k < from → is_covered events k ≡ true → get_or bytes k 0 ≡ picked_byte choice (rank events k) (written_over events k) (get_or start k 0)
  pub rest : (k : ℕ) → from ≤ k → get_or bytes k 0 ≡ get_or start k 0

ranked-here : (events : List Event) (from place count : ℕ) → from ≤ place → ((k : ℕ) → from ≤ k → k < place → is_covered events k ≡ false)
    → count ≡ rank events from → rank events place ≡ count
ranked-here events from place count le none e =
    let same : from + (place - from) ≡ place = omega arith in
    ap (rank events) (sym same) ∙ rank-past events from (place - from) (λ k a b. none k a (omega arith)) ∙ sym e

below_or : (k place : ℕ) → k ≤ place → (k < place) ⊎ (k ≡ place)
below_or k place le = ⊎_elim (λ lt. inl lt) (λ ge. inr (omega arith)) (cases_lt k place)

taken-below : (choice : ℕ) (events : List Event) (from count : ℕ) (start bytes : List ℕ) → PickedSoFar choice events from count start bytes → (place : ℕ)
    → ((k : ℕ) → from ≤ k → k < place → is_covered events k ≡ false) → (k : ℕ) → k < place → is_covered events k ≡ true
    → get_or bytes k 0 ≡ picked_byte choice (rank events k) (written_over events k) (get_or start k 0)
taken-below choice events from count start bytes so place none k lt h =
    ⊎_elim (λ below. so.taken k below h) (λ past. absurd (false≢true (sym (none k past lt) ∙ h))) (cases_lt k from)

-- the next covered place is picked, too
pub picked-step : (choice : ℕ) (events : List Event) (from count : ℕ) (start bytes : List ℕ) (found : ℕ × ℕ) (byte : ℕ)
    → PickedSoFar choice events from count start bytes → IsFirst events from (length bytes) found
    → byte ≡ picked_byte choice count found.1 (get_or bytes found.0 0) → PickedSoFar choice events (found.0 + 1) (count + 1) start (set bytes found.0 byte)
picked-step choice events from count start bytes found byte so is e =
    let place : ℕ = found.0 in
    let le : from ≤ place = is.after in
    let lt : place < length bytes = is.within in
    let same : rank events place ≡ count = ranked-here events from place count le is.none_before so.counted in
    record {
      within = omega (arith, length-set bytes place byte);
      size = length-set bytes place byte ∙ so.size;
      counted = ap (λ (n : ℕ). n + 1) so.counted ∙ sym (rank-next events from place le is.none_before is.covered);
      kept = λ k h. get_or-set_other bytes place k byte 0 (λ eq. false≢true (sym h ∙ ap (is_covered events) eq ∙ is.covered)) ∙ so.kept k h;
      taken = λ k less h. ⊎_elim
          (λ below. get_or-set_other bytes place k byte 0 (λ eq. absurd (omega arith))
          ∙ taken-below choice events from count start bytes so place is.none_before k below h)
          (λ eq. ap (λ (i : ℕ). get_or (set bytes place byte) i 0) eq ∙ get_or-set_same bytes place byte 0 lt ∙ e
          ∙ ap (λ (n : ℕ). picked_byte choice n found.1 (get_or bytes place 0)) (sym same)
          ∙ ap (λ (o : ℕ). picked_byte choice (rank events place) o (get_or bytes place 0)) is.old
          ∙ ap (λ (o : ℕ). picked_byte choice (rank events place) (written_over events place) o) (so.rest place le)
          ∙ ap (λ (i : ℕ). picked_byte choice (rank events i) (written_over events i) (get_or start i 0)) (sym eq))
          (below_or k place (omega arith));
      rest = λ k h. get_or-set_other bytes place k byte 0 (λ eq. absurd (omega arith)) ∙ so.rest k (omega arith);
    }

-- a place that is not covered is passed
pub picked-skip : (choice : ℕ) (events : List Event) (from count : ℕ) (start bytes : List ℕ) → PickedSoFar choice events from count start bytes
    → from < length bytes → is_covered events from ≡ false → PickedSoFar choice events (from + 1) count start bytes
picked-skip choice events from count start bytes so lt free = record {
  within = omega (arith, lt);
  size = so.size;
  counted = so.counted ∙ sym (rank-past events from 1 (λ k a b. let e : k ≡ from = omega (arith, a, b) in ap (is_covered events) e ∙ free));
  kept = so.kept;
  taken = λ k less h. ⊎_elim (λ below. so.taken k below h) (λ e. absurd (false≢true (sym free ∙ sym (ap (is_covered events) e) ∙ h)))
      (below_or k from (omega (arith, less)));
  rest = λ k h. so.rest k (omega (arith, h));
}

-- a place that is covered is picked, over the bytes of the last sync
pub picked-here : (choice : ℕ) (events : List Event) (from count : ℕ) (start bytes old : List ℕ) (was byte : ℕ) → EachFits (length start) events
    → PickedSoFar choice events from count start bytes → from < length start → is_covered events from ≡ true → old ≡ undone events start
    → was ≡ get_or old from was → byte ≡ picked_byte choice count was (get_or bytes from 0)
    → PickedSoFar choice events (from + 1) (count + 1) start (set bytes from byte)
picked-here choice events from count start bytes old was byte fits so lt covered is read e =
    let long : from < length old = omega (arith, lt, ap length is, length-undone events start fits) in
    picked-step choice events from count start bytes (from, was) byte so (record {
      after = omega arith;
      within = omega (arith, lt, so.size);
      covered = covered;
      none_before = λ k a b. absurd (omega (arith, a, b));
      old = read ∙ get_or_default old from was 0 long ∙ ap (λ (s : List ℕ). get_or s from 0) is ∙ get_or-undone events start fits from covered;
    }) e

-- no covered place is left
pub picked-all : (choice : ℕ) (events : List Event) (from count : ℕ) (start bytes : List ℕ) → PickedSoFar choice events from count start bytes
    → ((k : ℕ) → from ≤ k → k < length bytes → is_covered events k ≡ false) → IsPicked choice events (written_over events) start bytes
picked-all choice events from count start bytes so none = record {
  size = so.size;
  kept = so.kept;
  taken = λ k lt h. ⊎_elim (λ below. so.taken k below h) (λ past. absurd (false≢true (sym (none k past (omega (arith, so.size))) ∙ h))) (cases_lt k from);
}
