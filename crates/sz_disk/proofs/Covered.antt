-- Which places events cover, one event more.
use Rattle.std.proofs.Common.{◌≡◌, ℕ, ◌-◌, ◌<◌, ◌≤◌, Bool, true, false, ◌||◌, cond, List, [], ◌∷◌, ◌++◌, length, take, get_or, refl, sym, ap, subst, ◌∙◌, Option, Some, None, MatchOption, arith}
use Rattle.std.proofs.lemmas.List.{take_all}
use Rattle.sz_disk.specs.Event.{covers, is_covered, written_over}
use Rattle.sz_disk.specs.Choice.{IsFirst, IsFirstFound}
use Rattle.sz_disk.specs.declared.event.Event.{Event}
use Rattle.sz_disk.specs.declared.event.Event.TheVariants.{Wrote, Synced}

pub or-false : (a b : Bool) → (a || b) ≡ false → (a ≡ false) × (b ≡ false)
or-false true b h = (h, absurd (cc))
or-false false b h = (refl, h)

or-nil : (a : Bool) → (a || false) ≡ a
or-nil true = refl
or-nil false = refl

or_assoc : (a b c : Bool) → ((a || b) || c) ≡ (a || (b || c))
or_assoc true b c = refl
or_assoc false b c = refl

-- a place is covered by one event more exactly where it was covered, or that event covers it
pub covered-push : (events : List Event) (event : Event) (k : ℕ) → is_covered (events ++ event ∷ []) k ≡ (is_covered events k || covers k event)
covered-push [] event k = or-nil (covers k event)
covered-push (e ∷ es) event k =
    ap (λ b. covers k e || b) (covered-push es event k) ∙ sym (or_assoc (covers k e) (is_covered es k) (covers k event))

-- neither the events nor one more cover a place
pub covered-none : (events : List Event) (event : Event) (k : ℕ) → is_covered events k ≡ false → covers k event ≡ false
    → is_covered (events ++ event ∷ []) k ≡ false
covered-none events event k a b = covered-push events event k ∙ ap (λ x. x || covers k event) a ∙ b

-- and the other way round
pub covered-neither : (events : List Event) (event : Event) (k : ℕ) → is_covered (events ++ event ∷ []) k ≡ false
    → (is_covered events k ≡ false) × (covers k event ≡ false)
covered-neither events event k h = or-false (is_covered events k) (covers k event) (sym (covered-push events event k) ∙ h)

-- the event covers it alone
covers-one : (event : Event) (k : ℕ) → is_covered (event ∷ []) k ≡ covers k event
covers-one event k = or-nil (covers k event)

-- the events before cover it
pub covered-before : (events : List Event) (event : Event) (k : ℕ) → is_covered events k ≡ true → is_covered (events ++ event ∷ []) k ≡ true
covered-before events event k h = covered-push events event k ∙ ap (λ x. x || covers k event) h

-- the last event covers it
pub covered-last : (events : List Event) (event : Event) (k : ℕ) → is_covered events k ≡ false → covers k event ≡ true
    → is_covered (events ++ event ∷ []) k ≡ true
covered-last events event k a b = covered-push events event k ∙ ap (λ x. x || covers k event) a ∙ b

over-cond : (b : Bool) (e : Event) (es : List Event) (event : Event) (k : ℕ) → covers k e ≡ b
    → (is_covered es k ≡ true → written_over (es ++ event ∷ []) k ≡ written_over es k) → (b || is_covered es k) ≡ true
    → written_over (e ∷ es ++ event ∷ []) k ≡ written_over (e ∷ es) k
over-cond b (Wrote at old) es event k e more h =
    elim b as (λ b. covers k (Wrote at old) ≡ b → (b || is_covered es k) ≡ true
    → written_over (Wrote at old ∷ es ++ event ∷ []) k ≡ written_over (Wrote at old ∷ es) k) [
      | true ↦ λ e h. ap (λ t. cond t (get_or old (k - at) 0) (written_over (es ++ event ∷ []) k)) e
          ∙ sym (ap (λ t. cond t (get_or old (k - at) 0) (written_over es k)) e)
      | false ↦ λ e h. ap (λ t. cond t (get_or old (k - at) 0) (written_over (es ++ event ∷ []) k)) e ∙ more h
          ∙ sym (ap (λ t. cond t (get_or old (k - at) 0) (written_over es k)) e)
    ] e h
over-cond b Synced es event k e more h = more (ap (λ t. t || is_covered es k) e ∙ h)

-- the byte under the first of the writes does not change by one write more
pub over-before : (events : List Event) (event : Event) (k : ℕ) → is_covered events k ≡ true → written_over (events ++ event ∷ []) k ≡ written_over events k
over-before [] event k h = absurd (cc)
over-before (e ∷ es) event k h = over-cond (covers k e) e es event k refl (over-before es event k) h

over-none : (e : Event) (es : List Event) (k : ℕ) → covers k e ≡ false → written_over (e ∷ es) k ≡ written_over es k
over-none (Wrote at old) es k h = ap (λ t. cond t (get_or old (k - at) 0) (written_over es k)) h
over-none Synced es k h = refl

-- the byte under a write of a place that no earlier one covers
pub over-last : (events : List Event) (event : Event) (k : ℕ) → is_covered events k ≡ false
    → written_over (events ++ event ∷ []) k ≡ written_over (event ∷ []) k
over-last [] event k h = refl
over-last (e ∷ es) event k h =
    let both = or-false (covers k e) (is_covered es k) h in
    over-none e (es ++ event ∷ []) k both.0 ∙ over-last es event k both.1

-- What a search of the events so far has found: the first place that they cover, which is also where the
-- search of the next event ends.
pub record FoundSoFar (events : List Event) (from end first : ℕ) (found : Option (ℕ × ℕ)) : Type 0 where
  pub none_before : (k : ℕ) → from ≤ k → k < first → is_covered events k ≡ false
  pub last : MatchOption found (first ≡ end) (λ f. (f.0 ≡ first) × IsFirst events from end f)

-- one event more, in which nothing nearer was found
pub found-same : (events : List Event) (event : Event) (from end first : ℕ) (found : Option (ℕ × ℕ)) → FoundSoFar events from end first found
    → ((k : ℕ) → from ≤ k → k < first → is_covered (event ∷ []) k ≡ false) → FoundSoFar (events ++ event ∷ []) from end first found
found-same events event from end first found so none =
    let more : (k : ℕ) → from ≤ k → k < first → is_covered (events ++ event ∷ []) k ≡ false =
    λ k a b. covered-none events event k (so.none_before k a b) (sym (covers-one event k) ∙ none k a b) in
    record {
      none_before = more;
      last = elim found as
          (λ o. MatchOption o (first ≡ end) (λ f. (f.0 ≡ first) × IsFirst events from end f)
          → MatchOption o (first ≡ end) (λ f. (f.0 ≡ first) × IsFirst (events ++ event ∷ []) from end f)) [
            | None ↦ λ h. h
            | Some f ↦ λ h. (
              h.0,
              record {
                after = h.1.after;
                within = h.1.within;
                covered = covered-before events event f.0 h.1.covered;
                none_before = λ k a b. more k a (omega (arith, h.0));
                old = h.1.old ∙ sym (over-before events event f.0 h.1.covered);
              },
            )
          ] so.last;
    }

-- one event more, in which a nearer place was found
pub found-nearer : (events : List Event) (event : Event) (from end first : ℕ) (found : Option (ℕ × ℕ)) (near : ℕ × ℕ) → first ≤ end
    → FoundSoFar events from end first found → IsFirst (event ∷ []) from first near → FoundSoFar (events ++ event ∷ []) from end near.0 (Some near)
found-nearer events event from end first found near le so is =
    let more : (k : ℕ) → from ≤ k → k < near.0 → is_covered (events ++ event ∷ []) k ≡ false =
    λ k a b. covered-none events event k (so.none_before k a (omega (arith, is.within))) (sym (covers-one event k) ∙ is.none_before k a b) in
    let free : is_covered events near.0 ≡ false = so.none_before near.0 is.after is.within in
    record {
      none_before = more;
      last = (
        refl,
        record {
          after = is.after;
          within = omega (arith, is.within);
          covered = covered-last events event near.0 free (sym (covers-one event near.0) ∙ is.covered);
          none_before = more;
          old = is.old ∙ sym (over-last events event near.0 free);
        },
      );
    }

-- nothing was found
pub none-found : (events : List Event) (from end : ℕ) (found : Option (ℕ × ℕ)) → IsFirstFound events from end found → ((f : ℕ × ℕ) → found ≡ Some f → ⊥)
    → (k : ℕ) → from ≤ k → k < end → is_covered events k ≡ false
none-found events from end found is none =
    elim found as (λ o. IsFirstFound events from end o → ((f : ℕ × ℕ) → o ≡ Some f → ⊥) → (k : ℕ) → from ≤ k → k < end → is_covered events k ≡ false) [
      | None ↦ λ is none. is
      | Some f ↦ λ is none. absurd (none f refl)
    ] is none

-- all events were searched
pub found-all : (events : List Event) (n from end first : ℕ) (found : Option (ℕ × ℕ)) → length events ≤ n → FoundSoFar (take n events) from end first found
    → IsFirstFound events from end found
found-all events n from end first found past so =
    let P : List Event → Type 0 = λ s. FoundSoFar s from end first found in
    let all = subst P (take_all n events past) so in
    elim found as (λ o. MatchOption o (first ≡ end) (λ f. (f.0 ≡ first) × IsFirst events from end f) → IsFirstFound events from end o) [
      | None ↦ λ e k a b. all.none_before k a (omega arith)
      | Some f ↦ λ is. is.1
    ] all.last
