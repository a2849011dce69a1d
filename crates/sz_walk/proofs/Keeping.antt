-- What stays true of the progress of a walk.
use Rattle.std.proofs.Common.{◌≡◌, ℕ, suc, zero, ◌+◌, ◌*◌, ◌<◌, ◌≤◌, ◌==◌, not, Bool, true, false, cond, if◌then◌else◌, nat_lt, List, [], ◌∷◌, ◌++◌, length, map, count_by, refl, sym, ap, ◌∙◌, subst, arith}
use Rattle.std.proofs.lemmas.Bool.Decides.{nat_tests}
use Rattle.std.proofs.lemmas.List.Sums.{sum_by_push, sum_by-cons}
use Rattle.std.specs.List.{AllByRecursion}
use Rattle.sz_evidence.specs.declared.reason.Reason.{Reason}
use Rattle.sz_evidence.specs.declared.reason.Reason.TheVariants as reason
use Rattle.sz_source.specs.declared.source.Source.{Source}
use Rattle.sz_answer.specs.declared.answer.Answer.{Answer}
use Rattle.sz_answer.specs.declared.answer.Answer.TheVariants as answer
use Rattle.sz_walk.specs.Progress.{IsKept, Settles, TakesFront}
use Rattle.sz_walk.specs.Visits.{entry_at, first_entries, first_from, first_walked, most_depth, most_visits, next_entries, note_of, Spends, TurnsDown, visit_of, visits_of, Walked}
use Rattle.sz_walk.specs.Walk.{most_notes}
use Rattle.sz_walk.specs.declared.entry.Entry.{Entry}
use Rattle.sz_walk.specs.declared.visit.Note.TheVariants as note
use Rattle.sz_walk.specs.declared.visit.Visit.{Visit}
use Rattle.sz_walk.proofs.Lists.{all_append, all_filter, all_map, all_weaker}

-- ---- what is said of an entry

-- its source is one of so many
abbrev IsBelow : ℕ → Entry → Type 0
IsBelow count entry = entry.source < count

-- its source was visited at most as often as it may be
abbrev IsWithin : List Visit → Entry → Type 0
IsWithin visits entry = visits_of entry.source visits ≤ most_visits

-- ---- one visit more

one_push : (visits : List Visit) (visit : Visit) (number : ℕ)
    → visits_of number (visits ++ visit ∷ []) ≡ visits_of number visits + cond (visit.source == number) 1 0
one_push visits visit number = sum_by_push (λ (v : Visit). cond (v.source == number) 1 0) visits visit

by_own : (visits : List Visit) (visit : Visit) (number most : ℕ) (b : Bool) → (visit.source == number) ≡ b → visits_of visit.source visits < most
    → visits_of number visits ≤ most → visits_of number visits + cond b 1 0 ≤ most
by_own visits visit number most true same below within =
    let is : visit.source ≡ number = grind (arith, nat_tests) in
    let moved = subst (λ (n : ℕ). visits_of n visits < most) is below in
    omega arith
by_own visits visit number most false same below within = omega arith

-- a source stays within a number of visits that the visited one is below
push_within : (visits : List Visit) (visit : Visit) (number most : ℕ) → visits_of visit.source visits < most → visits_of number visits ≤ most
    → visits_of number (visits ++ visit ∷ []) ≤ most
push_within visits visit number most below within =
    subst (λ (n : ℕ). n ≤ most) (sym (one_push visits visit number)) (by_own visits visit number most (visit.source == number) refl below within)

other_of : (a b : ℕ) → not (a == b) ≡ true → (b == a) ≡ false
other_of a b other = grind (arith, nat_tests)

push_other : (visits : List Visit) (visit : Visit) (number most : ℕ) → not (number == visit.source) ≡ true → visits_of number visits ≤ most
    → visits_of number (visits ++ visit ∷ []) ≤ most
push_other visits visit number most other within =
    subst (λ (n : ℕ). n ≤ most) (sym (one_push visits visit number
    ∙ ap (λ (b : Bool). visits_of number visits + cond b 1 0) (other_of number visit.source other)))
    (omega arith)

-- ---- at first

first_numbers : (number : ℕ) (sources : List Source) (count : ℕ) → number + length sources ≤ count
    → AllByRecursion (λ entry. entry.source < count) (first_from number sources)
first_numbers number [] count within = tt
first_numbers number (from ∷ others) count within = (omega arith, first_numbers (number + 1) others count (omega arith))

pub kept_first : (sources : List Source) → IsKept (length sources) (first_walked sources)
kept_first sources =
    let numbers = first_numbers 0 sources (length sources) (omega arith) in
    record {
      entries = numbers;
      visits = tt;
      budgets = all_weaker (IsBelow (length sources)) (IsWithin []) (first_entries sources)
          (λ entry below. omega arith) numbers;
      few = λ number. omega arith;
    }

-- ---- a turn

pub kept_takes : (count : ℕ) (front : Entry) (before after : Walked) → TakesFront front before after → IsKept count before → IsKept count after
kept_takes count front before after takes kept =
    let left = subst (λ (es : List Entry). AllByRecursion (λ entry. entry.source < count) es) takes.entries kept.entries in
    let budgets = subst (λ (es : List Entry). AllByRecursion (IsWithin before.visits) es) takes.entries kept.budgets in
    record {
      entries = left.1;
      visits = subst (λ (vs : List Visit). AllByRecursion (λ visit. visit.source < count) vs) (sym takes.visits) kept.visits;
      budgets = subst (λ (vs : List Visit). AllByRecursion (λ entry. visits_of entry.source vs ≤ most_visits) after.entries) (sym takes.visits) budgets.1;
      few = subst (λ (vs : List Visit). (number : ℕ) → visits_of number vs ≤ most_notes) (sym takes.visits) kept.few;
    }

pub front_below : (count : ℕ) (front : Entry) (before after : Walked) → TakesFront front before after → IsKept count before → front.source < count
front_below count front before after takes kept =
    (subst (λ (es : List Entry). AllByRecursion (λ entry. entry.source < count) es) takes.entries kept.entries).0

-- ---- a visit

all_if : (P : Entry → Type 0) (b : Bool) (entries : List Entry) → AllByRecursion P entries → AllByRecursion P (if b then entries else [])
all_if P true entries all = all
all_if P false entries all = tt

-- what takes the front's place is of its source
all_next : (P : Entry → Type 0) (front : Entry) (given : Answer) → ((entry : Entry) → entry.source ≡ front.source → P entry)
    → AllByRecursion P (next_entries front given)
all_next P front (answer.Listed targets) each =
    all_map P (entry_at front.source 0) targets (λ target. each (entry_at front.source 0 target) refl)
all_next P front (answer.Redirected targets) each =
    all_if P (nat_lt front.depth most_depth) (map (entry_at front.source (front.depth + 1)) targets)
    (all_map P (entry_at front.source (front.depth + 1)) targets (λ target. each (entry_at front.source (front.depth + 1) target) refl))
all_next P front (answer.Offered onboarding evidence) each = tt
all_next P front (answer.Refused found) each = tt

pub kept_settles : (count : ℕ) (front : Entry) (given : Answer) (before after : Walked) → front.source < count
    → visits_of front.source before.visits < most_visits → Settles front given before after → IsKept count before → IsKept count after
kept_settles count front given before after numbered below settles kept =
    let visit = visit_of front (note_of front given) in
    let stays : (number most : ℕ) → most_visits ≤ most → visits_of number before.visits ≤ most → visits_of number after.visits ≤ most =
    λ number most over within. subst (λ (vs : List Visit). visits_of number vs ≤ most) (sym settles.visits)
    (push_within before.visits visit number most (omega arith) within) in
    record {
      entries = subst (λ (es : List Entry). AllByRecursion (λ entry. entry.source < count) es) (sym settles.entries)
          (all_append (IsBelow count) (next_entries front given) before.entries
          (all_next (λ entry. entry.source < count) front given (λ entry same. omega arith)) kept.entries);
      visits = subst (λ (vs : List Visit). AllByRecursion (λ visit. visit.source < count) vs) (sym settles.visits)
          (all_append (λ (visit : Visit). visit.source < count) before.visits (visit ∷ []) kept.visits (numbered, tt));
      budgets = subst (λ (es : List Entry). AllByRecursion (IsWithin after.visits) es) (sym settles.entries)
          (all_append (IsWithin after.visits) (next_entries front given) before.entries
          (all_next (λ entry. visits_of entry.source after.visits ≤ most_visits) front given
          (λ entry same. stays entry.source most_visits (omega arith)
          (subst (λ (n : ℕ). visits_of n before.visits ≤ most_visits) (sym same) (omega arith))))
          (all_weaker (IsWithin before.visits) (IsWithin after.visits)
          before.entries (λ entry within. stays entry.source most_visits (omega arith) within) kept.budgets));
      few = λ number. stays number most_notes (omega arith) (kept.few number);
    }

pub kept_spends : (count : ℕ) (before after : Walked) → Spends before after → IsKept count before → IsKept count after
kept_spends count before after spends kept =
    let visit = visit_of spends.front (note.Refused reason.BudgetSpent) in
    let numbers = subst (λ (es : List Entry). AllByRecursion (λ entry. entry.source < count) es) spends.entries kept.entries in
    let budgets = subst (λ (es : List Entry). AllByRecursion (IsWithin before.visits) es) spends.entries kept.budgets in
    let test : Entry → Bool = λ entry. not (entry.source == spends.front.source) in
    record {
      entries = subst (λ (es : List Entry). AllByRecursion (λ entry. entry.source < count) es) (sym spends.entries_after)
          (all_filter (IsBelow count) (IsBelow count) test spends.rest (λ entry other below. below) numbers.1);
      visits = subst (λ (vs : List Visit). AllByRecursion (λ visit. visit.source < count) vs) (sym spends.visits_after)
          (all_append (λ (visit : Visit). visit.source < count) before.visits (visit ∷ []) kept.visits (numbers.0, tt));
      budgets = subst (λ (es : List Entry). AllByRecursion (IsWithin after.visits) es) (sym spends.entries_after)
          (all_filter (IsWithin before.visits) (IsWithin after.visits)
          test spends.rest
          (λ entry other within. subst (λ (vs : List Visit). visits_of entry.source vs ≤ most_visits) (sym spends.visits_after)
          (push_other before.visits visit entry.source most_visits other within)) budgets.1);
      few = λ number. subst (λ (vs : List Visit). visits_of number vs ≤ most_notes) (sym spends.visits_after)
          (push_within before.visits visit number most_notes (let within = budgets.0 in omega arith) (kept.few number));
    }

-- ---- an offer that is turned down

all_last : (P : Visit → Type 0) (visits : List Visit) (a b : Visit) → (P a → P b) → AllByRecursion P (visits ++ a ∷ []) → AllByRecursion P (visits ++ b ∷ [])
all_last P [] a b gives all = (gives all.0, tt)
all_last P (visit ∷ visits) a b gives all = (all.0, all_last P visits a b gives all.1)

pub kept_turned_down : (count : ℕ) (found : Reason) (before after : Walked) → TurnsDown found before after → IsKept count before → IsKept count after
kept_turned_down count found before after turned kept =
    let refused = record turned.offer { note = note.Refused found } in
    let same : (number : ℕ) → visits_of number after.visits ≡ visits_of number before.visits =
    λ number. ap (λ (vs : List Visit). visits_of number vs) turned.visits_after ∙ one_push turned.earlier refused number
    ∙ sym (one_push turned.earlier turned.offer number) ∙ sym (ap (λ (vs : List Visit). visits_of number vs) turned.visits) in
    record {
      entries = subst (λ (es : List Entry). AllByRecursion (λ entry. entry.source < count) es) (sym turned.entries_after) kept.entries;
      visits = subst (λ (vs : List Visit). AllByRecursion (λ visit. visit.source < count) vs) (sym turned.visits_after)
          (all_last (λ visit. visit.source < count) turned.earlier turned.offer refused (λ below. below)
          (subst (λ (vs : List Visit). AllByRecursion (λ visit. visit.source < count) vs) turned.visits kept.visits));
      budgets = all_weaker (IsWithin before.visits) (IsWithin after.visits) after.entries
          (λ entry within. subst (λ (n : ℕ). n ≤ most_visits) (sym (same entry.source)) within)
          (subst (λ (es : List Entry). AllByRecursion (IsWithin before.visits) es) (sym turned.entries_after) kept.budgets);
      few = λ number. subst (λ (n : ℕ). n ≤ most_notes) (sym (same number)) (kept.few number);
    }

-- ---- how many visits there are

-- of the sources below this number
below : ℕ → List Visit → ℕ
below number visits = count_by (λ visit. nat_lt visit.source number) visits

below_none : (visits : List Visit) → below 0 visits ≡ 0
unfolding below
below_none [] = refl
below_none (visit ∷ visits) = grind (arith, nat_tests, sum_by-cons (λ (v : Visit). cond (nat_lt v.source 0) 1 0) visit visits, below_none visits)

one_below : (a number : ℕ) → cond (nat_lt a (suc number)) 1 0 ≡ cond (nat_lt a number) 1 0 + cond (a == number) 1 0
one_below a number = grind (arith, nat_tests)

below_suc : (number : ℕ) (visits : List Visit) → below (suc number) visits ≡ below number visits + visits_of number visits
unfolding below
below_suc number [] = refl
below_suc number (visit ∷ visits) =
    let more = below_suc number visits in
    let one = one_below visit.source number in
    omega (
      arith,
      sum_by-cons (λ (v : Visit). cond (nat_lt v.source (suc number)) 1 0) visit visits,
      sum_by-cons (λ (v : Visit). cond (nat_lt v.source number) 1 0) visit visits,
      sum_by-cons (λ (v : Visit). cond (v.source == number) 1 0) visit visits,
    )

below_all : (count : ℕ) (visits : List Visit) → AllByRecursion (λ visit. visit.source < count) visits → below count visits ≡ length visits
unfolding below
below_all count [] all = refl
below_all count (visit ∷ visits) all =
    let first = all.0 in
    let more = below_all count visits all.1 in
    grind (arith, nat_tests, sum_by-cons (λ (v : Visit). cond (nat_lt v.source count) 1 0) visit visits)

below_most : (number : ℕ) (visits : List Visit) → ((of : ℕ) → visits_of of visits ≤ most_notes) → below number visits ≤ most_notes * number
below_most zero visits few = omega (arith, below_none visits)
below_most (suc number) visits few = omega (arith, below_suc number visits, few number, below_most number visits few)

pub within : (count : ℕ) (walked : Walked) → IsKept count walked → length walked.visits ≤ most_notes * count
within count walked kept = omega (arith, below_all count walked.visits kept.visits, below_most count walked.visits kept.few)
