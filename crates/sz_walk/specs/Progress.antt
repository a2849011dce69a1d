-- The progress of a walk as the code keeps it: what is left to visit with the next one last, and the visits.
use Rattle.std.specs.Prelude.{◌≡◌, ℕ, ◌<◌, ◌≤◌, List, [], ◌∷◌, ◌++◌, map, reverse, vec_len, Result, Ok, Err}
use Rattle.std.specs.List.{AllByRecursion}
use Rattle.std.specs.Vec.{vec_capacity}
use Rattle.sz_base.specs.declared.fault.OutOfMemory.{OutOfMemory}
use Rattle.sz_base.specs.declared.target.Target.{Target}
use Rattle.sz_answer.specs.declared.answer.Answer.{Answer}
use Rattle.sz_answer.specs.declared.answer.Answer.TheVariants as answer
use Rattle.sz_walk.specs.Visits.{entry_at, most_visits, next_entries, note_of, Spends, visit_of, visits_of, Walked}
use Rattle.sz_walk.specs.Walk.{most_notes}
use Rattle.sz_walk.specs.declared.entry.Entry.{Entry}
use Rattle.sz_walk.specs.declared.progress.Progress.{Progress}
use Rattle.sz_walk.specs.declared.progress.Turn.{Turn}
use Rattle.sz_walk.specs.declared.progress.Turn.TheVariants as turn
use Rattle.sz_walk.specs.declared.visit.Note.{Note}
use Rattle.sz_walk.specs.declared.step.Step.{Step}
use Rattle.sz_walk.specs.declared.step.Step.TheVariants as step

abbrev pub walked_of : Progress → Walked
walked_of progress = record { entries = reverse progress.left.items; visits = progress.visits.items }

-- ---- what stays true

-- For so many sources: each entry and each visit is of one of them; a source that is left was visited at most 32 times,
-- and any source has at most one note more.
pub record IsKept (count : ℕ) (walked : Walked) : Type 0 where
  pub entries : AllByRecursion (λ entry. entry.source < count) walked.entries
  pub visits : AllByRecursion (λ visit. visit.source < count) walked.visits
  pub budgets : AllByRecursion (λ entry. visits_of entry.source walked.visits ≤ most_visits) walked.entries
  pub few : (number : ℕ) → visits_of number walked.visits ≤ most_notes

-- ---- a turn

-- there is room for one more visit
abbrev pub HasRoom : Progress → Type 0
HasRoom progress = vec_len progress.visits < vec_capacity progress.visits

-- the front was taken off
pub record TakesFront (front : Entry) (before after : Walked) : Type 0 where
  pub entries : before.entries ≡ front ∷ after.entries
  pub visits : after.visits ≡ before.visits

-- whose turn it is
abbrev pub IsTurn : Turn → Progress → Progress → Type 0
IsTurn (turn.Visit front) before after =
    TakesFront front (walked_of before) (walked_of after)
    × (visits_of front.source before.visits.items < most_visits) × HasRoom after
IsTurn turn.Spent before after = Spends (walked_of before) (walked_of after)
IsTurn turn.Over before after = ((walked_of before).entries ≡ []) × (walked_of after ≡ walked_of before)
IsTurn turn.OutOfMemory before after = (front : Entry) × TakesFront front (walked_of before) (walked_of after)

-- ---- what a visit came to

-- what the front came to was noted, and took its place
pub record Settles (front : Entry) (given : Answer) (before after : Walked) : Type 0 where
  pub entries : after.entries ≡ next_entries front given ++ before.entries
  pub visits : after.visits ≡ before.visits ++ visit_of front (note_of front given) ∷ []

-- the step that an answer gives
abbrev pub step_of : Answer → Step
step_of (answer.Offered onboarding evidence) = step.Offer onboarding evidence
step_of _ = step.Passed

-- the answer names targets
abbrev pub Leads : Answer → Type 0
Leads (answer.Listed targets) = Unit {0}
Leads (answer.Redirected targets) = Unit {0}
Leads _ = ⊥

-- the step is that of the answer, but where memory ran out for the targets
abbrev pub Follows : Entry → Answer → Step → Walked → Walked → Type 0
Follows front given step.OutOfMemory before after = (after ≡ before) × Leads given
Follows front given taken before after = (taken ≡ step_of given) × Settles front given before after

-- the same of a visit for which memory may have run out
abbrev pub IsSettled : Entry → Result Answer OutOfMemory → Step → Walked → Walked → Type 0
IsSettled front (Ok given) taken before after = Follows front given taken before after
IsSettled front (Err fault) taken before after = (taken ≡ step.OutOfMemory) × (after ≡ before)

-- these targets took the front's place, and this was noted of it
abbrev pub LeadsOn : Entry → ℕ → Note → List Target → Step → Walked → Walked → Type 0
LeadsOn front depth noted targets step.OutOfMemory before after = after ≡ before
LeadsOn front depth noted targets taken before after =
    (taken ≡ step.Passed) × (after.entries ≡ map (entry_at front.source depth) targets ++ before.entries)
    × (after.visits ≡ before.visits ++ visit_of front noted ∷ [])
