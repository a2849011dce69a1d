-- Which calls of a disk in memory fail.
use Rattle.std.specs.Prelude.{◌≡◌, ◌⊎◌, ℕ, ◌<◌, ◌≤◌, List, Some, Contains}
use Rattle.std.specs.Option.{option_map_or}
use Rattle.sz_spec.specs.Cause.{risen}
use Rattle.sz_disk.specs.declared.plan.Plan.{Plan}
use Rattle.sz_disk.specs.declared.plan.Cut.{Cut}
use Rattle.sz_disk.specs.declared.plan.Fate.{Fate}
use Rattle.sz_disk.specs.declared.plan.Fate.TheVariants.{Runs, AtCut, Refused}

-- the number of the next call
abbrev pub next_call : Plan → ℕ
next_call plan = risen plan.calls 1

-- the plan after that call
abbrev pub counted : Plan → Plan
counted plan = record plan { calls = next_call plan }

-- the cut fell at an earlier call
abbrev pub WasCut : Plan → Type 0
WasCut plan = (cut : Cut) × (plan.cut ≡ Some cut) × (cut.call ≤ plan.calls)

-- the cut falls at the next call
abbrev pub FallsNext : Plan → Type 0
FallsNext plan = (cut : Cut) × (plan.cut ≡ Some cut) × (cut.call ≡ next_call plan) × (plan.calls < cut.call)

-- the next call is one of those that are named
abbrev pub IsNamed : Plan → Type 0
IsNamed plan = Contains plan.failing (next_call plan)

-- What becomes of the next call: it is refused where it is named or comes after the cut, and the cut itself
-- goes before a name.
abbrev pub HasFate : Plan → Fate → Type 0
HasFate plan Runs = ¬ WasCut plan × ¬ FallsNext plan × ¬ IsNamed plan
HasFate plan AtCut = FallsNext plan
HasFate plan Refused = WasCut plan ⊎ (IsNamed plan × ¬ FallsNext plan)

-- the choice of the cut, or 0 where none is named
abbrev pub choice_of : Plan → ℕ
choice_of plan = option_map_or (λ cut. cut.choice) plan.cut 0

-- other calls are named
abbrev pub with_failing : Plan → List ℕ → Plan
with_failing plan calls = record plan { failing = calls }

-- another cut is named
abbrev pub with_cut : Plan → Cut → Plan
with_cut plan cut = record plan { cut = Some cut }

-- another cut is named, unless one fell: that one stays
pub record NamesCut (cut : Cut) (old new : Plan) : Type 0 where
  pub fell : WasCut old → new ≡ old
  pub named : ¬ WasCut old → new ≡ with_cut old cut
