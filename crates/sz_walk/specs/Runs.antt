-- Runs of a walk: acts at the front of the list, the exchanges that they own, and the visits of a whole walk.
use Rattle.std.specs.Prelude.{◌≡◌, ◌⊎◌, ℕ, ◌+◌, Bool, true, false, if◌then◌else◌, List, [], ◌∷◌, ◌++◌, Option, Some, None}
use Rattle.sz_base.specs.declared.evidence.Evidence.{Evidence}
use Rattle.sz_artifacts.specs.declared.conveyed.onboarding.Onboarding.{Onboarding}
use Rattle.sz_evidence.specs.declared.reason.Reason.{Reason}
use Rattle.sz_io.specs.Added.{Adds}
use Rattle.sz_io.specs.Net.{Traffic}
use Rattle.sz_io.specs.declared.exchange.Exchange.{Exchange}
use Rattle.sz_source.specs.declared.source.Source.{Source}
use Rattle.sz_answer.specs.Visit.{IsNoOffer, Search}
use Rattle.sz_answer.specs.declared.answer.Answer.{Answer}
use Rattle.sz_answer.specs.declared.answer.Answer.TheVariants as answer
use Rattle.sz_walk.specs.Visits.{first_walked, HasOffer, Makes, Spends, TurnsDown, Walked, was_lost_file}
use Rattle.sz_walk.specs.declared.visit.Visit.{Visit}

-- ---- acts

-- what a device makes of an offer: it owns these exchanges of downloads, and turns the offer down for a reason or takes
-- it
abbrev pub Trial : Type 1
Trial = Onboarding → Evidence → List Exchange → Option Reason → Type 0

-- what is done at the front of the list
pub data Act : Type 0 where
  passes : List Exchange → Answer → Act
  spends : Act
  turns_down : List Exchange → List Exchange → Onboarding → Evidence → Reason → Act
  accepts : List Exchange → List Exchange → Onboarding → Evidence → Act

-- the exchanges of the visit
abbrev pub visit_owned : Act → List Exchange
visit_owned (passes own given) = own
visit_owned spends = []
visit_owned (turns_down own downloads onboarding evidence found) = own
visit_owned (accepts own downloads onboarding evidence) = own

-- the exchanges of the downloads, which follow
abbrev pub downloads_owned : Act → List Exchange
downloads_owned (passes own given) = []
downloads_owned spends = []
downloads_owned (turns_down own downloads onboarding evidence found) = downloads
downloads_owned (accepts own downloads onboarding evidence) = downloads

abbrev pub owned : Act → List Exchange
owned act = visit_owned act ++ downloads_owned act

abbrev pub all_owned : List Act → List Exchange
all_owned [] = []
all_owned (act ∷ acts) = owned act ++ all_owned acts

-- the act leads from one state of the walk to the other
abbrev pub Does : Trial → List Source → Search → Act → Walked → Walked → Type 0
Does tries sources search (passes own given) before after =
    IsNoOffer given × Makes sources search own given before after
Does tries sources search spends before after = Spends before after
Does tries sources search (turns_down own downloads onboarding evidence found) before after =
    (offered : Walked) × Makes sources search own (answer.Offered onboarding evidence) before offered
    × tries onboarding evidence downloads (Some found) × TurnsDown found offered after
Does tries sources search (accepts own downloads onboarding evidence) before after =
    Makes sources search own (answer.Offered onboarding evidence) before after
    × tries onboarding evidence downloads None

-- ---- runs

-- an accepted offer is the end
abbrev pub is_end : Act → Bool
is_end (accepts own downloads onboarding evidence) = true
is_end _ = false

-- these acts in order lead from one state of the walk to the other
abbrev pub Runs : Trial → List Source → Search → List Act → Walked → Walked → Type 0
Runs tries sources search [] before after = after ≡ before
Runs tries sources search (act ∷ acts) before after =
    (is_end act ≡ true → acts ≡ [])
    × ((middle : Walked) × Does tries sources search act before middle × Runs tries sources search acts middle after)

-- From the first state a run has led to this one, over a network over which so much went before: the exchanges that
-- its acts own are those that were added, and no connection stands.
pub record IsRunSoFar (tries : Trial) (sources : List Source) (search : Search) (began now : Traffic) (walked : Walked)
    : Type 0 where
  pub acts : List Act
  pub runs : Runs tries sources search acts (first_walked sources) walked
  pub adds : Adds began now (all_owned acts)
  pub idle : now.standing ≡ None

-- A device tried this offer, and made this of it over the exchanges that were added meanwhile.
pub record IsTried (tries : Trial) (onboarding : Onboarding) (evidence : Evidence) (made : Option Reason)
    (before now : Traffic) : Type 0 where
  pub downloads : List Exchange
  pub makes : tries onboarding evidence downloads made
  pub adds : Adds before now downloads
  pub idle : now.standing ≡ None

-- ---- the whole walk

-- nothing is left to visit, or an offer was accepted
abbrev pub IsOver : Walked → Type 0
IsOver walked = (walked.entries ≡ []) ⊎ HasOffer walked

-- the places of the visits of storage and of files that were Lost, where the first of these visits has this place
abbrev pub lost_from : ℕ → List Visit → List ℕ
lost_from place [] = []
lost_from place (visit ∷ visits) =
    (if was_lost_file visit then place ∷ [] else []) ++ lost_from (place + 1) visits

-- The visits over these sources where so much was heard: the exchanges that the visits own, joined, are all of it, and
-- the visits of storage and of files at these places were Lost.
pub record IsWalk (tries : Trial) (sources : List Source) (search : Search) (heard : List Exchange) (lost : List ℕ)
    (visits : List Visit) : Type 0 where
  pub acts : List Act
  pub end : Walked
  pub runs : Runs tries sources search acts (first_walked sources) end
  pub exchanges : heard ≡ all_owned acts
  pub over : IsOver end
  pub visits_are : visits ≡ end.visits
  pub lost_are : lost ≡ lost_from 0 visits
