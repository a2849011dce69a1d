-- What one boot walks for, and how its walk ends: with the first offer that the device takes, with none, or broken
-- off.
use Rattle.std.specs.Prelude.{◌≡◌, ◌≤◌, List, [], ◌++◌, length, None}
use Rattle.sz_base.specs.declared.evidence.Evidence.{Evidence}
use Rattle.sz_artifacts.specs.declared.conveyed.onboarding.Onboarding.{Onboarding}
use Rattle.sz_io.specs.Added.{Adds}
use Rattle.sz_io.specs.Folder.{FileMap}
use Rattle.sz_io.specs.Net.{Traffic}
use Rattle.sz_io.specs.declared.exchange.Exchange.{Exchange}
use Rattle.sz_source.specs.declared.source.Source.{Source}
use Rattle.sz_answer.specs.Visit.{Search, search_of}
use Rattle.sz_answer.specs.declared.answer.Answer.TheVariants as answer
use Rattle.sz_walk.specs.Runs.{IsRunSoFar, IsTried, IsWalk, lost_from}
use Rattle.sz_walk.specs.Visits.{HasOffer, Walked}
use Rattle.sz_walk.specs.Walk.{Offers}
use Rattle.sz_walk.specs.declared.visit.Visit.{Visit}
use Rattle.sz_offer.specs.Offer.{Looker, Makes}

-- who looks at offers, over which sources, and what the visits search for
pub record Quest : Type 0 where
  pub looker : Looker
  pub sources : List Source
  pub search : Search

abbrev pub quest_of : Looker → List Source → FileMap → Quest
quest_of looker sources files = record {
  looker = looker;
  sources = sources;
  search = search_of looker.device.identity looker.when files;
}

-- The walk has come to this: a run over the list of what is left to visit, whose acts own the exchanges that were
-- added. What the device makes of each offer is said by `Makes`.
abbrev pub HasCome : Quest → Traffic → Traffic → Walked → Type 0
HasCome quest began now walked =
    IsRunSoFar (Makes quest.looker) quest.sources quest.search began now walked

-- The first offer that the device takes. Before it the walk had taken none; then its front was visited, which came to
-- this offer and owns the exchanges from `asked` to `heard`, and the device made those from there on of it, and takes
-- it.
pub record Takes (quest : Quest) (onboarding : Onboarding) (evidence : Evidence) (began now : Traffic)
    (visits : List Visit) : Type 0 where
  pub before : Walked
  pub offered : Walked
  pub asked : Traffic
  pub heard : Traffic
  pub come : HasCome quest began asked before
  pub no_offer : ¬ HasOffer before
  pub offers : Offers quest.sources quest.search (answer.Offered onboarding evidence) before offered asked heard
  pub taken : IsTried (Makes quest.looker) onboarding evidence None heard now
  pub visits_are : visits ≡ offered.visits

-- the walk takes the offer of this evidence
abbrev pub TakesBy : Quest → Evidence → Traffic → Traffic → List Visit → Type 0
TakesBy quest evidence began now visits =
    (onboarding : Onboarding) × Takes quest onboarding evidence began now visits

-- nothing is left to visit, and no offer was taken
pub record TakesNone (quest : Quest) (began now : Traffic) (visits : List Visit) : Type 0 where
  pub walked : Walked
  pub come : HasCome quest began now walked
  pub none_left : walked.entries ≡ []
  pub no_offer : ¬ HasOffer walked
  pub visits_are : visits ≡ walked.visits

-- The walk broke off where the disk failed or memory ran out. Until then it had taken no offer; behind that more may
-- have been asked, and one visit more may have been noted, of which nothing is said.
pub record BreaksOff (quest : Quest) (began now : Traffic) (visits : List Visit) : Type 0 where
  pub walked : Walked
  pub reached : Traffic
  pub more : List Exchange
  pub last : List Visit
  pub come : HasCome quest began reached walked
  pub no_offer : ¬ HasOffer walked
  pub adds : Adds reached now more
  pub visits_are : visits ≡ walked.visits ++ last
  pub one : length last ≤ 1

-- The visits are those of a whole walk, and the exchanges that they own, joined, are all that was heard meanwhile.
pub record IsWholeWalk (quest : Quest) (began now : Traffic) (visits : List Visit) : Type 0 where
  pub heard : List Exchange
  pub adds : Adds began now heard
  pub walk : IsWalk (Makes quest.looker) quest.sources quest.search heard (lost_from 0 visits) visits
