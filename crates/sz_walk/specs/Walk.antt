-- A walk as contracts see it, and what one call does to it.
use Rattle.std.specs.Prelude.{◌≡◌, ◌↔◌, ◌⊎◌, ℕ, ◌+◌, ◌*◌, ◌≤◌, Bool, true, false, IsTrue, List, [], ◌∷◌, ◌++◌, length, drop, Option, Some}
use Rattle.std.specs.List.{list_any}
use Rattle.sz_spec.specs.Told.{WhereTold}
use Rattle.sz_base.specs.Identity.{IsWhole}
use Rattle.sz_base.specs.declared.identity.Identity.{Identity}
use Rattle.sz_base.specs.declared.moment.Moment.{Moment}
use Rattle.sz_evidence.specs.Authorised.{Authorised}
use Rattle.sz_io.specs.Folder.{FileMap}
use Rattle.sz_io.specs.Net.{Traffic}
use Rattle.sz_io.specs.declared.exchange.Exchange.{Exchange}
use Rattle.sz_source.specs.declared.source.Source.{Source}
use Rattle.sz_answer.specs.Visit.{IsNoOffer, Owns, Search}
use Rattle.sz_answer.specs.declared.answer.Answer.{Answer}
use Rattle.sz_answer.specs.declared.answer.Answer.TheVariants as answer
use Rattle.sz_walk.specs.Visits.{HasOffer, Makes, most_visits, Spends, visits_of, Walked}
use Rattle.sz_walk.specs.declared.visit.Visit.{Visit}
use Rattle.sz_walk.specs.declared.step.Step.{Step}
use Rattle.sz_walk.specs.declared.step.Step.TheVariants as step

-- the sources, and the walk so far
pub record WalkState : Type 0 where
  pub sources : List Source
  pub walked : Walked

-- the device has all that makes one, and no offer waits to be tried
pub record IsReady (identity : Identity) (walked : Walked) : Type 0 where
  pub whole : IsWhole identity
  pub no_offer : ¬ HasOffer walked

-- ---- what a call does, where the folder and the network both tell

abbrev pub WhereBothTell : Option FileMap → Option Traffic → Option Traffic → (FileMap → Traffic → Traffic → Type 0)
    → Type 0
WhereBothTell files before now Is = (told : FileMap) → files ≡ Some told → WhereTold (Is told) before now

-- the front came to something else than an offer, and owns just the exchanges that were added
pub record Passes (sources : List Source) (search : Search) (before after : Walked) (old new : Traffic) : Type 0 where
  pub own : List Exchange
  pub given : Answer
  pub owns : Owns old new own
  pub no_offer : IsNoOffer given
  pub makes : Makes sources search own given before after

-- the front came to this offer, and owns just the exchanges that were added
pub record Offers (sources : List Source) (search : Search) (given : Answer) (before after : Walked) (old new : Traffic)
    : Type 0 where
  pub own : List Exchange
  pub owns : Owns old new own
  pub makes : Makes sources search own given before after

-- the call is this step of the walk
abbrev pub IsStep : List Source → Search → Step → Walked → Walked → Traffic → Traffic → Type 0
IsStep sources search (step.Offer onboarding evidence) before after old new =
    Offers sources search (answer.Offered onboarding evidence) before after old new
IsStep sources search step.Passed before after old new =
    Passes sources search before after old new ⊎ (Spends before after × (new ≡ old))
IsStep sources search step.Done before after old new = (before.entries ≡ []) × (after ≡ before) × (new ≡ old)
IsStep sources search step.OutOfMemory before after old new = Unit {0}

-- ---- what a call offers and notes, whether they tell or not

-- an offer has evidence that authorises it
abbrev pub OffersAuthorised : Identity → Moment → Step → Type 0
OffersAuthorised identity when (step.Offer onboarding evidence) = Authorised identity when evidence onboarding
OffersAuthorised identity when _ = Unit {0}

abbrev pub is_offer : Step → Bool
is_offer (step.Offer onboarding evidence) = true
is_offer _ = false

-- one visit, but where nothing is left to visit or memory ran out
abbrev pub NotesFor : Step → List Visit → List Visit → Type 0
NotesFor step.Done before after = after ≡ before
NotesFor step.OutOfMemory before after = after ≡ before
NotesFor _ before after = (visit : Visit) × (after ≡ before ++ visit ∷ [])

-- a source's visits, and the note that no more are made
abbrev pub most_notes : ℕ
most_notes = most_visits + 1

pub record Notes (given : Step) (before after : WalkState) : Type 0 where
  pub sources : after.sources ≡ before.sources
  pub done : (given ≡ step.Done) ↔ (before.walked.entries ≡ [])
  pub visits : NotesFor given before.walked.visits after.walked.visits
  pub offer : HasOffer after.walked ↔ IsTrue (is_offer given)
  pub few : (number : ℕ) → visits_of number after.walked.visits ≤ most_notes
  pub within : length after.walked.visits ≤ most_notes * length before.sources

-- a visit that was noted since passes the test
abbrev pub notes_some : (Visit → Bool) → Walked → Walked → Bool
notes_some test before after = list_any test (drop (length before.visits) after.visits)
