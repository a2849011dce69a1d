-- The walk over sources as one list that is rewritten (RFC 8572 section 5.2): its front is visited, and what that
-- lists or redirects to takes its place. Of each source at most 32 visits are made.
use Rattle.std.specs.Prelude.{◌≡◌, ℕ, ◌+◌, ◌<◌, ◌≤◌, ◌==◌, not, Bool, false, if◌then◌else◌, nat_lt, min, List, [], ◌∷◌, ◌++◌, length, map, count_by, Some, slice_get}
use Rattle.std.specs.List.{filter}
use Rattle.sz_base.specs.declared.target.Target.{Target}
use Rattle.sz_evidence.specs.declared.reason.Reason.{Reason}
use Rattle.sz_evidence.specs.declared.reason.Reason.TheVariants as reason
use Rattle.sz_io.specs.declared.exchange.Exchange.{Exchange}
use Rattle.sz_source.specs.Source.{first_item}
use Rattle.sz_source.specs.declared.item.Item.{Item}
use Rattle.sz_source.specs.declared.item.Item.TheVariants as item
use Rattle.sz_source.specs.declared.source.Source.{Source}
use Rattle.sz_answer.specs.Visit.{ComesTo, is_lost_file, is_lost_server, Search}
use Rattle.sz_answer.specs.declared.answer.Answer.{Answer}
use Rattle.sz_answer.specs.declared.answer.Answer.TheVariants as answer
use Rattle.sz_walk.specs.declared.entry.Entry.{Entry}
use Rattle.sz_walk.specs.declared.visit.Note.{Note}
use Rattle.sz_walk.specs.declared.visit.Note.TheVariants as note
use Rattle.sz_walk.specs.declared.visit.Visit.{Visit}

-- ---- the list

-- how deep redirects are followed
abbrev pub most_depth : ℕ
most_depth = 10

-- how often a source is visited
abbrev pub most_visits : ℕ
most_visits = 32

-- one entry of depth 0 for each of these sources, the first of which has this number
abbrev pub first_from : ℕ → List Source → List Entry
first_from number [] = []
first_from number (from ∷ others) =
    record { source = number; depth = 0; item = first_item from } ∷ first_from (number + 1) others

-- the list at first
abbrev pub first_entries : List Source → List Entry
first_entries sources = first_from 0 sources

-- a server that a source led to
abbrev pub entry_at : ℕ → ℕ → Target → Entry
entry_at number depth target = record { source = number; depth = depth; item = item.At target }

-- what takes the place of the front, which came to this answer
abbrev pub next_entries : Entry → Answer → List Entry
next_entries front (answer.Listed targets) = map (entry_at front.source 0) targets
next_entries front (answer.Redirected targets) =
    if nat_lt front.depth most_depth then map (entry_at front.source (front.depth + 1)) targets else []
next_entries front (answer.Offered onboarding evidence) = []
next_entries front (answer.Refused found) = []

-- the entries of the other sources
abbrev pub others_than : ℕ → List Entry → List Entry
others_than number entries = filter (λ entry. not (entry.source == number)) entries

-- ---- the visits

-- how many targets these are, as a note has it
abbrev pub count_of : List Target → ℕ
count_of targets = min (length targets) 65535

-- what is noted of a visit; an offer is noted as accepted until it is turned down
abbrev pub note_of : Entry → Answer → Note
note_of front (answer.Listed targets) = note.Listed (count_of targets)
note_of front (answer.Redirected targets) =
    if nat_lt front.depth most_depth then note.Redirected (count_of targets) else note.Refused reason.Depth
note_of front (answer.Offered onboarding evidence) = note.Accepted
note_of front (answer.Refused found) = note.Refused found

abbrev pub visit_of : Entry → Note → Visit
visit_of front noted = record { source = front.source; depth = front.depth; item = front.item; note = noted }

-- how often a source was visited
abbrev pub visits_of : ℕ → List Visit → ℕ
visits_of number visits = count_by (λ visit. visit.source == number) visits

-- ---- one step

-- the walk so far: what is left to visit, and the visits
pub record Walked : Type 0 where
  pub entries : List Entry
  pub visits : List Visit

abbrev pub first_walked : List Source → Walked
first_walked sources = record { entries = first_entries sources; visits = [] }

-- The front is visited: it owns these exchanges, and comes to this answer.
pub record Makes (sources : List Source) (search : Search) (own : List Exchange) (given : Answer)
    (before after : Walked) : Type 0 where
  pub front : Entry
  pub rest : List Entry
  pub from : Source
  pub entries : before.entries ≡ front ∷ rest
  pub source : slice_get sources front.source ≡ Some from
  pub budget : visits_of front.source before.visits < most_visits
  pub comes_to : ComesTo search from front.item own given
  pub entries_after : after.entries ≡ next_entries front given ++ rest
  pub visits_after : after.visits ≡ before.visits ++ visit_of front (note_of front given) ∷ []

-- The front's source was visited as often as it may be: that is noted of the front, and the source's entries are
-- dropped.
pub record Spends (before after : Walked) : Type 0 where
  pub front : Entry
  pub rest : List Entry
  pub entries : before.entries ≡ front ∷ rest
  pub spent : most_visits ≤ visits_of front.source before.visits
  pub entries_after : after.entries ≡ others_than front.source rest
  pub visits_after : after.visits ≡ before.visits ++ visit_of front (note.Refused reason.BudgetSpent) ∷ []

-- ---- offers

-- the last visit came to an offer that isn't turned down
pub record HasOffer (walked : Walked) : Type 0 where
  pub earlier : List Visit
  pub offer : Visit
  pub visits : walked.visits ≡ earlier ++ offer ∷ []
  pub accepted : offer.note ≡ note.Accepted

-- the offer of the last visit is turned down for this
pub record TurnsDown (found : Reason) (before after : Walked) : Type 0 where
  pub earlier : List Visit
  pub offer : Visit
  pub visits : before.visits ≡ earlier ++ offer ∷ []
  pub accepted : offer.note ≡ note.Accepted
  pub entries_after : after.entries ≡ before.entries
  pub visits_after : after.visits ≡ earlier ++ (record offer { note = note.Refused found }) ∷ []

-- ---- whom a visit blames, by what is noted of it

-- a refusal blames as the answer does
abbrev pub note_blames : (Item → Answer → Bool) → Item → Note → Bool
note_blames blames visited (note.Refused found) = blames visited (answer.Refused found)
note_blames blames visited _ = false

-- the visit of storage or of a file was Lost
abbrev pub was_lost_file : Visit → Bool
was_lost_file visit = note_blames is_lost_file visit.item visit.note

-- the visit of a server was Lost
abbrev pub was_lost_server : Visit → Bool
was_lost_server visit = note_blames is_lost_server visit.item visit.note
