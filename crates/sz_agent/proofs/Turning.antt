-- A turn of the walk, as a step of its run: the visit, and the trial of what it offers.
use Rattle.std.specs.Prelude.{◌≡◌, ◌⊎◌, ℕ, ◌*◌, ◌≤◌, List, [], ◌∷◌, ◌++◌, length, Option, Some, None, Ok}
use Rattle.std.proofs.Common.{refl, sym, ap, subst, ◌∙◌, inl, inr, append-nil, length-append, arith}
use Rattle.sz_spec.specs.Told.{WhereTold}
use Rattle.sz_base.specs.declared.evidence.Evidence.{Evidence}
use Rattle.sz_artifacts.specs.declared.conveyed.onboarding.Onboarding.{Onboarding}
use Rattle.sz_evidence.specs.declared.reason.Reason.{Reason}
use Rattle.sz_io.specs.Added.{Adds}
use Rattle.sz_io.specs.Net.{Traffic}
use Rattle.sz_io.specs.declared.exchange.Exchange.{Exchange}
use Rattle.sz_source.specs.declared.source.Source.{Source}
use Rattle.sz_io.proofs.Exchanges.{Adds-join_idle, Adds-refl}
use Rattle.sz_answer.specs.declared.answer.Answer.TheVariants as answer
use Rattle.sz_exchange.specs.Exchange.{MayAdd}
use Rattle.sz_http.specs.Reading.{side_of}
use Rattle.sz_http.specs.declared.reading.Reading.{Reading}
use Rattle.sz_http.specs.declared.side.Side.TheVariants as side
use Rattle.sz_walk.specs.Runs.{all_owned, IsOver, IsTried, IsWalk, lost_from}
use Rattle.sz_walk.specs.Visits.{first_walked, HasOffer, TurnsDown, visit_of, Walked}
use Rattle.sz_walk.specs.Walk.{IsStep, most_notes, Offers, WalkState}
use Rattle.sz_walk.specs.declared.step.Step.TheVariants as step
use Rattle.sz_walk.specs.declared.visit.Note.TheVariants as note
use Rattle.sz_walk.specs.declared.visit.Visit.{Visit}
use Rattle.sz_walk.proofs.Running.{accepted, begins, is_walk, passed, turned_down}
use Rattle.sz_offer.specs.Offer.{Looker, Makes}
use Rattle.sz_offer.specs.Trial.{MakesOver}
use Rattle.sz_agent.specs.Choice.{ComesOn, EndsWith, GoesOn, TurnsFrom, Weighs}
use Rattle.sz_agent.specs.Quest.{BreaksOff, HasCome, IsWholeWalk, Quest, Takes, TakesNone}
use Rattle.sz_agent.specs.declared.choice.Choice.{Choice}
use Rattle.sz_agent.specs.declared.choice.Choice.TheVariants as choice
use Rattle.sz_agent.specs.declared.choice.Offer.{Offer}

-- ---- where a network tells

pub told_weaker : (P Q : Traffic → Traffic → Type 0) → ((x y : Traffic) → P x y → Q x y) → (a b : Option Traffic)
    → WhereTold P a b → WhereTold Q a b
told_weaker P Q so None b told = told
told_weaker P Q so (Some x) None told = absurd told
told_weaker P Q so (Some x) (Some y) told = so x y told

-- over two calls
pub told_both : (P Q R : Traffic → Traffic → Type 0) → ((x y z : Traffic) → P x y → Q y z → R x z)
    → (a b c : Option Traffic) → WhereTold P a b → WhereTold Q b c → WhereTold R a c
told_both P Q R so None b c first second = subst (λ (o : Option Traffic). WhereTold Q o c) first second
told_both P Q R so (Some x) None c first second = absurd first
told_both P Q R so (Some x) (Some y) None first second = absurd second
told_both P Q R so (Some x) (Some y) (Some z) first second = so x y z first second

-- ---- trials

idle_after : (old new : Traffic) → old.standing ≡ None → (new.standing ≡ None) ⊎ (new ≡ old) → new.standing ≡ None
idle_after old new idle (inl none) = none
idle_after old new idle (inr same) = ap (λ (t : Traffic). t.standing) same ∙ idle

tried-idle : (looker : Looker) (onboarding : Onboarding) (evidence : Evidence) (verdict : Option Reason) (old new : Traffic)
    → old.standing ≡ None → MakesOver looker onboarding evidence verdict old new
    → IsTried (Makes looker) onboarding evidence verdict old new
tried-idle looker onboarding evidence verdict old new idle over = record {
  downloads = over.0;
  makes = over.2;
  adds = over.1.adds;
  idle = idle_after old new idle over.1.leaves;
}

-- ---- the walk before its first visit

pub comes_first : (quest : Quest) (began : Traffic) → began.standing ≡ None
    → HasCome quest began began (first_walked quest.sources)
comes_first quest began idle = begins (Makes quest.looker) quest.sources quest.search began idle

-- where the network tells
pub begun_told : (quest : Quest) (walked : Walked) (a : Option Traffic) → walked ≡ first_walked quest.sources
    → WhereTold (λ began now. began.standing ≡ None → HasCome quest began now walked) a a
begun_told quest walked None is = refl
begun_told quest walked (Some x) is = λ idle. subst (λ (w : Walked). HasCome quest x x w) (sym is) (comes_first quest x idle)

no_last : (earlier : List Visit) (offer : Visit) → [] ≡ earlier ++ offer ∷ [] → ⊥
no_last [] offer is = absurd (cc is)
no_last (visit ∷ earlier) offer is = absurd (cc is)

pub first_no_offer : (sources : List Source) → ¬ HasOffer (first_walked sources)
first_no_offer sources has = no_last has.earlier has.offer has.visits

-- the boot ended before it
pub breaks_first : (quest : Quest) (began : Traffic) → began.standing ≡ None → BreaksOff quest began began []
breaks_first quest began idle = record {
  walked = first_walked quest.sources;
  reached = began;
  more = [];
  last = [];
  come = comes_first quest began idle;
  no_offer = first_no_offer quest.sources;
  adds = Adds-refl began;
  visits_are = refl;
  one = omega arith;
}

pub broken_told : (quest : Quest) (visits : List Visit) (a : Option Traffic) → visits ≡ []
    → WhereTold (λ began now. began.standing ≡ None → BreaksOff quest began now visits) a a
broken_told quest visits None is = refl
broken_told quest visits (Some x) is =
    λ idle. subst (λ (vs : List Visit). BreaksOff quest x x vs) (sym is) (breaks_first quest x idle)

-- ---- one turn

-- a turn behind what the walk has come to
pub turned_told : (quest : Quest) (chosen : Option Choice) (before after : Walked) (a b c : Option Traffic)
    → WhereTold (λ began now. began.standing ≡ None → HasCome quest began now before) a b
    → WhereTold (TurnsFrom quest chosen before after) b c
    → WhereTold (λ began now. began.standing ≡ None → ComesOn quest chosen began now after) a c
turned_told quest chosen before after a b c come turns =
    told_both (λ began now. began.standing ≡ None → HasCome quest began now before) (TurnsFrom quest chosen before after)
    (λ began now. began.standing ≡ None → ComesOn quest chosen began now after)
    (λ x y z come turns idle. turns x (come idle)) a b c come turns

-- the visit passed
pub turn_passed : (quest : Quest) (began old new : Traffic) (before after : Walked) → HasCome quest began old before
    → ¬ HasOffer before → IsStep quest.sources quest.search step.Passed before after old new
    → HasCome quest began new after
turn_passed quest began old new before after come none is =
    passed (Makes quest.looker) quest.sources quest.search began old new before after come none is

-- nothing is left
pub turn_done : (quest : Quest) (began old new : Traffic) (before after : Walked) → HasCome quest began old before
    → ¬ HasOffer before → IsStep quest.sources quest.search step.Done before after old new
    → TakesNone quest began new after.visits
turn_done quest began old new before after come none is = record {
  walked = before;
  come = subst (λ (t : Traffic). HasCome quest began t before) (sym is.2) come;
  none_left = is.0;
  no_offer = none;
  visits_are = ap (λ (w : Walked). w.visits) is.1;
}

-- memory ran out in the visit, which noted nothing
pub turn_short : (quest : Quest) (began old new : Traffic) (before after : Walked) → HasCome quest began old before
    → ¬ HasOffer before → MayAdd old new → after.visits ≡ before.visits → BreaksOff quest began new after.visits
turn_short quest began old new before after come none adds same = record {
  walked = before;
  reached = old;
  more = adds.0;
  last = [];
  come = come;
  no_offer = none;
  adds = adds.1;
  visits_are = same ∙ sym (append-nil before.visits);
  one = omega arith;
}

module _ (quest : Quest) (began asked heard now : Traffic) (before offered : Walked) (offer : Offer)
    (come : HasCome quest began asked before) (none : ¬ HasOffer before)
    (offers : Offers quest.sources quest.search (answer.Offered offer.onboarding offer.evidence) before offered asked heard) where
  -- the visit leaves no connection
  idle : heard.standing ≡ None
  idle = offers.owns.idle come.idle

  -- the offer is turned down
  pub turn_refused : (found : Reason) (after : Walked)
      → MakesOver quest.looker offer.onboarding offer.evidence (Some found) heard now → TurnsDown found offered after
      → HasCome quest began now after
  turn_refused found after makes turns =
      turned_down (Makes quest.looker) quest.sources quest.search began asked heard now before offered after offer.onboarding
      offer.evidence found come none offers
      (tried-idle quest.looker offer.onboarding offer.evidence (Some found) heard now idle makes) turns

  -- the offer is taken
  pub turn_taken : MakesOver quest.looker offer.onboarding offer.evidence None heard now
      → Takes quest offer.onboarding offer.evidence began now offered.visits
  turn_taken makes = record {
    before = before;
    offered = offered;
    asked = asked;
    heard = heard;
    come = come;
    no_offer = none;
    offers = offers;
    taken = tried-idle quest.looker offer.onboarding offer.evidence None heard now idle makes;
    visits_are = refl;
  }

  -- the trial broke off: the offer stands as the last visit
  pub turn_broken : (more : List Exchange) → Adds heard now more → BreaksOff quest began now offered.visits
  turn_broken more adds = record {
    walked = before;
    reached = asked;
    more = offers.own ++ more;
    last = visit_of offers.makes.front note.Accepted ∷ [];
    come = come;
    no_offer = none;
    adds = Adds-join_idle asked heard now offers.own more idle offers.owns.adds adds;
    visits_are = offers.makes.visits_after;
    one = omega arith;
  }

  -- the trial came to this choice
  pub turn_chosen : (chosen : Choice) → Weighs quest.looker offer (Ok chosen) heard now
      → EndsWith quest chosen began now offered.visits
  turn_chosen (choice.Commits taken) weighs =
      subst (λ (o : Offer). Takes quest o.onboarding o.evidence began now offered.visits) (sym weighs.0)
      (turn_taken weighs.1)
  turn_chosen (choice.Installs staged taken) weighs =
      subst (λ (o : Offer). Takes quest o.onboarding o.evidence began now offered.visits) (sym weighs.0)
      (turn_taken weighs.1)
  turn_chosen choice.Nothing weighs = absurd weighs
  turn_chosen choice.DiskFault weighs = turn_broken weighs.0 weighs.1
  turn_chosen choice.OutOfMemory weighs = turn_broken weighs.0 weighs.1

-- a walk goes on behind an offer that was turned down
turned_length : (found : Reason) (before after : Walked) → TurnsDown found before after
    → length after.visits ≡ length before.visits
turned_length found before after turns =
    ap (λ (vs : List Visit). length vs) turns.visits_after
    ∙ length-append turns.earlier ((record turns.offer { note = note.Refused found }) ∷ [])
    ∙ sym (length-append turns.earlier (turns.offer ∷ []))
    ∙ sym (ap (λ (vs : List Visit). length vs) turns.visits)

pub refused_goes_on : (before offered after : WalkState) (buffer : Reading) (found : Reason) (visit : Visit)
    → offered.sources ≡ before.sources → after.sources ≡ offered.sources
    → offered.walked.visits ≡ before.walked.visits ++ visit ∷ []
    → length offered.walked.visits ≤ most_notes * length before.sources → TurnsDown found offered.walked after.walked
    → ¬ HasOffer after.walked → side_of buffer ≡ side.Reply → GoesOn before after buffer
refused_goes_on before offered after buffer found visit sources kept noted within turns none replies =
    let same = turned_length found offered.walked after.walked turns in
    record {
      sources = kept ∙ sources;
      more = same ∙ ap (λ (vs : List Visit). length vs) noted ∙ length-append before.walked.visits (visit ∷ []);
      within = subst (λ (n : ℕ). n ≤ most_notes * length before.sources) (sym same) within;
      no_offer = none;
      replies = replies;
    }

-- ---- whole walks

whole_of : (quest : Quest) (began now : Traffic) (walked : Walked) (visits : List Visit) → HasCome quest began now walked
    → IsOver walked → visits ≡ walked.visits → IsWholeWalk quest began now visits
whole_of quest began now walked visits come over same = record {
  heard = all_owned come.acts;
  adds = come.adds;
  walk = subst
      (λ (v : List Visit). IsWalk (Makes quest.looker) quest.sources quest.search (all_owned come.acts) (lost_from 0 v) v)
      (sym same)
      (is_walk (Makes quest.looker) quest.sources quest.search began now walked (all_owned come.acts) come over come.adds);
}

-- a walk that took an offer is whole
pub taken_whole : (quest : Quest) (onboarding : Onboarding) (evidence : Evidence) (began now : Traffic) (visits : List Visit)
    → Takes quest onboarding evidence began now visits → IsWholeWalk quest began now visits
taken_whole quest onboarding evidence began now visits takes =
    let stands : HasOffer takes.offered = record {
      earlier = takes.before.visits;
      offer = visit_of takes.offers.makes.front note.Accepted;
      visits = takes.offers.makes.visits_after;
      accepted = refl;
    } in
    whole_of quest began now takes.offered visits
    (accepted (Makes quest.looker) quest.sources quest.search began takes.asked takes.heard now takes.before takes.offered
    onboarding evidence takes.come takes.no_offer takes.offers takes.taken) (inr stands) takes.visits_are

-- so is one that is over without
pub none_whole : (quest : Quest) (began now : Traffic) (visits : List Visit) → TakesNone quest began now visits
    → IsWholeWalk quest began now visits
none_whole quest began now visits none =
    whole_of quest began now none.walked visits none.come (inl none.none_left) none.visits_are
