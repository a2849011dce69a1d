-- The runs of a walk: an act more behind a run, and the exchanges that it adds.
use Rattle.std.proofs.Common.{◌≡◌, ◌≤◌, ◌⊎◌, inl, inr, true, List, [], ◌∷◌, ◌++◌, length, Some, None, refl, sym, ap, ◌∙◌, subst, arith, append_assoc, append-nil}
use Rattle.std.specs.List.{AllByRecursion}
use Rattle.sz_base.specs.declared.evidence.Evidence.{Evidence}
use Rattle.sz_artifacts.specs.declared.conveyed.onboarding.Onboarding.{Onboarding}
use Rattle.sz_evidence.specs.declared.reason.Reason.{Reason}
use Rattle.sz_io.specs.Added.{Adds}
use Rattle.sz_io.specs.Net.{Traffic}
use Rattle.sz_io.specs.declared.exchange.Exchange.{Exchange}
use Rattle.sz_io.proofs.Exchanges.{Adds-refl, Adds-added, Adds-join_idle}
use Rattle.sz_source.specs.declared.item.Item.{Item}
use Rattle.sz_source.specs.declared.item.Item.TheVariants as item
use Rattle.sz_source.specs.declared.source.Source.{Source}
use Rattle.sz_answer.specs.Visit.{ComesTo, Search}
use Rattle.sz_answer.specs.declared.answer.Answer.{Answer}
use Rattle.sz_answer.specs.declared.answer.Answer.TheVariants as answer
use Rattle.sz_walk.specs.Runs.{Act, accepts, all_owned, Does, is_end, IsOver, IsRunSoFar, IsTried, IsWalk, lost_from, owned, passes, Runs, spends, Trial, turns_down, visit_owned}
use Rattle.sz_walk.specs.Visits.{first_walked, HasOffer, Spends, TurnsDown, visit_of, Walked}
use Rattle.sz_walk.specs.Walk.{Offers, Passes}
use Rattle.sz_walk.specs.declared.visit.Note.TheVariants as note

-- ---- one act more

-- where an offer was accepted, it stands
accepted_stands : (tries : Trial) (sources : List Source) (search : Search) (act : Act) (before after : Walked) → is_end act ≡ true
    → Does tries sources search act before after → HasOffer after
accepted_stands tries sources search (passes own given) before after end does = cc
accepted_stands tries sources search spends before after end does = cc
accepted_stands tries sources search (turns_down own downloads onboarding evidence found) before after end does = cc
accepted_stands tries sources search (accepts own downloads onboarding evidence) before after end does = record {
  earlier = before.visits;
  offer = visit_of does.0.front note.Accepted;
  visits = does.0.visits_after;
  accepted = refl;
}

nothing_ends : (tries : Trial) (sources : List Source) (search : Search) (act : Act) (acts : List Act) (before middle after : Walked)
    → ¬ HasOffer after → (is_end act ≡ true → acts ≡ []) → Does tries sources search act before middle → Runs tries sources search acts middle after
    → is_end act ≡ true → ⊥
nothing_ends tries sources search act [] before middle after none last does runs end =
    none (subst (λ (w : Walked). HasOffer w) (sym runs) (accepted_stands tries sources search act before middle end does))
nothing_ends tries sources search act (x ∷ acts) before middle after none last does runs end = let no = last end in cc

one_more : (tries : Trial) (sources : List Source) (search : Search) (acts : List Act) (act : Act) (first before after : Walked)
    → ¬ HasOffer before → Runs tries sources search acts first before → Does tries sources search act before after
    → Runs tries sources search (acts ++ act ∷ []) first after
one_more tries sources search [] act first before after none runs does =
    ((λ end. refl), (after, subst (λ (w : Walked). Does tries sources search act w after) runs does, refl))
one_more tries sources search (x ∷ acts) act first before after none runs does = (
  (λ end. absurd (nothing_ends tries sources search x acts first runs.1.0 before none runs.0 runs.1.1 runs.1.2 end)),
  (runs.1.0, runs.1.1, one_more tries sources search acts act runs.1.0 before after none runs.1.2 does),
)

owned_more : (acts : List Act) (act : Act) → all_owned (acts ++ act ∷ []) ≡ all_owned acts ++ owned act
owned_more [] act = append-nil (owned act)
owned_more (x ∷ acts) act = ap (λ l. owned x ++ l) (owned_more acts act) ∙ sym (append_assoc (owned x) (all_owned acts) (owned act))

-- the act is one more of the run, and owns what was added since
goes_on : (tries : Trial) (sources : List Source) (search : Search) (began old new : Traffic) (before after : Walked) (act : Act)
    → IsRunSoFar tries sources search began old before → ¬ HasOffer before → Does tries sources search act before after
    → Adds old new (owned act) → new.standing ≡ None → IsRunSoFar tries sources search began new after
goes_on tries sources search began old new before after act run none does adds idle = record {
  acts = run.acts ++ act ∷ [];
  runs = one_more tries sources search run.acts act (first_walked sources) before after none run.runs does;
  adds = subst (λ l. Adds began new l) (sym (owned_more run.acts act))
      (Adds-join_idle began old new (all_owned run.acts) (owned act) run.idle run.adds adds);
  idle = idle;
}

-- ---- the laws

pub begins : (tries : Trial) (sources : List Source) (search : Search) (began : Traffic) → began.standing ≡ None
    → IsRunSoFar tries sources search began began (first_walked sources)
begins tries sources search began idle = record { acts = []; runs = refl; adds = Adds-refl began; idle = idle }

pub passed : (tries : Trial) (sources : List Source) (search : Search) (began old new : Traffic) (before after : Walked)
    → IsRunSoFar tries sources search began old before → ¬ HasOffer before
    → Passes sources search before after old new ⊎ (Spends before after × (new ≡ old))
    → IsRunSoFar tries sources search began new after
passed tries sources search began old new before after run none (inl passes_it) =
    goes_on tries sources search began old new before after (passes passes_it.own passes_it.given) run none
    (passes_it.no_offer, passes_it.makes)
    (subst (λ l. Adds old new l) (sym (append-nil passes_it.own)) passes_it.owns.adds) (passes_it.owns.idle run.idle)
passed tries sources search began old new before after run none (inr spent) =
    goes_on tries sources search began old new before after spends run none spent.0
    (subst (λ (t : Traffic). Adds old t []) (sym spent.1) (Adds-refl old)) (ap (λ (t : Traffic). t.standing) spent.1 ∙ run.idle)

pub turned_down : (tries : Trial) (sources : List Source) (search : Search) (began old visited new : Traffic) (before offered after : Walked)
    (onboarding : Onboarding) (evidence : Evidence) (found : Reason) → IsRunSoFar tries sources search began old before → ¬ HasOffer before
    → Offers sources search (answer.Offered onboarding evidence) before offered old visited
    → IsTried tries onboarding evidence (Some found) visited new → TurnsDown found offered after
    → IsRunSoFar tries sources search began new after
turned_down tries sources search began old visited new before offered after onboarding evidence found run none offers tried turned =
    goes_on tries sources search began old new before after (turns_down offers.own tried.downloads onboarding evidence found) run none
    (offered, offers.makes, tried.makes, turned)
    (Adds-join_idle old visited new offers.own tried.downloads (offers.owns.idle run.idle) offers.owns.adds tried.adds) tried.idle

pub accepted : (tries : Trial) (sources : List Source) (search : Search) (began old visited new : Traffic) (before offered : Walked)
    (onboarding : Onboarding) (evidence : Evidence) → IsRunSoFar tries sources search began old before → ¬ HasOffer before
    → Offers sources search (answer.Offered onboarding evidence) before offered old visited
    → IsTried tries onboarding evidence None visited new → IsRunSoFar tries sources search began new offered
accepted tries sources search began old visited new before offered onboarding evidence run none offers tried =
    goes_on tries sources search began old new before offered (accepts offers.own tried.downloads onboarding evidence) run none
    (offers.makes, tried.makes)
    (Adds-join_idle old visited new offers.own tried.downloads (offers.owns.idle run.idle) offers.owns.adds tried.adds) tried.idle

pub is_walk : (tries : Trial) (sources : List Source) (search : Search) (began now : Traffic) (walked : Walked) (heard : List Exchange)
    → IsRunSoFar tries sources search began now walked → IsOver walked → Adds began now heard
    → IsWalk tries sources search heard (lost_from 0 walked.visits) walked.visits
is_walk tries sources search began now walked heard run over adds = record {
  acts = run.acts;
  end = walked;
  runs = run.runs;
  exchanges = Adds-added began now heard adds ∙ sym (Adds-added began now (all_owned run.acts) run.adds);
  over = over;
  visits_are = refl;
  lost_are = refl;
}

-- ---- what a visit owns

few_of : (search : Search) (from : Source) (visited : Item) (own : List Exchange) (given : Answer)
    → ComesTo search from visited own given → length own ≤ 1
few_of search from (item.Folder path) own given comes = subst (λ (l : List Exchange). length l ≤ 1) (sym comes.0) (omega arith)
few_of search from (item.File path) own given comes = subst (λ (l : List Exchange). length l ≤ 1) (sym comes.0) (omega arith)
few_of search from (item.At target) own given comes = subst (λ (l : List Exchange). length l ≤ 1) (sym comes.2) (omega arith)

few_owned : (tries : Trial) (sources : List Source) (search : Search) (act : Act) (before after : Walked)
    → Does tries sources search act before after → length (visit_owned act) ≤ 1
few_owned tries sources search (passes own given) before after does =
    few_of search does.1.from does.1.front.item own given does.1.comes_to
few_owned tries sources search spends before after does = omega arith
few_owned tries sources search (turns_down own downloads onboarding evidence found) before after does =
    few_of search does.1.from does.1.front.item own (answer.Offered onboarding evidence) does.1.comes_to
few_owned tries sources search (accepts own downloads onboarding evidence) before after does =
    few_of search does.0.from does.0.front.item own (answer.Offered onboarding evidence) does.0.comes_to

pub own_few : (tries : Trial) (sources : List Source) (search : Search) (acts : List Act) (before after : Walked)
    → Runs tries sources search acts before after → AllByRecursion (λ act. length (visit_owned act) ≤ 1) acts
own_few tries sources search [] before after runs = tt
own_few tries sources search (act ∷ acts) before after runs = (
  few_owned tries sources search act before runs.1.0 runs.1.1,
  own_few tries sources search acts runs.1.0 after runs.1.2,
)
