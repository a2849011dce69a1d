-- One call of a walk: the step that it is, what it notes, and whom that blames.
use Rattle.std.proofs.Common.{◌≡◌, ◌≢◌, ◌⊎◌, inl, inr, ◌↔◌, ℕ, ◌-◌, ◌<◌, ◌||◌, Bool, true, false, IsTrue, IfOk, if◌then◌else◌, nat_lt, List, [], ◌∷◌, ◌++◌, length, drop, get_or, set, Option, Some, Result, Ok, Err, slice_get, refl, sym, ap, ◌∙◌, subst, arith, append-nil, length-append}
use Rattle.std.proofs.Math.Seq.{get_or-append_seam, set-append_seam}
use Rattle.std.proofs.lemmas.List.{drop_at}
use Rattle.std.specs.List.{list_any}
use Rattle.sz_spec.specs.Cause.{HasCause}
use Rattle.sz_spec.specs.Told.{WhereTold}
use Rattle.sz_base.specs.declared.fault.OutOfMemory.{OutOfMemory}
use Rattle.sz_base.specs.declared.identity.Identity.{Identity}
use Rattle.sz_base.specs.declared.moment.Moment.{Moment}
use Rattle.sz_evidence.specs.declared.reason.Reason.{Reason}
use Rattle.sz_evidence.specs.declared.reason.Reason.TheVariants as reason
use Rattle.sz_exchange.specs.Exchange.{MayAdd}
use Rattle.sz_io.specs.Folder.{FileMap}
use Rattle.sz_io.specs.Net.{Traffic}
use Rattle.sz_io.specs.declared.exchange.Exchange.{Exchange}
use Rattle.sz_source.specs.declared.item.Item.{Item}
use Rattle.sz_source.specs.declared.item.Item.TheVariants as item
use Rattle.sz_source.specs.declared.source.Source.{Source}
use Rattle.sz_ask.proofs.Runs.{told_weaker}
use Rattle.sz_answer.specs.Visit.{blames_folder, blames_net, CameTo, ComesTo, is_lost, is_lost_file, is_lost_server, Owns, Search, search_of}
use Rattle.sz_answer.specs.declared.answer.Answer.{Answer}
use Rattle.sz_answer.specs.declared.answer.Answer.TheVariants as answer
use Rattle.sz_walk.specs.Progress.{Follows, IsKept, IsSettled, Leads, Settles, step_of, TakesFront}
use Rattle.sz_walk.specs.Visits.{count_of, first_walked, HasOffer, Makes, most_depth, most_visits, note_blames, note_of, Spends, visit_of, TurnsDown, visits_of, Walked, was_lost_file, was_lost_server}
use Rattle.sz_walk.specs.Walk.{is_offer, IsStep, Notes, NotesFor, notes_some, WalkState, WhereBothTell}
use Rattle.sz_walk.specs.declared.entry.Entry.{Entry}
use Rattle.sz_walk.specs.declared.step.Step.{Step}
use Rattle.sz_walk.specs.declared.step.Step.TheVariants as step
use Rattle.sz_walk.specs.declared.visit.Note.{Note}
use Rattle.sz_walk.specs.declared.visit.Note.TheVariants as note
use Rattle.sz_walk.specs.declared.visit.Visit.{Visit}
use Rattle.sz_walk.proofs.Keeping.{front_below, kept_settles, kept_takes, within}
use Rattle.sz_walk.proofs.Lists.{same_last}

-- ---- the step

made_of : (sources : List Source) (search : Search) (own : List Exchange) (from : Source) (front : Entry) (given : Answer) (before taken after : Walked)
    → TakesFront front before taken → visits_of front.source before.visits < most_visits → slice_get sources front.source ≡ Some from
    → ComesTo search from front.item own given → Settles front given taken after → Makes sources search own given before after
made_of sources search own from front given before taken after takes budget source comes settles = record {
  front = front;
  rest = taken.entries;
  from = from;
  entries = takes.entries;
  source = source;
  budget = budget;
  comes_to = comes;
  entries_after = settles.entries;
  visits_after = settles.visits ∙ ap (λ (vs : List Visit). vs ++ visit_of front (note_of front given) ∷ []) takes.visits;
}

step_made : (sources : List Source) (search : Search) (own : List Exchange) (given : Answer) (before after : Walked) (old new : Traffic)
    → Owns old new own → Makes sources search own given before after → IsStep sources search (step_of given) before after old new
step_made sources search own (answer.Listed targets) before after old new owns makes =
    inl (record { own = own; given = answer.Listed targets; owns = owns; no_offer = tt; makes = makes })
step_made sources search own (answer.Redirected targets) before after old new owns makes =
    inl (record { own = own; given = answer.Redirected targets; owns = owns; no_offer = tt; makes = makes })
step_made sources search own (answer.Offered onboarding evidence) before after old new owns makes =
    record { own = own; owns = owns; makes = makes }
step_made sources search own (answer.Refused found) before after old new owns makes =
    inl (record { own = own; given = answer.Refused found; owns = owns; no_offer = tt; makes = makes })

-- one blames for what is lost alone
abbrev pub BlamesLoss : (Item → Answer → Bool) → Type 0
BlamesLoss blames = (visited : Item) (given : Answer) → is_lost given ≡ false → blames visited given ≡ false

pub file_loss : BlamesLoss is_lost_file
file_loss (item.Folder path) given kept = kept
file_loss (item.File path) given kept = kept
file_loss (item.At target) given kept = refl

pub server_loss : BlamesLoss is_lost_server
server_loss (item.Folder path) given kept = refl
server_loss (item.File path) given kept = refl
server_loss (item.At target) given kept = kept

lead_blame : (given : Answer) → Leads given → is_lost given ≡ false
lead_blame (answer.Listed targets) leads = refl
lead_blame (answer.Redirected targets) leads = refl
lead_blame (answer.Offered onboarding evidence) leads = absurd leads
lead_blame (answer.Refused found) leads = absurd leads

-- the visit is lost to whoever asks whom it blames
abbrev pub blamed : (Item → Answer → Bool) → Item → Result Answer OutOfMemory → Bool
blamed blames visited (Ok given) = blames visited given
blamed blames visited (Err fault) = false

-- memory ran out, for the visit or for its targets
pub record Lacks (visited : Result Answer OutOfMemory) (taken : Step) (before after : Walked) : Type 0 where
  pub step : taken ≡ step.OutOfMemory
  pub same : after ≡ before
  pub blame : (blames : Item → Answer → Bool) → BlamesLoss blames → (item : Item) → blamed blames item visited ≡ false

-- the answer was noted
pub record IsNoted (front : Entry) (visited : Result Answer OutOfMemory) (taken : Step) (before after : Walked) : Type 0 where
  pub given : Answer
  pub answered : visited ≡ Ok given
  pub step : taken ≡ step_of given
  pub settles : Settles front given before after

follows_cases : (front : Entry) (given : Answer) (taken : Step) (before after : Walked) → Follows front given taken before after
    → Lacks (Ok given) taken before after ⊎ IsNoted front (Ok given) taken before after
follows_cases front given (step.Offer onboarding evidence) before after follows =
    inr (record { given = given; answered = refl; step = follows.0; settles = follows.1 })
follows_cases front given step.Passed before after follows =
    inr (record { given = given; answered = refl; step = follows.0; settles = follows.1 })
follows_cases front given step.Done before after follows =
    inr (record { given = given; answered = refl; step = follows.0; settles = follows.1 })
follows_cases front given step.OutOfMemory before after follows =
    inl (record { step = refl; same = follows.0; blame = λ blames loss item. loss item given (lead_blame given follows.1) })

settled_cases : (front : Entry) (visited : Result Answer OutOfMemory) (taken : Step) (before after : Walked) → IsSettled front visited taken before after
    → Lacks visited taken before after ⊎ IsNoted front visited taken before after
settled_cases front (Ok given) taken before after settled = follows_cases front given taken before after settled
settled_cases front (Err fault) taken before after settled =
    inl (record { step = settled.0; same = settled.1; blame = λ blames loss item. refl })

pub settled_step : (sources : List Source) (identity : Identity) (when : Moment) (from : Source) (front : Entry) (visited : Result Answer OutOfMemory)
    (taken : Step) (before turned after : Walked) (files : Option FileMap) (old new : Option Traffic)
    → TakesFront front before turned → visits_of front.source before.visits < most_visits → slice_get sources front.source ≡ Some from
    → IsSettled front visited taken turned after → IfOk visited (λ given. CameTo identity when from front.item files old new given)
    → WhereTold MayAdd old new
    → WhereBothTell files old new (λ told. IsStep sources (search_of identity when told) taken before after)
settled_step sources identity when from front visited taken before turned after files old new takes budget source settled came adds told is =
    let search = search_of identity when told in
    elim (settled_cases front visited taken turned after settled) [
      | inl lacks ↦ told_weaker MayAdd (IsStep sources search taken before after) old new
          (λ x y may. subst (λ (s : Step). IsStep sources search s before after x y) (sym lacks.step) tt) adds
      | inr noted ↦
          let came_to =
          subst (λ (r : Result Answer OutOfMemory). IfOk r (λ given. CameTo identity when from front.item files old new given)) noted.answered came in
          told_weaker (λ x y. (own : List Exchange) × Owns x y own × ComesTo search from front.item own noted.given)
          (IsStep sources search taken before after) old new
          (λ x y owns. subst (λ (s : Step). IsStep sources search s before after x y) (sym noted.step)
          (step_made sources search owns.0 noted.given before after x y owns.1
          (made_of sources search owns.0 from front noted.given before turned after takes budget source owns.2 noted.settles)))
          (came_to told is)
    ]

pub kept_settled : (count : ℕ) (front : Entry) (visited : Result Answer OutOfMemory) (taken : Step) (before turned after : Walked)
    → TakesFront front before turned → visits_of front.source before.visits < most_visits → IsSettled front visited taken turned after
    → IsKept count before → IsKept count after
kept_settled count front visited taken before turned after takes budget settled kept =
    let still = kept_takes count front before turned takes kept in
    elim (settled_cases front visited taken turned after settled) [
      | inl lacks ↦ subst (λ (w : Walked). IsKept count w) (sym lacks.same) still
      | inr noted ↦ kept_settles count front noted.given turned after (front_below count front before turned takes kept)
          (subst (λ (vs : List Visit). visits_of front.source vs < most_visits) (sym takes.visits) budget) noted.settles still
    ]

-- ---- what is noted

-- the walk over these sources
abbrev pub state : List Source → Walked → WalkState
state sources walked = record { sources = sources; walked = walked }

notes_of : (given : Step) (sources : List Source) (before after : Walked) → ((given ≡ step.Done) ↔ (before.entries ≡ []))
    → NotesFor given before.visits after.visits → (HasOffer after ↔ IsTrue (is_offer given)) → IsKept (length sources) after
    → Notes given (state sources before) (state sources after)
notes_of given sources before after done visits offer kept = record {
  sources = refl;
  done = done;
  visits = visits;
  offer = offer;
  few = kept.few;
  within = within (length sources) after kept;
}

no_more : (before after : Walked) → after.visits ≡ before.visits → ¬ HasOffer before → HasOffer after → IsTrue false
no_more before after same none has =
    absurd (none (record { earlier = has.earlier; offer = has.offer; visits = sym same ∙ has.visits; accepted = has.accepted }))

not_accepted : (before after : Walked) (visit : Visit) → after.visits ≡ before.visits ++ visit ∷ [] → visit.note ≢ note.Accepted → HasOffer after → IsTrue false
not_accepted before after visit visits other has =
    absurd (other (ap (λ (v : Visit). v.note) (same_last before.visits has.earlier visit has.offer (sym visits ∙ has.visits)) ∙ has.accepted))

never : {A : Type 0} → IsTrue false → A
never wrong = let b : false ≡ true = wrong in cc

pub notes_over : (sources : List Source) (before after : Walked) → before.entries ≡ [] → after ≡ before → ¬ HasOffer before
    → IsKept (length sources) after → Notes step.Done (state sources before) (state sources after)
notes_over sources before after none same no_offer kept =
    let visits = ap (λ (w : Walked). w.visits) same in
    notes_of step.Done sources before after ((λ _. none), (λ _. refl)) visits ((λ has. no_more before after visits no_offer has), (λ wrong. never wrong)) kept

pub notes_spent : (sources : List Source) (before after : Walked) → Spends before after → IsKept (length sources) after
    → Notes step.Passed (state sources before) (state sources after)
notes_spent sources before after spends kept =
    let visit = visit_of spends.front (note.Refused reason.BudgetSpent) in
    let other : visit.note ≢ note.Accepted = λ same. cc in
    notes_of step.Passed sources before after ((λ same. cc), (λ none. let some = sym none ∙ spends.entries in cc)) (visit, spends.visits_after)
    ((λ has. not_accepted before after visit spends.visits_after other has), (λ wrong. never wrong)) kept

pub notes_lacking : (sources : List Source) (front : Entry) (before after : Walked) → TakesFront front before after → ¬ HasOffer before
    → IsKept (length sources) after → Notes step.OutOfMemory (state sources before) (state sources after)
notes_lacking sources front before after takes no_offer kept =
    notes_of step.OutOfMemory sources before after ((λ same. cc), (λ none. let some = sym none ∙ takes.entries in cc)) takes.visits
    ((λ has. no_more before after takes.visits no_offer has), (λ wrong. never wrong)) kept

redirect_noted : (b : Bool) (count : ℕ) → (if b then note.Redirected count else note.Refused reason.Depth) ≢ note.Accepted
redirect_noted true count same = cc
redirect_noted false count same = cc

notes_passed : (sources : List Source) (front : Entry) (noted : Note) (before taken after : Walked) → TakesFront front before taken → noted ≢ note.Accepted
    → after.visits ≡ before.visits ++ visit_of front noted ∷ [] → IsKept (length sources) after
    → Notes step.Passed (state sources before) (state sources after)
notes_passed sources front noted before taken after takes other visits kept =
    notes_of step.Passed sources before after ((λ same. cc), (λ none. let some = sym none ∙ takes.entries in cc)) (visit_of front noted, visits)
    ((λ has. not_accepted before after (visit_of front noted) visits other has), (λ wrong. never wrong)) kept

notes_made : (sources : List Source) (front : Entry) (given : Answer) (before taken after : Walked) → TakesFront front before taken
    → after.visits ≡ before.visits ++ visit_of front (note_of front given) ∷ [] → IsKept (length sources) after
    → Notes (step_of given) (state sources before) (state sources after)
notes_made sources front (answer.Listed targets) before taken after takes visits kept =
    notes_passed sources front (note.Listed (count_of targets)) before taken after takes (λ same. cc) visits kept
notes_made sources front (answer.Redirected targets) before taken after takes visits kept =
    notes_passed sources front (note_of front (answer.Redirected targets)) before taken after takes
    (redirect_noted (nat_lt front.depth most_depth) (count_of targets)) visits kept
notes_made sources front (answer.Offered onboarding evidence) before taken after takes visits kept =
    notes_of (step.Offer onboarding evidence) sources before after ((λ same. cc), (λ none. let some = sym none ∙ takes.entries in cc))
    (visit_of front note.Accepted, visits)
    ((λ has. refl), (λ is. record { earlier = before.visits; offer = visit_of front note.Accepted; visits = visits; accepted = refl })) kept
notes_made sources front (answer.Refused found) before taken after takes visits kept =
    notes_passed sources front (note.Refused found) before taken after takes (λ same. cc) visits kept

pub visits_made : (front : Entry) (given : Answer) (before taken after : Walked) → TakesFront front before taken → Settles front given taken after
    → after.visits ≡ before.visits ++ visit_of front (note_of front given) ∷ []
visits_made front given before taken after takes settles =
    settles.visits ∙ ap (λ (vs : List Visit). vs ++ visit_of front (note_of front given) ∷ []) takes.visits

pub notes_settled : (sources : List Source) (front : Entry) (visited : Result Answer OutOfMemory) (taken : Step) (before turned after : Walked)
    → TakesFront front before turned → ¬ HasOffer before → IsSettled front visited taken turned after → IsKept (length sources) after
    → Notes taken (state sources before) (state sources after)
notes_settled sources front visited taken before turned after takes no_offer settled kept =
    elim (settled_cases front visited taken turned after settled) [
      | inl lacks ↦ subst (λ (s : Step). Notes s (state sources before) (state sources after)) (sym lacks.step)
          (subst (λ (w : Walked). Notes step.OutOfMemory (state sources before) (state sources w)) (sym lacks.same)
          (notes_lacking sources front before turned takes no_offer (subst (λ (w : Walked). IsKept (length sources) w) lacks.same kept)))
      | inr noted ↦ subst (λ (s : Step). Notes s (state sources before) (state sources after)) (sym noted.step)
          (notes_made sources front noted.given before turned after takes (visits_made front noted.given before turned after takes noted.settles) kept)
    ]

-- ---- whom that blames

or_false : (b : Bool) → (b || false) ≡ b
or_false true = refl
or_false false = refl

notes_one : (test : Visit → Bool) (before after : Walked) (visit : Visit) → after.visits ≡ before.visits ++ visit ∷ []
    → notes_some test before after ≡ test visit
notes_one test before after visit visits =
    ap (λ (vs : List Visit). list_any test (drop (length before.visits) vs)) visits
    ∙ ap (λ (vs : List Visit). list_any test vs) (drop_at before.visits (visit ∷ []) (length before.visits) refl) ∙ or_false (test visit)

notes_none : (test : Visit → Bool) (before after : Walked) → after.visits ≡ before.visits → notes_some test before after ≡ false
notes_none test before after visits =
    ap (λ (vs : List Visit). list_any test (drop (length before.visits) vs)) (visits ∙ sym (append-nil before.visits))
    ∙ ap (λ (vs : List Visit). list_any test vs) (drop_at before.visits [] (length before.visits) refl)

redirect_blame : (blames : Item → Answer → Bool) → BlamesLoss blames → (visited : Item) (b : Bool) (count : ℕ)
    → note_blames blames visited (if b then note.Redirected count else note.Refused reason.Depth) ≡ false
redirect_blame blames loss visited true count = refl
redirect_blame blames loss visited false count = loss visited (answer.Refused reason.Depth) refl

same_blame : (blames : Item → Answer → Bool) → BlamesLoss blames → (front : Entry) (given : Answer)
    → note_blames blames front.item (note_of front given) ≡ blames front.item given
same_blame blames loss front (answer.Listed targets) = sym (loss front.item (answer.Listed targets) refl)
same_blame blames loss front (answer.Redirected targets) =
    redirect_blame blames loss front.item (nat_lt front.depth most_depth) (count_of targets) ∙ sym (loss front.item (answer.Redirected targets) refl)
same_blame blames loss front (answer.Offered onboarding evidence) = sym (loss front.item (answer.Offered onboarding evidence) refl)
same_blame blames loss front (answer.Refused found) = refl

abbrev pub noted_blames : (Item → Answer → Bool) → Visit → Bool
noted_blames blames visit = note_blames blames visit.item visit.note

blame_settled : (blames : Item → Answer → Bool) → BlamesLoss blames → (front : Entry) (visited : Result Answer OutOfMemory) (taken : Step)
    (before turned after : Walked) → TakesFront front before turned → IsSettled front visited taken turned after
    → blamed blames front.item visited ≡ notes_some (noted_blames blames) before after
blame_settled blames loss front visited taken before turned after takes settled =
    elim (settled_cases front visited taken turned after settled) [
      | inl lacks ↦ lacks.blame blames loss front.item
          ∙ sym (notes_none (noted_blames blames) before after (ap (λ (w : Walked). w.visits) lacks.same ∙ takes.visits))
      | inr noted ↦ ap (λ (r : Result Answer OutOfMemory). blamed blames front.item r) noted.answered
          ∙ sym (notes_one (noted_blames blames) before after (visit_of front (note_of front noted.given))
          (visits_made front noted.given before turned after takes noted.settles)
          ∙ same_blame blames loss front noted.given)
    ]

folder_blamed : (item : Item) (visited : Result Answer OutOfMemory) → blames_folder item visited ≡ blamed is_lost_file item visited
folder_blamed item (Ok given) = refl
folder_blamed item (Err fault) = refl

net_blamed : (item : Item) (visited : Result Answer OutOfMemory) → blames_net item visited ≡ blamed is_lost_server item visited
net_blamed item (Ok given) = refl
net_blamed item (Err fault) = refl

pub folder_cause : (x y : ℕ) (front : Entry) (visited : Result Answer OutOfMemory) (taken : Step) (before turned after : Walked)
    → TakesFront front before turned → IsSettled front visited taken turned after → HasCause x y (blames_folder front.item visited)
    → HasCause x y (notes_some was_lost_file before after)
folder_cause x y front visited taken before turned after takes settled cause =
    subst (λ (b : Bool). HasCause x y b)
    (folder_blamed front.item visited ∙ blame_settled is_lost_file file_loss front visited taken before turned after takes settled) cause

pub net_cause : (x y : ℕ) (front : Entry) (visited : Result Answer OutOfMemory) (taken : Step) (before turned after : Walked)
    → TakesFront front before turned → IsSettled front visited taken turned after → HasCause x y (blames_net front.item visited)
    → HasCause x y (notes_some was_lost_server before after)
net_cause x y front visited taken before turned after takes settled cause =
    subst (λ (b : Bool). HasCause x y b)
    (net_blamed front.item visited ∙ blame_settled is_lost_server server_loss front visited taken before turned after takes settled) cause

pub cause_lacking : (test : Visit → Bool) (x y : ℕ) (before after : Walked) → after.visits ≡ before.visits → HasCause x y false
    → HasCause x y (notes_some test before after)
cause_lacking test x y before after visits cause = subst (λ (b : Bool). HasCause x y b) (sym (notes_none test before after visits)) cause

no_cause : (x : ℕ) → HasCause x x false
no_cause x = record { never_falls = omega arith; rose = λ wrong. never wrong; stood = λ _. refl }

pub cause_over : (test : Visit → Bool) (x : ℕ) (before after : Walked) → after.visits ≡ before.visits → HasCause x x (notes_some test before after)
cause_over test x before after visits = cause_lacking test x x before after visits (no_cause x)

pub cause_spent : (blames : Item → Answer → Bool) → BlamesLoss blames → (x : ℕ) (before after : Walked) → Spends before after
    → HasCause x x (notes_some (noted_blames blames) before after)
cause_spent blames loss x before after spends =
    subst (λ (b : Bool). HasCause x x b)
    (sym (notes_one (noted_blames blames) before after (visit_of spends.front (note.Refused reason.BudgetSpent)) spends.visits_after
    ∙ loss spends.front.item (answer.Refused reason.BudgetSpent) refl))
    (no_cause x)

-- ---- an offer that is turned down

pub turned_down_at : (found : Reason) (before after : Walked) (at : ℕ) (offer : Visit) → HasOffer before → at ≡ length before.visits - 1
    → offer ≡ get_or before.visits at offer → after.entries ≡ before.entries
    → after.visits ≡ set before.visits at (record offer { note = note.Refused found }) → TurnsDown found before after
turned_down_at found before after at offer has last is entries visits =
    let seam : at ≡ length has.earlier =
    last ∙ ap (λ (vs : List Visit). length vs - 1) has.visits ∙ omega (arith, length-append has.earlier (has.offer ∷ [])) in
    let same : offer ≡ has.offer =
    is ∙ ap (λ (vs : List Visit). get_or vs at offer) has.visits ∙ ap (λ (n : ℕ). get_or (has.earlier ++ has.offer ∷ []) n offer) seam
    ∙ get_or-append_seam has.earlier has.offer [] offer in
    record {
      earlier = has.earlier;
      offer = offer;
      visits = has.visits ∙ ap (λ (v : Visit). has.earlier ++ v ∷ []) (sym same);
      accepted = ap (λ (v : Visit). v.note) same ∙ has.accepted;
      entries_after = entries;
      visits_after = visits ∙ ap (λ (vs : List Visit). set vs at (record offer { note = note.Refused found })) has.visits
          ∙ ap (λ (n : ℕ). set (has.earlier ++ has.offer ∷ []) n (record offer { note = note.Refused found })) seam
          ∙ set-append_seam has.earlier has.offer [] (record offer { note = note.Refused found });
    }

pub nothing_offered : (sources : List Source) → ¬ HasOffer (first_walked sources)
nothing_offered sources has = omega (arith, ap length has.visits, length-append has.earlier (has.offer ∷ []))

pub turned_down : (found : Reason) (before after : Walked) → TurnsDown found before after → ¬ HasOffer after
turned_down found before after turned has =
    let refused = record turned.offer { note = note.Refused found } in
    let same : note.Refused found ≡ note.Accepted =
    ap (λ (v : Visit). v.note) (same_last turned.earlier has.earlier refused has.offer (sym turned.visits_after ∙ has.visits)) ∙ has.accepted in
    cc
