-- The counts of folder and network over the turns of a walk.
use Rattle.std.proofs.Common.{◌≡◌, ◌≢◌, ℕ, ◌+◌, ◌||◌, Bool, true, false, cond, List, [], ◌∷◌, ◌++◌, length, drop, refl, sym, ap, subst, ◌∙◌, arith}
use Rattle.std.proofs.Math.Seq.{drop-append_seam}
use Rattle.std.specs.Prelude.{count_by}
use Rattle.std.specs.List.{list_any}
use Rattle.std.proofs.lemmas.List.Sums.{sum_by-cons}
use Rattle.sz_spec.specs.Cause.{HasCause, Rose, RoseBy}
use Rattle.sz_evidence.specs.declared.reason.Reason.{Reason}
use Rattle.sz_evidence.specs.declared.reason.Reason.TheVariants as reason
use Rattle.sz_source.specs.declared.item.Item.{Item}
use Rattle.sz_source.specs.declared.item.Item.TheVariants as item
use Rattle.sz_answer.specs.Visit.{is_lost, is_lost_file, is_lost_server}
use Rattle.sz_answer.specs.declared.answer.Answer.TheVariants as answer
use Rattle.sz_walk.specs.Visits.{note_blames, TurnsDown, Walked, was_lost_file, was_lost_server}
use Rattle.sz_walk.specs.Walk.{notes_some}
use Rattle.sz_walk.specs.declared.visit.Note.{Note}
use Rattle.sz_walk.specs.declared.visit.Note.TheVariants as note
use Rattle.sz_walk.specs.declared.visit.Visit.{Visit}
use Rattle.sz_agent.specs.Lost.{Counts, CountsLost, counts_of}

-- ---- one count

-- so many times, and then once more where something failed
rose_more : (first before now times : ℕ) (failed : Bool) → RoseBy first before times → HasCause before now failed
    → RoseBy first now (times + cond failed 1 0)
rose_more first before now times true by cause =
    let rose : Rose before now = cause.rose refl in omega (arith, by, rose)
rose_more first before now times false by cause =
    let stood : now ≡ before = cause.stood refl in omega (arith, by, stood)

-- so many times, and then kept
rose_kept : (first before now times : ℕ) → RoseBy first before times → RoseBy before now 0 → RoseBy first now times
rose_kept first before now times by kept = omega (arith, by, kept)

stood_more : (first before now times : ℕ) (failed : Bool) → (times ≡ 0 → before ≡ first) → HasCause before now failed
    → times + cond failed 1 0 ≡ 0 → now ≡ first
stood_more first before now times true stood cause none = absurd (omega (arith, none))
stood_more first before now times false stood cause none =
    cause.stood refl ∙ stood (let zero : times ≡ 0 = omega (arith, none) in zero)

-- ---- one visit more

count_push : (test : Visit → Bool) (visits : List Visit) (visit : Visit)
    → count_by test (visits ++ visit ∷ []) ≡ count_by test visits + cond (test visit) 1 0
count_push test [] visit = refl
count_push test (first ∷ visits) visit =
    omega (
      arith,
      sum_by-cons (λ (v : Visit). cond (test v) 1 0) first visits,
      sum_by-cons (λ (v : Visit). cond (test v) 1 0) first (visits ++ visit ∷ []),
      count_push test visits visit,
    )

or_false : (test : Bool) → (test || false) ≡ test
or_false true = refl
or_false false = refl

-- a call that noted one visit blames as that visit does
noted_one : (test : Visit → Bool) (before after : Walked) (visit : Visit) → after.visits ≡ before.visits ++ visit ∷ []
    → notes_some test before after ≡ test visit
noted_one test before after visit is =
    ap (λ (vs : List Visit). list_any test (drop (length before.visits) vs)) is
    ∙ ap (λ (vs : List Visit). list_any test vs) (drop-append_seam before.visits (visit ∷ [])) ∙ or_false (test visit)

-- nothing was lost before the first visit
pub lost_none : (counts : Counts) → CountsLost counts counts []
lost_none counts = record { files = omega arith; files_stood = λ none. refl; servers = omega arith }

-- a visit more, which may have been lost
pub lost_visit : (first : Counts) (folder_before folder_now net_before net_now : ℕ) (visits : List Visit) (visit : Visit)
    → CountsLost first (counts_of folder_before net_before) visits
    → HasCause folder_before folder_now (was_lost_file visit) → HasCause net_before net_now (was_lost_server visit)
    → CountsLost first (counts_of folder_now net_now) (visits ++ visit ∷ [])
lost_visit first folder_before folder_now net_before net_now visits visit lost folder net =
    let files = rose_more first.folder folder_before folder_now (count_by was_lost_file visits) (was_lost_file visit)
    lost.files folder in
    let servers = rose_more first.net net_before net_now (count_by was_lost_server visits) (was_lost_server visit)
    lost.servers net in
    record {
      files = rw (count_push was_lost_file visits visit) files;
      files_stood = λ none. stood_more first.folder folder_before folder_now (count_by was_lost_file visits)
          (was_lost_file visit) lost.files_stood folder
          (let more = count_push was_lost_file visits visit in omega (arith, more, none));
      servers = rw (count_push was_lost_server visits visit) servers;
    }

-- the trial of an offer
pub lost_kept : (first : Counts) (folder net_before net_now : ℕ) (visits : List Visit)
    → CountsLost first (counts_of folder net_before) visits → RoseBy net_before net_now 0
    → CountsLost first (counts_of folder net_now) visits
lost_kept first folder net_before net_now visits lost kept = record {
  files = lost.files;
  files_stood = lost.files_stood;
  servers = rose_kept first.net net_before net_now (count_by was_lost_server visits) lost.servers kept;
}

-- what is noted of the last visit changes, and it is lost by neither note
pub lost_noted : (before now : Counts) (visits : List Visit) (offer refused : Visit) → was_lost_file offer ≡ false
    → was_lost_server offer ≡ false → was_lost_file refused ≡ false → was_lost_server refused ≡ false
    → CountsLost before now (visits ++ offer ∷ []) → CountsLost before now (visits ++ refused ∷ [])
lost_noted before now visits offer refused file server file_after server_after lost =
    let files : count_by was_lost_file (visits ++ refused ∷ []) ≡ count_by was_lost_file (visits ++ offer ∷ []) =
    count_push was_lost_file visits refused
    ∙ ap (λ (b : Bool). count_by was_lost_file visits + cond b 1 0) (file_after ∙ sym file)
    ∙ sym (count_push was_lost_file visits offer) in
    let servers : count_by was_lost_server (visits ++ refused ∷ []) ≡ count_by was_lost_server (visits ++ offer ∷ []) =
    count_push was_lost_server visits refused
    ∙ ap (λ (b : Bool). count_by was_lost_server visits + cond b 1 0) (server_after ∙ sym server)
    ∙ sym (count_push was_lost_server visits offer) in
    record {
      files = subst (λ (n : ℕ). RoseBy before.folder now.folder n) (sym files) lost.files;
      files_stood = λ none. lost.files_stood (sym files ∙ none);
      servers = subst (λ (n : ℕ). RoseBy before.net now.net n) (sym servers) lost.servers;
    }

-- a call that noted one visit
pub lost_turn : (first : Counts) (folder_before folder_now net_before net_now : ℕ) (before after : Walked) (visit : Visit)
    → after.visits ≡ before.visits ++ visit ∷ []
    → HasCause folder_before folder_now (notes_some was_lost_file before after)
    → HasCause net_before net_now (notes_some was_lost_server before after)
    → CountsLost first (counts_of folder_before net_before) before.visits
    → CountsLost first (counts_of folder_now net_now) after.visits
lost_turn first folder_before folder_now net_before net_now before after visit is folder net lost =
    subst (λ (vs : List Visit). CountsLost first (counts_of folder_now net_now) vs) (sym is)
    (lost_visit first folder_before folder_now net_before net_now before.visits visit lost
    (subst (λ (b : Bool). HasCause folder_before folder_now b) (noted_one was_lost_file before after visit is) folder)
    (subst (λ (b : Bool). HasCause net_before net_now b) (noted_one was_lost_server before after visit is) net))

-- ---- whom a note blames

refused_not_lost : (found : Reason) → found ≢ reason.Lost → is_lost (answer.Refused found) ≡ false
refused_not_lost reason.Lost other = absurd (other refl)
refused_not_lost _ other = refl

file_by : (visited : Item) (found : Reason) → is_lost (answer.Refused found) ≡ false
    → note_blames is_lost_file visited (note.Refused found) ≡ false
file_by (item.At target) found kept = refl
file_by (item.Folder path) found kept = kept
file_by (item.File path) found kept = kept

server_by : (visited : Item) (found : Reason) → is_lost (answer.Refused found) ≡ false
    → note_blames is_lost_server visited (note.Refused found) ≡ false
server_by (item.At target) found kept = kept
server_by (item.Folder path) found kept = refl
server_by (item.File path) found kept = refl

-- an offer that is turned down for another reason is no lost visit
pub refused_blames_none : (visited : Item) (found : Reason) → found ≢ reason.Lost
    → (note_blames is_lost_file visited (note.Refused found) ≡ false)
    × (note_blames is_lost_server visited (note.Refused found) ≡ false)
refused_blames_none visited found other =
    let kept = refused_not_lost found other in (file_by visited found kept, server_by visited found kept)

-- the last visit is turned down
pub lost_refused : (first now : Counts) (found : Reason) (offered after : Walked) → TurnsDown found offered after
    → found ≢ reason.Lost → CountsLost first now offered.visits → CountsLost first now after.visits
lost_refused first now found offered after turns other lost =
    let none = refused_blames_none turns.offer.item found other in
    subst (λ (vs : List Visit). CountsLost first now vs) (sym turns.visits_after)
    (lost_noted first now turns.earlier turns.offer (record turns.offer { note = note.Refused found })
    (ap (λ (n : Note). note_blames is_lost_file turns.offer.item n) turns.accepted)
    (ap (λ (n : Note). note_blames is_lost_server turns.offer.item n) turns.accepted) none.0 none.1
    (subst (λ (vs : List Visit). CountsLost first now vs) turns.visits lost))
