-- What the answers on a piece say.
use Rattle.std.proofs.Common.{◌≡◌, ◌⊎◌, ℕ, ◌+◌, ◌≤◌, Bool, true, false, List, [], ◌++◌, length, take, drop, take_all, refl, sym, ap, ◌∙◌, subst, arith, append_assoc, append-nil, length-append, length-take, take-append-drop, inl, inr, Option, Some, None, IfSome, IfNone, Result, Ok, Err}
use Rattle.std.proofs.lemmas.Bool.{cases_Bool, false≢true}
use Rattle.std.proofs.Math.Seq.{take-append_seam}
use Rattle.sz_http.proofs.ChunkParts.{nothing_part}
use Rattle.sz_http.specs.declared.head_reading.HeadReading.{HeadReading}
use Rattle.sz_http.specs.declared.head.Head.{Head}
use Rattle.sz_http.specs.declared.kind.Kind.{Kind}
use Rattle.sz_http.specs.declared.kind.Kind.TheVariants.{Request as RequestKind, Reply as ReplyKind}
use Rattle.sz_http.specs.declared.head_place.Place.TheVariants.{EmptyLines}
use Rattle.sz_http.specs.declared.progress.Progress.{Progress}
use Rattle.sz_http.specs.declared.progress.Progress.TheVariants.{More, Whole as WholeHead}
use Rattle.sz_http.specs.Head.{IsHead, HasNoHead, IsUnfinished, NeverHasHead}
use Rattle.sz_http.specs.Parts.{Parts, HasParts, parts_of}
use Rattle.sz_http.specs.HeadReading.{Answers as AnswersHead, Takes as TakesHead}
use Rattle.sz_http.proofs.Stands.{reply_stands, request_stands, unfinished_open}
use Rattle.sz_http.specs.declared.framing.Framing.{Framing}
use Rattle.sz_http.specs.declared.framing.Framing.TheVariants.{Length, Chunks, UntilEnd as ToTheEnd}
use Rattle.sz_http.specs.declared.framing.FramingFault.{FramingFault}
use Rattle.sz_http.specs.declared.side.Side.{Side}
use Rattle.sz_http.specs.declared.side.Side.TheVariants.{Request, Reply}
use Rattle.sz_http.specs.declared.fault.HttpFault.{HttpFault}
use Rattle.sz_http.specs.declared.fault.HttpFault.TheVariants.{BadHead}
use Rattle.sz_http.specs.declared.fed.Fed.{Fed}
use Rattle.sz_http.specs.declared.reading.Reading.{Reading}
use Rattle.sz_http.specs.declared.reading.Stage.{Stage}
use Rattle.sz_http.specs.declared.reading.Stage.TheVariants.{InHead, Counted, Chunked, UntilEnd, Done, Failed}
use Rattle.sz_http.specs.Message.{kind_of, BeginsWith, IsFramed, IsBody, IsBodyOf, HasBody}
use Rattle.sz_http.specs.Reading.{HasTakenHead, Stands, Takes, Took, Refuses, Enters}
use Rattle.sz_http.specs.Verdict.{needs_more, done_with, Verdict, IsRefused}
use Rattle.sz_http.proofs.Steps.{IsGoing, more_of, done_of, IsKept, takes_framed}

-- ---- the body so far

-- before the first byte of a body
pub body_first : (side : Side) (limit : ℕ) (text : List ℕ) (framing : Framing) (head : Parts) → IsFramed side limit text (Ok framing) head []
    → HasBody side limit text []
body_first side limit text (Length n) head framed = inr (Length n, head, [], framed, sym (take_all n [] (omega arith)))
body_first side limit text Chunks head framed = inr (Chunks, head, [], framed, inl nothing_part)
body_first side limit text ToTheEnd head framed = inr (ToTheEnd, head, [], framed, refl)

-- a body and the bytes behind it
body_whole : (framing : Framing) (limit : ℕ) (ended : Bool) (after body rest : List ℕ) → IsBody framing limit ended after body rest
    → IsBodyOf framing after body
body_whole (Length n) limit ended after body rest is =
    sym (take-append_seam body rest) ∙ ap (λ (k : ℕ). take k (body ++ rest)) is.1 ∙ ap (λ (t : List ℕ). take n t) (sym is.0)
body_whole Chunks limit ended after body rest is = inr (rest, is.0)
body_whole ToTheEnd limit ended after body rest is = sym is.1

-- what has come of the body, where the message isn't refused
pub body_so_far : (stage : Stage) (reading : Reading) (side : Side) (limit : ℕ) (bytes body : List ℕ) → ((fault : HttpFault) → stage ≡ Failed fault → ⊥)
    → Stands stage reading side limit bytes false body → HasBody side limit bytes body
body_so_far InHead reading side limit bytes body going stands = inl (stands.2.none, stands.3)
body_so_far (Counted left) reading side limit bytes body going stands =
    inr (Length (length body + left), stands.2.0, body, stands.2.1, sym (take_all (length body + left) body (omega arith)))
body_so_far Chunked reading side limit bytes body going stands = inr (Chunks, stands.1.0, stands.1.1, stands.1.2, inl stands.1.4)
body_so_far (UntilEnd room) reading side limit bytes body going stands = inr (ToTheEnd, stands.2.0, body, stands.2.1, refl)
body_so_far Done reading side limit bytes body going stands =
    let message = stands.1 in
    inr (message.framing, stands.0, message.after, message.framed, body_whole message.framing limit false message.after body message.rest message.is_body)
body_so_far (Failed fault) reading side limit bytes body going stands = absurd (going fault refl)

going_unfailed : (stage : Stage) → IsGoing stage → (fault : HttpFault) → stage ≡ Failed fault → ⊥
going_unfailed stage going fault is = subst IsGoing is going

-- ---- the answers

-- a front of a piece was taken
pub took_some : (side : Side) (limit : ℕ) (before body piece : List ℕ) (new : Reading) (fed : Fed) → fed.used ≤ length piece
    → Takes new side limit (before ++ take fed.used piece) false (body ++ fed.body.now) → (fed.done ≡ true → new.stage ≡ Done)
    → (fed.done ≡ false → IsGoing new.stage) → (fed.used ≡ 0 → (length piece ≡ 0) ⊎ (fed.done ≡ true))
    → Took side limit before body piece new fed
took_some side limit before body piece new fed within taken whole going moves =
    let bytes = before ++ take fed.used piece in
    let long : length bytes ≡ length before + fed.used = omega (arith, length-append before (take fed.used piece), length-take fed.used piece) in
    record {
      within = within;
      taken = taken;
      body_is = body_so_far new.stage new side limit bytes (body ++ fed.body.now) (unfailed (cases_Bool fed.done)) taken.stands;
      done = λ e.
          let is = done_of new.stage new side limit bytes (body ++ fed.body.now) false (whole e) taken.stands in
          (is.0, subst (λ (n : ℕ). Verdict side limit bytes false (done_with is.0 (body ++ fed.body.now) n)) long is.1);
      more = λ e. more_of new.stage new side limit bytes (body ++ fed.body.now) (going e) taken.stands;
      moves = moves;
    }
  where
    unfailed : (fed.done ≡ true) ⊎ (fed.done ≡ false) → (fault : HttpFault) → new.stage ≡ Failed fault → ⊥
    unfailed (inl e) fault is = let same = whole e in cc
    unfailed (inr e) fault is = going_unfailed new.stage (going e) fault is

-- nothing was taken, since the message is whole
pub took_done : (side : Side) (limit : ℕ) (before body piece : List ℕ) (reading : Reading) (fed : Fed) → reading.stage ≡ Done
    → Takes reading side limit before false body → fed.used ≡ 0 → fed.body.now ≡ [] → fed.done ≡ true
    → Took side limit before body piece reading fed
took_done side limit before body piece reading fed is takes used empty done =
    let bare : body ++ fed.body.now ≡ body = ap (λ (t : List ℕ). body ++ t) empty ∙ append-nil body in
    took_some side limit before body piece reading fed (omega (arith, used))
    (subst (λ (n : ℕ). Takes reading side limit (before ++ take n piece) false (body ++ fed.body.now)) (sym used)
    (subst (λ (t : List ℕ). Takes reading side limit t false (body ++ fed.body.now)) (sym (append-nil before))
    (subst (λ (t : List ℕ). Takes reading side limit before false t) (sym bare) takes)))
    (λ e. is) (λ e. absurd (false≢true (sym e ∙ done))) (λ none. inr done)

-- the whole piece was taken, and more is needed
pub took_all : (side : Side) (limit : ℕ) (before body piece : List ℕ) (new : Reading) (fed : Fed) → fed.used ≡ length piece → fed.done ≡ false
    → IsGoing new.stage → Takes new side limit (before ++ piece) false (body ++ fed.body.now) → Took side limit before body piece new fed
took_all side limit before body piece new fed used more going taken =
    let same : take fed.used piece ≡ piece = take_all fed.used piece (omega (arith, used)) in
    took_some side limit before body piece new fed (omega (arith, used))
    (subst (λ (t : List ℕ). Takes new side limit (before ++ t) false (body ++ fed.body.now)) (sym same) taken)
    (λ e. absurd (false≢true (sym more ∙ e))) (λ e. going) (λ none. inl (omega (arith, used)))

pub refuses_framed : (old new : Reading) (side : Side) (limit : ℕ) (bytes piece body : List ℕ) (framing : Result Framing FramingFault) (head : Parts)
    (after : List ℕ) (fault result : HttpFault) → IsKept old new → new.stage ≡ Failed fault → result ≡ fault → Takes old side limit bytes false body
    → IsFramed side limit bytes framing head after → IsRefused side limit (bytes ++ piece) false fault
    → Refuses side limit (bytes ++ piece) false body new result
refuses_framed old new side limit bytes piece body framing head after fault result kept is e takes framed refusal = record {
  taken = takes_framed old new side limit bytes piece body body framing head after kept takes framed
      (subst (λ (s : Stage). Stands s new side limit (bytes ++ piece) false body) (sym is) refusal);
  verdict = subst (λ (f : HttpFault). IsRefused side limit (bytes ++ piece) false f) (sym e) refusal;
}

-- ---- the head

unfinished_first : (side : Side) → IsUnfinished (kind_of side) []
unfinished_first Request = unfinished_open RequestKind [] EmptyLines request_stands refl
unfinished_first Reply = unfinished_open ReplyKind [] EmptyLines reply_stands refl

-- in the head
takes_in_head : (reading : Reading) (side : Side) (limit : ℕ) (bytes body : List ℕ) → reading.side ≡ side → reading.limit ≡ limit
    → reading.stage ≡ InHead → TakesHead reading.head (kind_of side) bytes → IsUnfinished (kind_of side) bytes → body ≡ []
    → Takes reading side limit bytes false body
takes_in_head reading side limit bytes body sided limited is taken unfinished none = record {
  sided = sided;
  limited = limited;
  head = record { text = bytes; after = []; bytes_are = sym (append-nil bytes); taken = taken; end = inr unfinished.none };
  stands = subst (λ (s : Stage). Stands s reading side limit bytes false body) (sym is) (refl, taken, unfinished, none);
}

-- before the first byte
pub takes_first : (reading : Reading) (side : Side) (limit : ℕ) → reading.side ≡ side → reading.limit ≡ limit → reading.stage ≡ InHead
    → TakesHead reading.head (kind_of side) [] → Takes reading side limit [] false []
takes_first reading side limit sided limited is taken = takes_in_head reading side limit [] [] sided limited is taken (unfinished_first side) refl

-- a piece in the head
pub took_in_head : (side : Side) (limit : ℕ) (before body piece : List ℕ) (answer : Progress) (new : Reading) (fed : Fed) → new.side ≡ side
    → new.limit ≡ limit → new.stage ≡ InHead → body ≡ [] → fed.used ≡ length piece → fed.done ≡ false → fed.body.now ≡ [] → answer ≡ More
    → AnswersHead (Ok answer) (kind_of side) before piece new.head → Took side limit before body piece new fed
took_in_head side limit before body piece answer new fed sided limited is none used more empty e answers =
    let here = subst (λ (a : Progress). AnswersHead (Ok a) (kind_of side) before piece new.head) e answers in
    took_all side limit before body piece new fed used more (subst IsGoing (sym is) tt)
    (takes_in_head new side limit (before ++ piece) (body ++ fed.body.now) sided limited is here.taken here.unfinished
    (ap (λ (t : List ℕ). t ++ fed.body.now) none ∙ empty))

entered : (done : Bool) (side : Side) (limit : ℕ) (text : List ℕ) (reading : Reading) → Enters (Ok done) side limit text reading
    → Takes reading side limit text false [] × (done ≡ true → (head : Parts) × Verdict side limit text false (done_with head [] (length text)))
    × (done ≡ false → Verdict side limit text false needs_more)
entered true side limit text reading enters = (enters.0, λ e. enters.1, λ e. absurd (false≢true (sym e)))
entered false side limit text reading enters = (enters.0, λ e. absurd (false≢true e), λ e. enters.1)

some_taken : (kind : Kind) (before piece : List ℕ) (used : ℕ) → HasNoHead kind before → IsHead kind (before ++ take used piece) → used ≡ 0 → ⊥
some_taken kind before piece used none head is =
    let empty : take used piece ≡ [] = subst (λ (n : ℕ). take n piece ≡ []) (sym is) refl in
    none [] (subst (λ (t : List ℕ). IsHead kind t) (append-nil before)
    (subst (λ (t : List ℕ). IsHead kind (before ++ t)) empty head))

-- the end of the head
pub took_head : (side : Side) (limit most used : ℕ) (before body piece : List ℕ) (answer : Progress) (head : HeadReading) (new : Reading) (fed : Fed)
    → most ≡ limit → body ≡ [] → HasNoHead (kind_of side) before → answer ≡ WholeHead used → fed.used ≡ used → fed.body.now ≡ []
    → AnswersHead (Ok answer) (kind_of side) before piece head
    → (TakesHead head (kind_of side) (before ++ take used piece) → IsHead (kind_of side) (before ++ take used piece)
    → Enters (Ok fed.done) side most (before ++ take used piece) new)
    → (TakesHead head (kind_of side) (before ++ take used piece) → IsHead (kind_of side) (before ++ take used piece)
    → HasBody side most (before ++ take used piece) [])
    → Took side limit before body piece new fed
took_head side limit most used before body piece answer head new fed em none unheard e eu empty answers enters starts =
    let here = subst (λ (a : Progress). AnswersHead (Ok a) (kind_of side) before piece head) e answers in
    let text = before ++ take used piece in
    let entry = subst (λ (n : ℕ). Enters (Ok fed.done) side n text new) em (enters here.taken here.head) in
    let cases = entered fed.done side limit text new entry in
    let bare : body ++ fed.body.now ≡ [] = ap (λ (t : List ℕ). t ++ fed.body.now) none ∙ empty in
    let long : length text ≡ length before + used = omega (arith, here.within, length-append before (take used piece), length-take used piece) in
    record {
      within = omega (arith, here.within, eu);
      taken = subst (λ (n : ℕ). Takes new side limit (before ++ take n piece) false (body ++ fed.body.now)) (sym eu)
          (subst (λ (t : List ℕ). Takes new side limit text false t) (sym bare) cases.0);
      body_is = subst (λ (n : ℕ). HasBody side limit (before ++ take n piece) (body ++ fed.body.now)) (sym eu)
          (subst (λ (t : List ℕ). HasBody side limit text t) (sym bare)
          (subst (λ (n : ℕ). HasBody side n text []) em (starts here.taken here.head)));
      done = λ whole.
          let is = cases.1 whole in (
            is.0,
            subst (λ (n : ℕ). Verdict side limit (before ++ take n piece) false (done_with is.0 (body ++ fed.body.now) (length before + n))) (sym eu)
                (subst (λ (t : List ℕ). Verdict side limit text false (done_with is.0 t (length before + used))) (sym bare)
                (subst (λ (n : ℕ). Verdict side limit text false (done_with is.0 [] n)) long is.1)),
          );
      more = λ going. subst (λ (n : ℕ). Verdict side limit (before ++ take n piece) false needs_more) (sym eu) (cases.2 going);
      moves = λ still. absurd (some_taken (kind_of side) before piece used unheard here.head (sym eu ∙ still));
    }

-- a head that is refused for its fields
pub refuses_head : (side : Side) (limit most used : ℕ) (before body piece : List ℕ) (answer : Progress) (head : HeadReading) (new : Reading)
    (fault : HttpFault) → most ≡ limit → body ≡ [] → answer ≡ WholeHead used → AnswersHead (Ok answer) (kind_of side) before piece head
    → (TakesHead head (kind_of side) (before ++ take used piece) → IsHead (kind_of side) (before ++ take used piece)
    → Enters (Err fault) side most (before ++ take used piece) new)
    → Refuses side limit (before ++ piece) false body new fault
refuses_head side limit most used before body piece answer head new fault em none e answers enters =
    let here = subst (λ (a : Progress). AnswersHead (Ok a) (kind_of side) before piece head) e answers in
    let joined : (before ++ take used piece) ++ drop used piece ≡ before ++ piece =
    append_assoc before (take used piece) (drop used piece) ∙ ap (λ (t : List ℕ). before ++ t) (take-append-drop used piece) in
    subst (λ (n : ℕ). Refuses side n (before ++ piece) false body new fault) em
    (subst (λ (t : List ℕ). Refuses side most (before ++ piece) false t new fault) (sym none)
    (subst (λ (t : List ℕ). Refuses side most t false [] new fault) joined (enters here.taken here.head (drop used piece))))

-- bytes of which no head can come
pub refuses_never : (side : Side) (limit : ℕ) (bytes body : List ℕ) (new : Reading) (result : HttpFault) → new.side ≡ side → new.limit ≡ limit
    → new.stage ≡ Failed BadHead → result ≡ BadHead → TakesHead new.head (kind_of side) bytes → NeverHasHead (kind_of side) bytes
    → Refuses side limit bytes false body new result
refuses_never side limit bytes body new result sided limited is e taken never = record {
  taken = record {
    sided = sided;
    limited = limited;
    head = record {
      text = bytes;
      after = [];
      bytes_are = sym (append-nil bytes);
      taken = taken;
      end = inr (subst (λ (t : List ℕ). HasNoHead (kind_of side) t) (append-nil bytes) (never []));
    };
    stands = subst (λ (s : Stage). Stands s new side limit bytes false body) (sym is) (inl never);
  };
  verdict = subst (λ (f : HttpFault). IsRefused side limit bytes false f) (sym e) (inl never);
}

-- ---- the parts of the head

pub head_parts : (found : Option Head) (side : Side) (bytes text after : List ℕ) → bytes ≡ text ++ after
    → IfSome found (λ head. IsHead (kind_of side) text × HasParts (kind_of side) text (parts_of head))
    → IfSome found (λ head. (left : List ℕ) × BeginsWith side bytes (parts_of head) left)
head_parts None side bytes text after is parts = tt
head_parts (Some head) side bytes text after is parts =
    (after, record { text = text; is_head = parts.0; parts = parts.1; bytes_are = is })

pub head_none : (found : Option Head) (reading : HeadReading) (kind : Kind) (bytes : List ℕ) (has : HasTakenHead reading kind bytes)
    → IfNone found (IsHead kind has.text → ⊥) → IfNone found (HasNoHead kind bytes)
head_none (Some head) reading kind bytes has none = tt
head_none None reading kind bytes has none = judged has.end
  where
    judged : IsHead kind has.text ⊎ HasNoHead kind bytes → HasNoHead kind bytes
    judged (inl head) = absurd (none head)
    judged (inr no_head) = no_head
