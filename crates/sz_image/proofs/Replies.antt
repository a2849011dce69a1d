-- What the bytes of a reply tell stays told by more of them, and what a verdict says of the body's length.
use Rattle.std.proofs.Common.{◌≡◌, ℕ, ◌+◌, ◌≤◌, Bool, true, false, List, ◌++◌, length, take, drop, refl, ap, ◌∙◌, subst, arith, append_assoc, inl, inr, Ok}
use Rattle.std.proofs.lemmas.List.{take-append-drop}
use Rattle.sz_base.specs.declared.image.ImageFault.{ImageFault}
use Rattle.sz_http.specs.Head.{HasNoHead}
use Rattle.sz_http.specs.Parts.{Parts}
use Rattle.sz_http.specs.declared.kind.Kind.TheVariants.{Reply as ReplyKind}
use Rattle.sz_http.specs.declared.framing.Framing.{Framing}
use Rattle.sz_http.specs.declared.framing.Framing.TheVariants.{Length, Chunks, UntilEnd}
use Rattle.sz_http.specs.declared.side.Side.TheVariants.{Reply}
use Rattle.sz_http.specs.declared.fault.HttpFault.{HttpFault}
use Rattle.sz_http.specs.declared.fault.HttpFault.TheVariants.{TooLarge}
use Rattle.sz_http.specs.declared.fed.Fed.{Fed}
use Rattle.sz_http.specs.declared.reading.Reading.{Reading}
use Rattle.sz_http.specs.declared.reading.Stage.{Stage}
use Rattle.sz_http.specs.declared.reading.Stage.TheVariants.{InHead, Counted, Chunked, UntilEnd as ToTheEnd, Done, Failed}
use Rattle.sz_http.specs.Message.{BeginsWith, IsFramed, IsBody}
use Rattle.sz_http.specs.Reading.{Stands, Takes, Took}
use Rattle.sz_http.specs.Verdict.{Outcome, Verdict, done_with, needs_more, refused}
use Rattle.sz_http.proofs.Heads.{framed_begins, framed_more}
use Rattle.sz_http.proofs.Once.{verdict_once}
use Rattle.sz_http.proofs.Verdicts.{message_stands}
use Rattle.sz_image.specs.Coming.{IsJudged, TakesFront}
use Rattle.sz_image.specs.Reply.{GivesBody, HasStatus, IsRefused, most_length}

pub begins_more : (bytes more after : List ℕ) (head : Parts) → BeginsWith Reply bytes head after → BeginsWith Reply (bytes ++ more) head (after ++ more)
begins_more bytes more after head begins = record {
  text = begins.text;
  is_head = begins.is_head;
  parts = begins.parts;
  bytes_are = ap (λ (t : List ℕ). t ++ more) begins.bytes_are ∙ append_assoc begins.text after more;
}

pub status_more : (bytes more : List ℕ) (status : ℕ) → HasStatus bytes status → HasStatus (bytes ++ more) status
status_more bytes more status has = (
  has.0,
  record {
    head = has.1.head;
    after = has.1.after ++ more;
    framed = framed_more Reply most_length bytes more (Ok has.0) has.1.head has.1.after has.1.framed;
    status_is = has.1.status_is;
  },
)

pub gives_more : (space : ℕ) (bytes more body : List ℕ) (closed : Bool) → GivesBody space bytes false body → GivesBody space (bytes ++ more) closed body
gives_more space bytes more body closed gives = record {
  status = status_more bytes more 200 gives.status;
  whole = (gives.whole.0, gives.whole.1, message_stands Reply space bytes more closed gives.whole.0 body gives.whole.1 gives.whole.2);
}

-- a length is judged behind a head alone
no_head_small : (space most : ℕ) (bytes : List ℕ) (closed : Bool) → HasNoHead ReplyKind bytes → Verdict Reply space bytes closed (refused (TooLarge most)) → ⊥
no_head_small space most bytes closed none (inl is) = framed_begins Reply space bytes _ is.0 is.1 is.2 none
no_head_small space most bytes closed none (inr (inl is)) = framed_begins Reply space bytes _ is.0 is.1 is.2 none
no_head_small space most bytes closed none (inr (inr is)) = framed_begins Reply space bytes _ is.0.0 is.0.1 is.0.2 none

pub no_head_fault : (space most : ℕ) (bytes : List ℕ) (closed : Bool) (fault : HttpFault) → fault ≡ TooLarge most → HasNoHead ReplyKind bytes
    → Verdict Reply space bytes closed (refused fault) → ⊥
no_head_fault space most bytes closed fault is none verdict =
    no_head_small space most bytes closed none (subst (λ (f : HttpFault). Verdict Reply space bytes closed (refused f)) is verdict)

-- a whole reply has a head
pub no_head_part : (space used : ℕ) (bytes body : List ℕ) (closed : Bool) (head : Parts) → HasNoHead ReplyKind bytes → Verdict Reply space bytes closed
    (done_with head body used) → ⊥
no_head_part space used bytes body closed head none message =
    framed_begins Reply space bytes (Ok message.framing) head message.after message.framed none

-- ---- the length of the body

body_fits : (framing : Framing) (space : ℕ) (bytes after body rest : List ℕ) (closed : Bool) (head : Parts) → IsFramed Reply space bytes (Ok framing) head after
    → IsBody framing space closed after body rest → length body ≤ space
body_fits (Length n) space bytes after body rest closed head framed is = omega (arith, is.1, framed.frames.3)
body_fits Chunks space bytes after body rest closed head framed is = is.1
body_fits UntilEnd space bytes after body rest closed head framed is = is.3

pub whole_fits : (space used : ℕ) (bytes body : List ℕ) (closed : Bool) (head : Parts) → Verdict Reply space bytes closed
    (done_with head body used) → length body ≤ space
whole_fits space used bytes body closed head message =
    body_fits message.framing space bytes message.after body message.rest closed head message.framed message.is_body

-- what came of the body of a message that isn't refused
stage_fits : (stage : Stage) (reading : Reading) (space : ℕ) (bytes body : List ℕ) → ((fault : HttpFault) → stage ≡ Failed fault → ⊥)
    → Stands stage reading Reply space bytes false body → length body ≤ space
stage_fits InHead reading space bytes body going stands = omega (arith, ap length stands.3)
stage_fits (Counted left) reading space bytes body going stands = omega (arith, stands.2.1.frames.3)
stage_fits Chunked reading space bytes body going stands = stands.1.5
stage_fits (ToTheEnd room) reading space bytes body going stands = omega (arith, stands.1)
stage_fits Done reading space bytes body going stands = whole_fits space (length bytes) bytes body false stands.0 stands.1
stage_fits (Failed fault) reading space bytes body going stands = absurd (going fault refl)

-- the bytes have another verdict than this fault
not_refused : (stage : Stage) (reading : Reading) (space : ℕ) (bytes body : List ℕ) (verdict : Outcome)
    → ((fault : HttpFault) → refused fault ≡ verdict → ⊥) → Verdict Reply space bytes false verdict → Stands stage reading Reply space bytes false body
    → (fault : HttpFault) → stage ≡ Failed fault → ⊥
not_refused stage reading space bytes body verdict other is stands fault failed =
    let here : Verdict Reply space bytes false (refused fault) = subst (λ (s : Stage). Stands s reading Reply space bytes false body) failed stands in
    other fault (verdict_once Reply space bytes false (refused fault) verdict (λ none. none) here is)

pub takes_fits : (reading : Reading) (space : ℕ) (bytes body : List ℕ) (verdict : Outcome) → ((fault : HttpFault) → refused fault ≡ verdict → ⊥)
    → Verdict Reply space bytes false verdict → Takes reading Reply space bytes false body → length body ≤ space
takes_fits reading space bytes body verdict other is takes =
    stage_fits reading.stage reading space bytes body (not_refused reading.stage reading space bytes body verdict other is takes.stands) takes.stands

pub took_fits : (space : ℕ) (before body piece : List ℕ) (reading : Reading) (fed : Fed) → Took Reply space before body piece reading fed
    → length (body ++ fed.body.now) ≤ space
took_fits space before body piece reading fed took = judged fed.done refl
  where
    judged : (done : Bool) → fed.done ≡ done → length (body ++ fed.body.now) ≤ space
    judged true is =
        let whole = took.done is in
        whole_fits space (length before + fed.used) (before ++ take fed.used piece) (body ++ fed.body.now) false whole.0 whole.1
    judged false is =
        takes_fits reading space (before ++ take fed.used piece) (body ++ fed.body.now) needs_more (λ fault same. cc) (took.more is) took.taken

-- ---- the head that was judged

pub judged_status : (headed : Bool) (space used : ℕ) (bytes body : List ℕ) (closed : Bool) (head : Parts) → IsJudged headed bytes
    → Verdict Reply space bytes closed (done_with head body used) → HasStatus bytes 200
judged_status true space used bytes body closed head judged whole = judged.0 refl
judged_status false space used bytes body closed head judged whole = absurd (no_head_part space used bytes body closed head (judged.1 refl) whole)

pub took_front : (space : ℕ) (before body piece : List ℕ) (reading : Reading) (headed : Bool) (fed : Fed) → Took Reply space before body piece reading fed
    → IsJudged headed (before ++ take fed.used piece) → TakesFront space before body piece reading headed fed
took_front space before body piece reading headed fed took judged = record {
  within = took.within;
  taken = took.taken;
  fits = took_fits space before body piece reading fed took;
  status = judged.0;
  done = λ is.
      let whole = took.done is in
      record {
        status = judged_status headed space (length before + fed.used) (before ++ take fed.used piece) (body ++ fed.body.now) false whole.0 judged whole.1;
        whole = (whole.0, length before + fed.used, whole.1);
      };
  moves = took.moves;
}

-- what a front of the bytes is refused for
pub refused_cut : (space : ℕ) (hash bytes piece : List ℕ) (count : ℕ) (fault : ImageFault)
    → IsRefused space hash ((bytes ++ take count piece) ++ drop count piece) false fault → IsRefused space hash (bytes ++ piece) false fault
refused_cut space hash bytes piece count fault is =
    subst (λ (t : List ℕ). IsRefused space hash t false fault)
    (append_assoc bytes (take count piece) (drop count piece) ∙ ap (λ (t : List ℕ). bytes ++ t) (take-append-drop count piece)) is
