-- What has come of a reply after one more front of a piece.
use Rattle.std.proofs.Common.{◌≡◌, ℕ, ◌+◌, Bool, true, false, List, [], ◌++◌, length, take, refl, sym, ap, ◌∙◌, ◌⊎◌, zero, suc, ◌<◌, inl, inr, Ok, IsTrue, subst, arith, append_assoc, append-nil, length-append, length-take}
use Rattle.sz_http.specs.Parts.{Parts}
use Rattle.sz_http.specs.declared.fed.Fed.{Fed}
use Rattle.sz_http.specs.declared.side.Side.TheVariants as side
use Rattle.std.proofs.lemmas.Bool.{false≢true}
use Rattle.sz_http.proofs.Heads.{framed_begins}
use Rattle.sz_http.proofs.Verdicts.{message_stands}
use Rattle.sz_http.specs.Message.{BeginsWith}
use Rattle.sz_http.specs.Reading.{IsWholeAtEnd, Took}
use Rattle.sz_http.specs.Head.{HasNoHead}
use Rattle.sz_http.specs.declared.kind.Kind.TheVariants as kind
use Rattle.sz_http.specs.declared.fault.HttpFault.{HttpFault}
use Rattle.sz_http.specs.declared.fault.HttpFault.TheVariants as http
use Rattle.sz_http.specs.Verdict.{done_with, refused, Verdict}
use Rattle.sz_ask.specs.Coming.{HasCome}
use Rattle.sz_ask.specs.Reply.{HasReply, HasStatus, of_http, TellsFault}
use Rattle.sz_ask.specs.Limits.{most_reply_bytes}
use Rattle.sz_ask.specs.declared.incoming.Incoming.{Incoming}

-- the end of the connection makes it whole
pub came_to_end : (old new : Incoming) (bytes : List ℕ)
    → IsWholeAtEnd side.Reply most_reply_bytes bytes old.body new.reading → new.body ≡ old.body → HasCome new bytes true
came_to_end old new bytes whole body = record {
  reply = bytes;
  more = [];
  bytes_are = sym (append-nil bytes);
  taken = rw body whole.taken;
  head = whole.verdict.0;
  verdict = rw body whole.verdict.1;
  all = λ _. refl;
}

-- a front of a piece made it whole
pub came_whole : (old new : Incoming) (bytes piece more : List ℕ) (fed : Fed)
    → Took side.Reply most_reply_bytes bytes old.body piece new.reading fed → fed.done ≡ true
    → new.body ≡ old.body ++ fed.body.now → HasCome new ((bytes ++ take fed.used piece) ++ more) false
came_whole old new bytes piece more fed took done body =
    let whole = took.done done in
    let long : length (bytes ++ take fed.used piece) ≡ length bytes + fed.used =
    omega (arith, length-append bytes (take fed.used piece), length-take fed.used piece, took.within) in
    record {
      reply = bytes ++ take fed.used piece;
      more = more;
      bytes_are = refl;
      taken = rw body took.taken;
      head = whole.0;
      verdict = rw (body, long) whole.1;
      all = λ never. cc never;
    }

-- a step that doesn't end the reply takes some bytes
pub moved : (used size : ℕ) (done : Bool) → (used ≡ 0 → (size ≡ 0) ⊎ IsTrue done) → 0 < size → done ≡ false → 0 < used
moved zero size done moves some going = elim (moves refl) [
  | inl none ↦ absurd (omega (arith, none))
  | inr over ↦ absurd (false≢true (sym going ∙ over))
]
moved (suc used) size done moves some going = omega arith

-- a refusal by the message's own rules is told
pub tells_http : (bytes : List ℕ) (closed : Bool) (cause : HttpFault)
    → Verdict side.Reply most_reply_bytes bytes closed (refused cause) → TellsFault bytes closed (of_http cause)
tells_http bytes closed http.BadHead is = inl (http.BadHead, is, refl)
tells_http bytes closed http.BadChunk is = inl (http.BadChunk, is, refl)
tells_http bytes closed (http.TooLarge limit) is = inl (http.TooLarge limit, is, refl)
tells_http bytes closed http.Coding is = inl (http.Coding, is, refl)
tells_http bytes closed http.EndedEarly is = inl (http.EndedEarly, is, refl)

-- ---- the whole reply

begins_on : (bytes more behind : List ℕ) (head : Parts) → BeginsWith side.Reply bytes head behind
    → BeginsWith side.Reply (bytes ++ more) head (behind ++ more)
begins_on bytes more behind head begins = record {
  text = begins.text;
  is_head = begins.is_head;
  parts = begins.parts;
  bytes_are = ap (λ (t : List ℕ). t ++ more) begins.bytes_are ∙ append_assoc begins.text behind more;
}

pub has_status : (bytes : List ℕ) (closed : Bool) (incoming : Incoming) (come : HasCome incoming bytes closed) (head : Parts)
    (behind : List ℕ) → BeginsWith side.Reply come.reply head behind → HasStatus bytes head.status
has_status bytes closed incoming come head behind begins =
    (head, behind ++ come.more, rw come.bytes_are (begins_on come.reply come.more behind head begins), refl)

-- a whole reply has a head
pub has_head : (bytes : List ℕ) (closed : Bool) (incoming : Incoming) (come : HasCome incoming bytes closed)
    → HasNoHead kind.Reply come.reply → ⊥
has_head bytes closed incoming come none =
    let message = come.verdict in
    framed_begins side.Reply most_reply_bytes come.reply (Ok message.framing) come.head message.after message.framed none

pub has_reply : (bytes : List ℕ) (closed : Bool) (incoming : Incoming) (status : ℕ) → HasCome incoming bytes closed
    → HasStatus bytes status → HasReply bytes closed status incoming.body
has_reply bytes true incoming status come is =
    let all : come.more ≡ [] = come.all refl in
    let same : come.reply ≡ bytes =
    sym (come.bytes_are ∙ ap (λ (t : List ℕ). come.reply ++ t) all ∙ append-nil come.reply) in
    record {
      status_is = is;
      whole = (
        come.head,
        length come.reply,
        subst (λ (t : List ℕ).
            Verdict side.Reply most_reply_bytes t true (done_with come.head incoming.body (length come.reply))) same come.verdict,
      );
    }
has_reply bytes false incoming status come is = record {
  status_is = is;
  whole = (
    come.head,
    length come.reply,
    rw come.bytes_are (message_stands side.Reply most_reply_bytes come.reply come.more false
        come.head incoming.body (length come.reply) come.verdict),
  );
}
