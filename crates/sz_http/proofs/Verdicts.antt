-- Verdicts that stand, and what the end of the stream makes of one that needs more.
use Rattle.std.proofs.Common.{ℕ, Bool, false, List, [], ◌∷◌, ◌++◌, refl, ap, ◌∙◌, arith, append_assoc, length-append, inl, inr, Ok, Err}
use Rattle.std.proofs.lemmas.Bool.{false≢true}
use Rattle.sz_http.specs.Head.{HasNoHead}
use Rattle.sz_http.specs.declared.framing.Framing.{Framing}
use Rattle.sz_http.specs.declared.framing.Framing.TheVariants.{Length, Chunks, UntilEnd}
use Rattle.sz_http.specs.declared.framing.FramingFault.{FramingFault}
use Rattle.sz_http.specs.declared.chunk_fault.ChunkFault.{ChunkFault}
use Rattle.sz_http.proofs.ChunksOnce.{short_more}
use Rattle.sz_http.specs.ChunkRefusal.{IsRefused as IsRefusedBody}
use Rattle.sz_http.specs.declared.side.Side.{Side}
use Rattle.sz_http.specs.declared.fault.HttpFault.{HttpFault}
use Rattle.sz_http.specs.declared.fault.HttpFault.TheVariants.{BadHead, BadChunk, TooLarge, Coding, EndedEarly}
use Rattle.sz_http.specs.Message.{kind_of, IsBody, IsMessage, EndsInBody}
use Rattle.sz_http.specs.Verdict.{Outcome, needs_more, done_with, refused, IsRefusedHead, HasRefusedChunks, RunsPast, IsOpen, IsRefused, Verdict, IsFinal, ComesToAnEnd}
use Rattle.sz_http.proofs.Heads.{never_more, framed_more, framed_begins}
use Rattle.sz_http.specs.Parts.{Parts}

-- ---- bodies

body_stands : (framing : Framing) (limit : ℕ) (ended : Bool) (after body rest more : List ℕ) → IsBody framing limit false after body rest
    → IsBody framing limit ended (after ++ more) body (rest ++ more)
body_stands (Length n) limit ended after body rest more is =
    (ap (λ (t : List ℕ). t ++ more) is.0 ∙ append_assoc body rest more, is.1)
body_stands Chunks limit ended after body rest more is = (short_more after body rest more is.0, is.1)
body_stands UntilEnd limit ended after body rest more is = absurd (false≢true is.0)

pub message_stands : (side : Side) (limit : ℕ) (bytes more : List ℕ) (ended : Bool) (head : Parts) (body : List ℕ) (used : ℕ)
    → IsMessage side limit bytes false head body used → IsMessage side limit (bytes ++ more) ended head body used
message_stands side limit bytes more ended head body used message = record {
  framing = message.framing;
  after = message.after ++ more;
  rest = message.rest ++ more;
  framed = framed_more side limit bytes more (Ok message.framing) head message.after message.framed;
  is_body = body_stands message.framing limit ended message.after body message.rest more message.is_body;
  used_is = omega (arith, message.used_is, length-append message.rest more, length-append bytes more);
}

-- ---- faults

head_stands : (side : Side) (limit : ℕ) (bytes more : List ℕ) (fault : FramingFault) → IsRefusedHead side limit bytes fault
    → IsRefusedHead side limit (bytes ++ more) fault
head_stands side limit bytes more fault is = (is.0, is.1 ++ more, framed_more side limit bytes more (Err fault) is.0 is.1 is.2)

chunks_refused_more : (limit : ℕ) (text more : List ℕ) (fault : ChunkFault) → IsRefusedBody limit text fault → IsRefusedBody limit (text ++ more) fault
chunks_refused_more limit text more fault is = record {
  front = is.front;
  content = is.content;
  byte = is.byte;
  rest = is.rest ++ more;
  text_is = ap (λ (t : List ℕ). t ++ more) is.text_is ∙ append_assoc is.front (is.byte ∷ is.rest) more;
  part = is.part;
  few = is.few;
  why = is.why;
}

chunks_stand : (side : Side) (limit : ℕ) (bytes more : List ℕ) (fault : ChunkFault) → HasRefusedChunks side limit bytes fault
    → HasRefusedChunks side limit (bytes ++ more) fault
chunks_stand side limit bytes more fault is = (
  is.0,
  is.1 ++ more,
  framed_more side limit bytes more (Ok Chunks) is.0 is.1 is.2,
  chunks_refused_more limit is.1 more fault is.3,
)

past_stands : (side : Side) (limit : ℕ) (bytes more : List ℕ) → RunsPast side limit bytes → RunsPast side limit (bytes ++ more)
past_stands side limit bytes more is = (
  is.0,
  is.1 ++ more,
  framed_more side limit bytes more (Ok UntilEnd) is.0 is.1 is.2,
  omega (arith, is.3, length-append is.1 more),
)

pub refused_stands : (side : Side) (limit : ℕ) (bytes more : List ℕ) (ended : Bool) (fault : HttpFault) → IsRefused side limit bytes false fault
    → IsRefused side limit (bytes ++ more) ended fault
refused_stands side limit bytes more ended BadHead (inl never) = inl (never_more (kind_of side) bytes more never)
refused_stands side limit bytes more ended BadHead (inr is) = inr (head_stands side limit bytes more _ is)
refused_stands side limit bytes more ended BadChunk is = chunks_stand side limit bytes more _ is
refused_stands side limit bytes more ended (TooLarge most) (inl is) = inl (head_stands side limit bytes more _ is)
refused_stands side limit bytes more ended (TooLarge most) (inr (inl is)) = inr (inl (chunks_stand side limit bytes more _ is))
refused_stands side limit bytes more ended (TooLarge most) (inr (inr is)) = inr (inr (past_stands side limit bytes more is.0, is.1))
refused_stands side limit bytes more ended Coding is = head_stands side limit bytes more _ is
refused_stands side limit bytes more ended EndedEarly is = absurd (false≢true is.0)

pub verdict_stands : (side : Side) (limit : ℕ) (bytes more : List ℕ) (ended : Bool) (verdict : Outcome) → IsFinal verdict
    → Verdict side limit bytes false verdict → Verdict side limit (bytes ++ more) ended verdict
verdict_stands side limit bytes more ended needs_more final is = absurd final
verdict_stands side limit bytes more ended (done_with head body used) final is = message_stands side limit bytes more ended head body used is
verdict_stands side limit bytes more ended (refused fault) final is = refused_stands side limit bytes more ended fault is

-- no head comes of bytes that were refused without one
pub refused_grows : (side : Side) (limit : ℕ) (bytes more : List ℕ) (fault : HttpFault) → IsRefused side limit bytes false fault
    → HasNoHead (kind_of side) bytes → HasNoHead (kind_of side) (bytes ++ more)
refused_grows side limit bytes more BadHead (inl never) none = never more
refused_grows side limit bytes more BadHead (inr is) none = absurd (framed_begins side limit bytes _ is.0 is.1 is.2 none)
refused_grows side limit bytes more BadChunk is none = absurd (framed_begins side limit bytes _ is.0 is.1 is.2 none)
refused_grows side limit bytes more (TooLarge most) (inl is) none = absurd (framed_begins side limit bytes _ is.0 is.1 is.2 none)
refused_grows side limit bytes more (TooLarge most) (inr (inl is)) none = absurd (framed_begins side limit bytes _ is.0 is.1 is.2 none)
refused_grows side limit bytes more (TooLarge most) (inr (inr is)) none = absurd (framed_begins side limit bytes _ is.0.0 is.0.1 is.0.2 none)
refused_grows side limit bytes more Coding is none = absurd (framed_begins side limit bytes _ is.0 is.1 is.2 none)
refused_grows side limit bytes more EndedEarly is none = absurd (false≢true is.0)

-- ---- the end of the stream

ends_in : (side : Side) (limit : ℕ) (bytes : List ℕ) (framing : Framing) → EndsInBody side limit bytes framing → ComesToAnEnd side limit bytes
ends_in side limit bytes (Length n) inside = inr (refl, inr (Length n, inside, λ e. cc))
ends_in side limit bytes Chunks inside = inr (refl, inr (Chunks, inside, λ e. cc))
ends_in side limit bytes UntilEnd inside = inl (
  inside.head,
  inside.after,
  record {
    framing = UntilEnd;
    after = inside.after;
    rest = [];
    framed = inside.framed;
    is_body = (refl, refl, refl, inside.part);
    used_is = omega arith;
  },
)

pub comes_to_an_end : (side : Side) (limit : ℕ) (bytes : List ℕ) → Verdict side limit bytes false needs_more → ComesToAnEnd side limit bytes
comes_to_an_end side limit bytes is = judged is.1
  where
    judged : IsOpen side limit bytes → ComesToAnEnd side limit bytes
    judged (inl unfinished) = inr (refl, inl unfinished)
    judged (inr (framing, inside)) = ends_in side limit bytes framing inside
