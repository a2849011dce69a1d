-- What stands after a step of a reading.
use Rattle.std.proofs.Common.{◌≡◌, ◌⊎◌, ℕ, ◌+◌, ◌-◌, ◌<◌, ◌≤◌, Bool, true, false, List, [], ◌++◌, length, take, refl, sym, ◌∙◌, subst, arith, append-nil, length-append, length-take, inl, inr, Result, Ok}
use Rattle.std.specs.Prelude.{⊤}
use Rattle.std.proofs.lemmas.Bool.{cases_lt}
use Rattle.sz_http.specs.declared.head_reading.HeadReading.{HeadReading}
use Rattle.sz_http.specs.Head.{IsHead}
use Rattle.sz_http.specs.Parts.{Parts}
use Rattle.sz_http.specs.HeadReading.{Takes as TakesHead}
use Rattle.sz_http.specs.declared.framing.Framing.{Framing}
use Rattle.sz_http.specs.declared.framing.Framing.TheVariants.{Length, Chunks, UntilEnd as ToTheEnd}
use Rattle.sz_http.specs.declared.framing.FramingFault.{FramingFault}
use Rattle.sz_http.specs.declared.chunk_fault.ChunkFault.{ChunkFault}
use Rattle.sz_http.specs.declared.chunk_fault.ChunkFault.TheVariants.{BadChunk as BadChunks, TooLarge as TooManyChunks}
use Rattle.sz_http.specs.declared.fed_chunks.FedChunks.{FedChunks}
use Rattle.sz_http.specs.ChunkReading.{Took as TookChunks}
use Rattle.sz_http.specs.ChunkRefusal.{IsRefused as IsRefusedBody}
use Rattle.sz_http.specs.declared.side.Side.{Side}
use Rattle.sz_http.specs.declared.fault.HttpFault.{HttpFault}
use Rattle.sz_http.specs.declared.fault.HttpFault.TheVariants.{TooLarge}
use Rattle.sz_http.specs.declared.reading.Reading.{Reading}
use Rattle.sz_http.specs.declared.reading.Stage.{Stage}
use Rattle.sz_http.specs.declared.reading.Stage.TheVariants.{InHead, Counted, Chunked, UntilEnd, Done, Failed}
use Rattle.sz_http.specs.Message.{kind_of, IsFramed}
use Rattle.sz_http.specs.Reading.{HasTakenHead, Stands, Takes, Refuses}
use Rattle.sz_http.specs.Verdict.{needs_more, done_with, Verdict, IsRefused, chunk_fault}
use Rattle.sz_http.proofs.Heads.{framed_more, framed_head_more, head_more}
use Rattle.sz_http.proofs.Verdicts.{refused_stands, refused_grows}

-- ---- what the stages say

-- more bytes can follow
abbrev pub IsGoing : Stage → Type 0
IsGoing InHead = ⊤
IsGoing (Counted left) = ⊤
IsGoing Chunked = ⊤
IsGoing (UntilEnd room) = ⊤
IsGoing Done = ⊥
IsGoing (Failed fault) = ⊥

pub more_of : (stage : Stage) (reading : Reading) (side : Side) (limit : ℕ) (bytes body : List ℕ) → IsGoing stage
    → Stands stage reading side limit bytes false body → Verdict side limit bytes false needs_more
more_of InHead reading side limit bytes body going stands = (refl, inl stands.2)
more_of (Counted left) reading side limit bytes body going stands = (
  refl,
  inr (
    Length (length body + left),
    record { head = stands.2.0; after = body; framed = stands.2.1; part = omega (arith, stands.1) },
  ),
)
more_of Chunked reading side limit bytes body going stands = (
  refl,
  inr (
    Chunks,
    record { head = stands.1.0; after = stands.1.1; framed = stands.1.2; part = (body, stands.1.4, stands.1.5) },
  ),
)
more_of (UntilEnd room) reading side limit bytes body going stands = (
  refl,
  inr (ToTheEnd, record { head = stands.2.0; after = body; framed = stands.2.1; part = omega (arith, stands.1) }),
)
more_of Done reading side limit bytes body going stands = absurd going
more_of (Failed fault) reading side limit bytes body going stands = absurd going

pub done_of : (stage : Stage) (reading : Reading) (side : Side) (limit : ℕ) (bytes body : List ℕ) (ended : Bool) → stage ≡ Done
    → Stands stage reading side limit bytes ended body → (head : Parts) × Verdict side limit bytes ended (done_with head body (length bytes))
done_of stage reading side limit bytes body ended is stands =
    subst (λ (s : Stage). Stands s reading side limit bytes ended body) is stands

-- ---- what a step keeps

-- the readings differ in their stage and their chunks alone
pub record IsKept (old new : Reading) : Type 0 where
  pub side : new.side ≡ old.side
  pub limit : new.limit ≡ old.limit
  pub head : new.head ≡ old.head

pub takes_framed : (old new : Reading) (side : Side) (limit : ℕ) (bytes more body body' : List ℕ) (framing : Result Framing FramingFault)
    (head : Parts) (after : List ℕ) → IsKept old new → Takes old side limit bytes false body → IsFramed side limit bytes framing head after
    → Stands new.stage new side limit (bytes ++ more) false body' → Takes new side limit (bytes ++ more) false body'
takes_framed old new side limit bytes more body body' framing head after kept takes framed stands = record {
  sided = kept.side ∙ takes.sided;
  limited = kept.limit ∙ takes.limited;
  head = subst (λ (r : HeadReading). HasTakenHead r (kind_of side) (bytes ++ more)) (sym kept.head)
      (framed_head_more old.head side limit bytes more framing head after framed takes.head);
  stands = stands;
}

-- a refusal stands over the next piece
pub takes_refused : (reading : Reading) (side : Side) (limit : ℕ) (bytes piece body : List ℕ) (fault : HttpFault) → reading.stage ≡ Failed fault
    → Takes reading side limit bytes false body → Refuses side limit (bytes ++ piece) false body reading fault
takes_refused reading side limit bytes piece body fault is takes =
    let here : IsRefused side limit bytes false fault = subst (λ (s : Stage). Stands s reading side limit bytes false body) is takes.stands in
    let there = refused_stands side limit bytes piece false fault here in
    record {
      taken = record {
        sided = takes.sided;
        limited = takes.limited;
        head = head_more reading.head (kind_of side) bytes piece takes.head (refused_grows side limit bytes piece fault here);
        stands = subst (λ (s : Stage). Stands s reading side limit (bytes ++ piece) false body) (sym is) there;
      };
      verdict = there;
    }

-- ---- a body with a length

-- so many bytes are left of a body, or it is whole
pub stands_counted : (stage : Stage) (reading : Reading) (side : Side) (limit left : ℕ) (bytes body : List ℕ) (head : Parts)
    → IsFramed side limit bytes (Ok (Length (length body + left))) head body → (left ≡ 0 → stage ≡ Done) → (0 < left → stage ≡ Counted left)
    → Stands stage reading side limit bytes false body
stands_counted stage reading side limit left bytes body head framed whole more = judged (cases_lt 0 left)
  where
    judged : (0 < left) ⊎ (left ≤ 0) → Stands stage reading side limit bytes false body
    judged (inl some) =
        subst (λ (s : Stage). Stands s reading side limit bytes false body) (sym (more some)) (refl, some, (head, framed))
    judged (inr none) =
        subst (λ (s : Stage). Stands s reading side limit bytes false body) (sym (whole (omega arith))) (
          head,
          record {
            framing = Length (length body + left);
            after = body;
            rest = [];
            framed = framed;
            is_body = (sym (append-nil body), omega arith);
            used_is = omega arith;
          },
        )

-- a body of which so many bytes more have come
pub counted_more : (side : Side) (limit left count : ℕ) (bytes body piece : List ℕ) (head : Parts)
    → IsFramed side limit bytes (Ok (Length (length body + left))) head body → count ≤ left → count ≤ length piece
    → IsFramed side limit (bytes ++ take count piece) (Ok (Length (length (body ++ take count piece) + (left - count)))) head (body ++ take count piece)
counted_more side limit left count bytes body piece head framed few inside =
    let same : length body + left ≡ length (body ++ take count piece) + (left - count) =
    omega (arith, length-append body (take count piece), length-take count piece) in
    subst (λ (n : ℕ). IsFramed side limit (bytes ++ take count piece) (Ok (Length n)) head (body ++ take count piece)) same
    (framed_more side limit bytes (take count piece) (Ok (Length (length body + left))) head body framed)

-- ---- a chunked body

pub stands_chunked : (stage : Stage) (reading : Reading) (side : Side) (limit : ℕ) (bytes body after piece : List ℕ) (head : Parts) (fed : FedChunks)
    → IsFramed side limit bytes (Ok Chunks) head after → TookChunks limit after body piece reading.chunks fed
    → (fed.done ≡ true → stage ≡ Done) → (fed.done ≡ false → stage ≡ Chunked)
    → (fed.done ≡ true) ⊎ (fed.done ≡ false) → Stands stage reading side limit (bytes ++ take fed.used piece) false (body ++ fed.body.now)
stands_chunked stage reading side limit bytes body after piece head fed framed took whole more (inl is) =
    let taken = take fed.used piece in
    subst (λ (s : Stage). Stands s reading side limit (bytes ++ taken) false (body ++ fed.body.now)) (sym (whole is)) (
      head,
      record {
        framing = Chunks;
        after = after ++ taken;
        rest = [];
        framed = framed_more side limit bytes taken (Ok Chunks) head after framed;
        is_body = ((took.done is).reads, (took.done is).few);
        used_is = omega arith;
      },
    )
stands_chunked stage reading side limit bytes body after piece head fed framed took whole more (inr is) =
    let taken = take fed.used piece in
    subst (λ (s : Stage). Stands s reading side limit (bytes ++ taken) false (body ++ fed.body.now)) (sym (more is)) (
      refl,
      (
        head,
        after ++ taken,
        framed_more side limit bytes taken (Ok Chunks) head after framed,
        took.taken,
        (took.more is).part,
        (took.more is).few,
      ),
    )

pub chunks_refused : (side : Side) (limit : ℕ) (bytes after piece : List ℕ) (head : Parts) (fault : ChunkFault)
    → IsFramed side limit bytes (Ok Chunks) head after → IsRefusedBody limit (after ++ piece) fault
    → IsRefused side limit (bytes ++ piece) false (chunk_fault fault)
chunks_refused side limit bytes after piece head BadChunks framed is =
    (head, after ++ piece, framed_more side limit bytes piece (Ok Chunks) head after framed, is)
chunks_refused side limit bytes after piece head (TooManyChunks most) framed is =
    inr (inl (head, after ++ piece, framed_more side limit bytes piece (Ok Chunks) head after framed, is))

-- ---- a body that runs to the end

pub past_refused : (side : Side) (limit most room : ℕ) (bytes body piece : List ℕ) (head : Parts) → IsFramed side limit bytes (Ok ToTheEnd) head body
    → length body + room ≡ limit → room < length piece → most ≡ limit → IsRefused side limit (bytes ++ piece) false (TooLarge most)
past_refused side limit most room bytes body piece head framed full over e =
    inr (inr (
      (
        head,
        body ++ piece,
        framed_more side limit bytes piece (Ok ToTheEnd) head body framed,
        omega (arith, length-append body piece),
      ),
      e,
    ))

-- ---- the head

-- a reading whose head is all that has come
pub takes_head : (reading : Reading) (side : Side) (text : List ℕ) → reading.side ≡ side → TakesHead reading.head (kind_of side) text
    → IsHead (kind_of side) text → Stands reading.stage reading side reading.limit text false [] → Takes reading side reading.limit text false []
takes_head reading side text sided taken head stands = record {
  sided = sided;
  limited = refl;
  head = record { text = text; after = []; bytes_are = sym (append-nil text); taken = taken; end = inl head };
  stands = stands;
}
