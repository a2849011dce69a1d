-- A chunked body after one more byte and after bytes of a chunk.
use Rattle.std.proofs.Common.{◌≡◌, ℕ, zero, suc, true, ◌-◌, ◌<◌, ◌≤◌, List, [], ◌∷◌, ◌++◌, length, take, refl, sym, ap, ◌∙◌, subst, arith, append_assoc, append-nil, length-append, inr, ◌≢◌, All, Ok, Err}
use Rattle.std.proofs.lemmas.List.{flat_map_more}
use Rattle.std.proofs.lemmas.List.Elements.{All-nil, All-push, All-weaker}
use Rattle.std.specs.List.{flat_map}
use Rattle.std.specs.Char.{is_ascii_hexdigit}
use Rattle.sz_http.specs.declared.kind.Kind.TheVariants.{Trailer}
use Rattle.sz_http.specs.declared.head_reading.HeadReading.{HeadReading}
use Rattle.sz_http.specs.Head.{IsHead, HasNoHead}
use Rattle.sz_http.specs.declared.progress.Progress.{Progress}
use Rattle.sz_http.specs.declared.progress.Progress.TheVariants.{More, Whole as WholeHead}
use Rattle.sz_http.specs.HeadReading.{Answers as AnswersHead, Takes as TakesHead, IsMore, IsWhole, IsRefused}
use Rattle.sz_http.proofs.Stands.{unfinished_open, trailer_stands}
use Rattle.sz_http.specs.declared.head_place.Place.TheVariants.{Line}
use Rattle.sz_http.specs.declared.chunk_size.Size.{Size}
use Rattle.sz_http.specs.declared.chunk_place.Place.{Place}
use Rattle.sz_http.specs.declared.chunk_place.Place.TheVariants.{InSize, InExtension, LineFeed, InData, DataEnd, DataLineFeed, Between, InTrailer, Whole}
use Rattle.sz_http.specs.declared.chunk_fault.ChunkFault.{ChunkFault}
use Rattle.sz_http.specs.declared.chunk_fault.ChunkFault.TheVariants.{BadChunk, TooLarge}
use Rattle.sz_http.specs.Chunked.{line_text, Chunk, print_chunk, IsChunk, IsShortChunk, content_of, ReadsShort, BeginsChunked, NeverChunked}
use Rattle.httparse.specs.Grammar.{is_extension_byte}
use Rattle.sz_http.specs.ChunkPlace.{At, NoneFrom, Refuses, extended, is_at_line}
use Rattle.sz_http.specs.ChunkReading.{Stands, Came}
use Rattle.sz_http.specs.ChunkRefusal.{EndsInLongLine, RefusesNext}
use Rattle.sz_http.proofs.ChunkLines.{behind_chunks, bad_trailer, plain}

pub stands_first : (size : Size) → size.count ≡ 0 → size.value ≡ 0 → Stands (InSize size) [] []
stands_first size count value = record {
  chunks = [];
  tail = [];
  part = [];
  each = All-nil IsShortChunk;
  bytes_are = refl;
  content_is = refl;
  at = (All-nil (λ v. is_ascii_hexdigit v ≡ true), sym count, value, refl);
}

pub stands_after : (place next : Place) (byte : ℕ) (bytes content : List ℕ) → Stands place bytes content
    → ((tail part : List ℕ) → At place tail part → At next (tail ++ byte ∷ []) part) → Stands next (bytes ++ byte ∷ []) content
stands_after place next byte bytes content stands leads = record {
  chunks = stands.chunks;
  tail = stands.tail ++ byte ∷ [];
  part = stands.part;
  each = stands.each;
  bytes_are = ap (λ (t : List ℕ). t ++ byte ∷ []) stands.bytes_are ∙ append_assoc (flat_map print_chunk stands.chunks) stands.tail (byte ∷ []);
  content_is = stands.content_is;
  at = leads stands.tail stands.part stands.at;
}

-- a whole chunk stands among the others
pub next_chunk : (size : Size) (bytes content : List ℕ) → size.count ≡ 0 → size.value ≡ 0 → Stands Between bytes content
    → Stands (InSize size) bytes content
next_chunk size bytes content count value stands =
    let chunk = stands.at.0 in
    record {
      chunks = stands.chunks ++ chunk ∷ [];
      tail = [];
      part = [];
      each = All-push IsShortChunk stands.chunks chunk stands.each stands.at.1;
      bytes_are = stands.bytes_are ∙ ap (λ (t : List ℕ). flat_map print_chunk stands.chunks ++ t) stands.at.2
          ∙ flat_map_more print_chunk [] stands.chunks chunk ∙ sym (append-nil (flat_map print_chunk (stands.chunks ++ chunk ∷ [])));
      content_is = stands.content_is ∙ ap (λ (t : List ℕ). content_of stands.chunks ++ t) stands.at.3
          ∙ flat_map_more (λ (c : Chunk). c.bytes) [] stands.chunks chunk ∙ sym (append-nil (content_of (stands.chunks ++ chunk ∷ [])));
      at = (All-nil (λ v. is_ascii_hexdigit v ≡ true), sym count, value, refl);
    }

chunks_valid : (chunks : List Chunk) → All IsShortChunk chunks → All IsChunk chunks
chunks_valid chunks each = All-weaker IsShortChunk IsChunk (λ chunk short. short.valid) chunks each

-- where no body goes on from what came behind the chunks, none goes on from all of it
never_from : (chunks : List Chunk) (tail bytes : List ℕ) → All IsShortChunk chunks → bytes ≡ flat_map print_chunk chunks ++ tail → NoneFrom tail
    → NeverChunked bytes
never_from chunks tail bytes each is none = λ more begins.
    none more (behind_chunks chunks (tail ++ more) (chunks_valid chunks each)
    (subst (λ (t : List ℕ). BeginsChunked t)
    (ap (λ (t : List ℕ). t ++ more) is ∙ append_assoc (flat_map print_chunk chunks) tail more) begins))

pub never_after : (place : Place) (byte : ℕ) (bytes content : List ℕ) → Stands place bytes content
    → ((tail part : List ℕ) → At place tail part → NoneFrom (tail ++ byte ∷ [])) → NeverChunked (bytes ++ byte ∷ [])
never_after place byte bytes content stands refuses =
    never_from stands.chunks (stands.tail ++ byte ∷ []) (bytes ++ byte ∷ []) stands.each
    (ap (λ (t : List ℕ). t ++ byte ∷ []) stands.bytes_are ∙ append_assoc (flat_map print_chunk stands.chunks) stands.tail (byte ∷ []))
    (refuses stands.tail stands.part stands.at)

-- ---- the trailer

pub trailer_begins : (trailer : HeadReading) (bytes content : List ℕ) → Stands InTrailer bytes content → TakesHead trailer Trailer []
    → Came trailer InTrailer bytes content
trailer_begins trailer bytes content stands takes =
    (bytes, [], sym (append-nil bytes), stands, takes, unfinished_open Trailer [] (Line 64) trailer_stands refl)

pub trailer_more : (old new : HeadReading) (byte : ℕ) (bytes content : List ℕ) (came : Came old InTrailer bytes content)
    → IsMore Trailer (came.1 ++ byte ∷ []) new → Came new InTrailer (bytes ++ byte ∷ []) content
trailer_more old new byte bytes content came more = (
  came.0,
  came.1 ++ byte ∷ [],
  ap (λ (t : List ℕ). t ++ byte ∷ []) came.2 ∙ append_assoc came.0 came.1 (byte ∷ []),
  came.3,
  more.taken,
  more.unfinished,
)

one_taken : (text : List ℕ) (byte used : ℕ) → used ≤ 1 → HasNoHead Trailer text → IsHead Trailer (text ++ take used (byte ∷ []))
    → IsHead Trailer (text ++ byte ∷ [])
one_taken text byte zero within none head = absurd (none [] (subst (λ (t : List ℕ). IsHead Trailer t) (append-nil text) head))
one_taken text byte (suc zero) within none head = head
one_taken text byte (suc (suc used)) within none head = absurd (omega arith)

pub trailer_whole : (old new : HeadReading) (byte used : ℕ) (bytes content : List ℕ) (came : Came old InTrailer bytes content)
    → IsWhole Trailer came.1 (byte ∷ []) used new → ReadsShort (bytes ++ byte ∷ []) content []
trailer_whole old new byte used bytes content came whole =
    let stands = came.3 in
    let line = stands.at.0 in
    let text = came.1 ++ byte ∷ [] in
    record {
      reads = record {
        chunks = stands.chunks;
        last = line;
        trailer = came.1 ++ byte ∷ [];
        each = chunks_valid stands.chunks stands.each;
        last_line = stands.at.1.short.valid;
        zero_size = stands.at.1.sized;
        is_trailer = one_taken came.1 byte used whole.within came.5.none whole.head;
        text_is =
            ap (λ (t : List ℕ). t ++ byte ∷ []) came.2 ∙ append_assoc came.0 came.1 (byte ∷ [])
            ∙ ap (λ (t : List ℕ). t ++ text) stands.bytes_are ∙ append_assoc (flat_map print_chunk stands.chunks) stands.tail text
            ∙ ap (λ (t : List ℕ). flat_map print_chunk stands.chunks ++ t)
            (ap (λ (t : List ℕ). t ++ text) stands.at.3 ∙ append_assoc (line_text line) (13 ∷ 10 ∷ []) text
            ∙ ap (λ (t : List ℕ). line_text line ++ 13 ∷ 10 ∷ t) (sym (append-nil text)));
        content_is = stands.content_is ∙ ap (λ (t : List ℕ). content_of stands.chunks ++ t) stands.at.2 ∙ append-nil (content_of stands.chunks);
      };
      each = stands.each;
      last = stands.at.1.short;
    }

pub trailer_refused : (old new : HeadReading) (byte : ℕ) (bytes content : List ℕ) (came : Came old InTrailer bytes content)
    → IsRefused Trailer (came.1 ++ byte ∷ []) new → NeverChunked (bytes ++ byte ∷ [])
trailer_refused old new byte bytes content came refused =
    let stands = came.3 in
    let line = stands.at.0 in
    let text = came.1 ++ byte ∷ [] in
    never_from stands.chunks (stands.tail ++ text) (bytes ++ byte ∷ []) stands.each
    (ap (λ (t : List ℕ). t ++ byte ∷ []) came.2 ∙ append_assoc came.0 came.1 (byte ∷ [])
    ∙ ap (λ (t : List ℕ). t ++ text) stands.bytes_are ∙ append_assoc (flat_map print_chunk stands.chunks) stands.tail text)
    (bad_trailer line (stands.tail ++ text) text stands.at.1.short.valid stands.at.1.sized
    (ap (λ (t : List ℕ). t ++ text) stands.at.3 ∙ append_assoc (line_text line) (13 ∷ 10 ∷ []) text) refused.never)

-- ---- the bytes of a chunk

-- so many bytes more of a chunk, and more to come
pub data_more : (left : ℕ) (bytes content piece : List ℕ) → Stands (InData left) bytes content → length piece < left
    → Stands (InData (left - length piece)) (bytes ++ piece) (content ++ piece)
data_more left bytes content piece stands few =
    let line = stands.at.0 in
    record {
      chunks = stands.chunks;
      tail = stands.tail ++ piece;
      part = stands.part ++ piece;
      each = stands.each;
      bytes_are = ap (λ (t : List ℕ). t ++ piece) stands.bytes_are ∙ append_assoc (flat_map print_chunk stands.chunks) stands.tail piece;
      content_is = ap (λ (t : List ℕ). t ++ piece) stands.content_is ∙ append_assoc (content_of stands.chunks) stands.part piece;
      at = (
        line,
        record { short = stands.at.1.short; sized = stands.at.1.sized ∙ omega (arith, length-append stands.part piece) },
        omega arith,
        ap (λ (t : List ℕ). t ++ piece) stands.at.3 ∙ append_assoc (line_text line) (13 ∷ 10 ∷ stands.part) piece,
      );
    }

-- the rest of a chunk
pub data_whole : (left : ℕ) (bytes content piece : List ℕ) → Stands (InData left) bytes content → length piece ≡ left
    → Stands DataEnd (bytes ++ piece) (content ++ piece)
data_whole left bytes content piece stands all =
    let line = stands.at.0 in
    record {
      chunks = stands.chunks;
      tail = stands.tail ++ piece;
      part = stands.part ++ piece;
      each = stands.each;
      bytes_are = ap (λ (t : List ℕ). t ++ piece) stands.bytes_are ∙ append_assoc (flat_map print_chunk stands.chunks) stands.tail piece;
      content_is = ap (λ (t : List ℕ). t ++ piece) stands.content_is ∙ append_assoc (content_of stands.chunks) stands.part piece;
      at = (
        line,
        record { short = stands.at.1.short; sized = stands.at.1.sized ∙ omega (arith, length-append stands.part piece) },
        omega (arith, length-append stands.part piece, stands.at.2),
        ap (λ (t : List ℕ). t ++ piece) stands.at.3 ∙ append_assoc (line_text line) (13 ∷ 10 ∷ stands.part) piece,
      );
    }

-- ---- a byte of a line

pub stands_of : (trailer : HeadReading) (place : Place) (bytes content : List ℕ) → is_at_line place ≡ true → Came trailer place bytes content
    → Stands place bytes content
stands_of trailer (InSize size) bytes content line came = came
stands_of trailer (InExtension size len) bytes content line came = came
stands_of trailer (LineFeed size) bytes content line came = came
stands_of trailer (InData left) bytes content line came = came
stands_of trailer DataEnd bytes content line came = came
stands_of trailer DataLineFeed bytes content line came = came
stands_of trailer Between bytes content line came = absurd (cc)
stands_of trailer InTrailer bytes content line came = absurd (cc)
stands_of trailer Whole bytes content line came = absurd (cc)

-- the 257th byte of an extension ends a line of so many
long_line : (size len byte : ℕ) (bytes content : List ℕ) → Stands (InExtension size len) bytes content → len ≡ 256 → byte ≢ 13 → byte ≢ 10
    → EndsInLongLine (bytes ++ byte ∷ [])
long_line size len byte bytes content stands full not_cr not_lf =
    let here = stands.at in
    let valid = here.2.short.valid in
    let longer : stands.tail ++ byte ∷ [] ≡ here.0 ++ 59 ∷ (here.1 ++ byte ∷ []) =
    ap (λ (t : List ℕ). t ++ byte ∷ []) here.3 ∙ append_assoc here.0 (59 ∷ here.1) (byte ∷ []) in
    record {
      chunks = stands.chunks;
      line = extended here.0 (here.1 ++ byte ∷ []);
      each = stands.each;
      valid = record {
        some = valid.some;
        few = valid.few;
        digits = valid.digits;
        extension = All-push (λ v. is_extension_byte v ≡ true) here.1 byte valid.extension (plain byte not_cr not_lf);
      };
      long = omega (arith, ap length longer, length-append stands.tail (byte ∷ []), here.4);
      is =
          ap (λ (t : List ℕ). t ++ byte ∷ []) stands.bytes_are ∙ append_assoc (flat_map print_chunk stands.chunks) stands.tail (byte ∷ [])
          ∙ ap (λ (t : List ℕ). flat_map print_chunk stands.chunks ++ t) longer;
    }

pub line_refused : (trailer : HeadReading) (place : Place) (byte : ℕ) (fault : ChunkFault) (limit : ℕ) (bytes content : List ℕ)
    → is_at_line place ≡ true → Came trailer place bytes content → Refuses place byte (Err fault)
    → RefusesNext limit bytes content byte fault
line_refused trailer place byte BadChunk limit bytes content line came refuses =
    never_after place byte bytes content (stands_of trailer place bytes content line came) refuses
line_refused trailer (InSize size) byte (TooLarge most) limit bytes content line came refuses = absurd refuses
line_refused trailer (InExtension size len) byte (TooLarge most) limit bytes content line came refuses =
    inr (refuses.1, long_line size len byte bytes content came refuses.0 refuses.2 refuses.3)
line_refused trailer (LineFeed size) byte (TooLarge most) limit bytes content line came refuses = absurd refuses
line_refused trailer (InData left) byte (TooLarge most) limit bytes content line came refuses = absurd refuses
line_refused trailer DataEnd byte (TooLarge most) limit bytes content line came refuses = absurd refuses
line_refused trailer DataLineFeed byte (TooLarge most) limit bytes content line came refuses = absurd refuses
line_refused trailer Between byte (TooLarge most) limit bytes content line came refuses = absurd refuses
line_refused trailer InTrailer byte (TooLarge most) limit bytes content line came refuses = absurd refuses
line_refused trailer Whole byte (TooLarge most) limit bytes content line came refuses = absurd refuses

-- ---- the answers of the trailer's reading

pub answered_more : (answer : Progress) (text piece : List ℕ) (new : HeadReading) → answer ≡ More → AnswersHead (Ok answer) Trailer text piece new
    → IsMore Trailer (text ++ piece) new
answered_more answer text piece new e answers = subst (λ (x : Progress). AnswersHead (Ok x) Trailer text piece new) e answers

pub answered_whole : (answer : Progress) (used : ℕ) (text piece : List ℕ) (new : HeadReading) → answer ≡ WholeHead used
    → AnswersHead (Ok answer) Trailer text piece new → IsWhole Trailer text piece used new
answered_whole answer used text piece new e answers = subst (λ (x : Progress). AnswersHead (Ok x) Trailer text piece new) e answers
