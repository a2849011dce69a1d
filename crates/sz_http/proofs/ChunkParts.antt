-- What has come of a chunked body at each place is a part of one.
use Rattle.std.proofs.Common.{◌≡◌, ◌≢◌, ℕ, ◌+◌, ◌<◌, true, List, [], ◌∷◌, ◌++◌, length, take, replicate, refl, sym, ap, ◌∙◌, arith, append_assoc, append-nil, length-append, take_all, le_refl, inl, inr, None}
use Rattle.std.proofs.Math.Seq.{take-append_seam}
use Rattle.std.proofs.lemmas.List.{length-replicate}
use Rattle.std.proofs.lemmas.List.Elements.{All-cons, All-nil}
use Rattle.std.specs.List.{flat_map}
use Rattle.std.specs.Char.{is_ascii_hexdigit}
use Rattle.sz_http.specs.declared.head_reading.HeadReading.{HeadReading}
use Rattle.sz_http.specs.declared.chunk_size.Size.{Size}
use Rattle.sz_http.specs.declared.chunk_place.Place.{Place}
use Rattle.sz_http.specs.declared.chunk_place.Place.TheVariants.{InSize, InExtension, LineFeed, InData, DataEnd, DataLineFeed, Between, InTrailer, Whole}
use Rattle.sz_http.specs.Chunked.{SizeLine, line_text, IsShortLine, print_chunk, IsShortChunk}
use Rattle.sz_http.specs.ChunkPart.{IsInLine, IsInChunk, IsBehindChunks, IsPart}
use Rattle.sz_http.specs.ChunkPlace.{At, IsLineOf, extended}
use Rattle.sz_http.specs.ChunkReading.{Stands, Came}
use Rattle.sz_http.proofs.ChunkSteps.{plain_of}

-- ---- a line

-- the line of size 0 that has nothing but its digit
abbrev pub zero_line : SizeLine
zero_line = record { digits = 48 ∷ []; extension = None }

pub zero_short : IsShortLine zero_line
zero_short = record {
  valid = record {
    some = omega arith;
    few = omega arith;
    digits = All-cons (λ v. is_ascii_hexdigit v ≡ true) 48 [] refl (All-nil (λ v. is_ascii_hexdigit v ≡ true));
    extension = tt;
  };
  few = omega arith;
}

no_digit : IsInLine []
no_digit = record { line = zero_line; left = 48 ∷ 13 ∷ []; short = zero_short; is = refl }

digits_in : (size : Size) (tail part : List ℕ) → At (InSize size) tail part → IsInLine tail
digits_in size [] part here = no_digit
digits_in size (digit ∷ tail) part here = record {
  line = record { digits = digit ∷ tail; extension = None };
  left = 13 ∷ [];
  short = (plain_of size (digit ∷ tail) part (λ none. omega (arith, here.1)) here).short;
  is = ap (λ (t : List ℕ). t ++ 13 ∷ []) (sym (append-nil (digit ∷ tail)));
}

extension_in : (size len : ℕ) (tail part : List ℕ) → At (InExtension size len) tail part → IsInLine tail
extension_in size len tail part here = record {
  line = extended here.0 here.1;
  left = 13 ∷ [];
  short = here.2.short;
  is = ap (λ (t : List ℕ). t ++ 13 ∷ []) here.3;
}

line_feed_in : (size : ℕ) (tail part : List ℕ) → At (LineFeed size) tail part → IsInLine tail
line_feed_in size tail part here = record {
  line = here.0;
  left = [];
  short = here.1.short;
  is = append-nil tail ∙ here.2;
}

-- before the first byte
pub nothing_part : IsPart [] []
nothing_part = record {
  chunks = [];
  tail = [];
  part = [];
  each = All-nil IsShortChunk;
  text_is = refl;
  content_is = refl;
  behind = inl (no_digit, refl);
}

-- ---- a chunk

-- a chunk of these bytes, behind whose line a front has come
chunk_in : (line : SizeLine) (bytes behind left tail part : List ℕ) → IsLineOf (length bytes) line → 0 < length bytes → 0 < length left
    → tail ≡ line_text line ++ (13 ∷ 10 ∷ behind) → behind ++ left ≡ bytes ++ 13 ∷ 10 ∷ [] → part ≡ take (length behind) bytes
    → IsInChunk tail part
chunk_in line bytes behind left tail part sized some more is front part_is = record {
  chunk = record { line = line; bytes = bytes };
  behind = behind;
  left = left;
  short = record { valid = record { line = sized.short.valid; some = some; size = sized.sized }; few = sized.short.few };
  some = more;
  is = is;
  front = front;
  part_is = part_is;
}

-- so many bytes
abbrev pub zeros : ℕ → List ℕ
zeros count = replicate count 0

pub zeros_filled : (count : ℕ) → length (zeros count) ≡ count
zeros_filled count = let none : ℕ = 0 in length-replicate count none

-- so many bytes more
filled : (part : List ℕ) (left : ℕ) → length (part ++ zeros left) ≡ length part + left
filled part left = omega (arith, length-append part (zeros left), zeros_filled left)

data_in : (left : ℕ) (tail part : List ℕ) → At (InData left) tail part → IsInChunk tail part
data_in left tail part here =
    chunk_in here.0 (part ++ zeros left) part (zeros left ++ 13 ∷ 10 ∷ []) tail part
    (record { short = here.1.short; sized = here.1.sized ∙ sym (filled part left) })
    (omega (arith, filled part left, here.2))
    (omega (arith, length-append {A = ℕ} (zeros left) (13 ∷ 10 ∷ [])))
    here.3 (sym (append_assoc part (zeros left) (13 ∷ 10 ∷ []))) (sym (take-append_seam part (zeros left)))

data_end_in : (tail part : List ℕ) → At DataEnd tail part → IsInChunk tail part
data_end_in tail part here =
    chunk_in here.0 part part (13 ∷ 10 ∷ []) tail part here.1 here.2 (omega arith) here.3 refl
    (sym (take_all (length part) part (le_refl (length part))))

data_cr_in : (tail part : List ℕ) → At DataLineFeed tail part → IsInChunk tail part
data_cr_in tail part here =
    chunk_in here.0 part (part ++ 13 ∷ []) (10 ∷ []) tail part here.1 here.2 (omega arith) here.3 (append_assoc part (13 ∷ []) (10 ∷ []))
    (sym (take_all (length (part ++ 13 ∷ [])) part (omega (arith, length-append part (13 ∷ [])))))

-- ---- all of it

part_at : (place : Place) (bytes content : List ℕ) (stands : Stands place bytes content) → IsBehindChunks stands.tail stands.part → IsPart bytes content
part_at place bytes content stands behind = record {
  chunks = stands.chunks;
  tail = stands.tail;
  part = stands.part;
  each = stands.each;
  text_is = stands.bytes_are;
  content_is = stands.content_is;
  behind = behind;
}

pub part_of : (trailer : HeadReading) (place : Place) (bytes content : List ℕ) → Came trailer place bytes content → place ≢ Whole → IsPart bytes content
part_of trailer (InSize size) bytes content came other =
    part_at (InSize size) bytes content came (inl (digits_in size came.tail came.part came.at, came.at.3))
part_of trailer (InExtension size len) bytes content came other =
    part_at (InExtension size len) bytes content came (inl (extension_in size len came.tail came.part came.at, came.at.5))
part_of trailer (LineFeed size) bytes content came other =
    part_at (LineFeed size) bytes content came (inl (line_feed_in size came.tail came.part came.at, came.at.3))
part_of trailer (InData left) bytes content came other =
    part_at (InData left) bytes content came (inr (inl (data_in left came.tail came.part came.at)))
part_of trailer DataEnd bytes content came other =
    part_at DataEnd bytes content came (inr (inl (data_end_in came.tail came.part came.at)))
part_of trailer DataLineFeed bytes content came other =
    part_at DataLineFeed bytes content came (inr (inl (data_cr_in came.tail came.part came.at)))
part_of trailer Between bytes content came other = absurd came
part_of trailer InTrailer bytes content came other =
    let stands = came.3 in
    record {
      chunks = stands.chunks;
      tail = stands.tail ++ came.1;
      part = stands.part;
      each = stands.each;
      text_is = came.2 ∙ ap (λ (t : List ℕ). t ++ came.1) stands.bytes_are ∙ append_assoc (flat_map print_chunk stands.chunks) stands.tail came.1;
      content_is = stands.content_is;
      behind = inr (inr (
        record {
          line = stands.at.0;
          front = came.1;
          short = stands.at.1.short;
          zero_size = stands.at.1.sized;
          is = ap (λ (t : List ℕ). t ++ came.1) stands.at.3 ∙ append_assoc (line_text stands.at.0) (13 ∷ 10 ∷ []) came.1;
          unfinished = came.5;
        },
        stands.at.2,
      ));
    }
part_of trailer Whole bytes content came other = absurd (other refl)
