-- A chunked body that is not whole: what of it has come (RFC 9112 section 7.1).
use Rattle.std.specs.Prelude.{◌≡◌, ◌⊎◌, ℕ, ◌<◌, List, [], ◌∷◌, ◌++◌, length, take, All}
use Rattle.std.specs.List.{flat_map}
use Rattle.httparse.specs.Ascii.{crlf_bytes, carriage_return}
use Rattle.sz_http.specs.declared.kind.Kind.TheVariants.{Trailer}
use Rattle.sz_http.specs.Head.{IsUnfinished}
use Rattle.sz_http.specs.Chunked.{SizeLine, line_text, line_size, IsShortLine, Chunk, print_chunk, IsShortChunk, content_of}

-- a front of a line and of the CR behind it
pub record IsInLine (tail : List ℕ) : Type 0 where
  pub line : SizeLine
  pub left : List ℕ
  pub short : IsShortLine line
  pub is : tail ++ left ≡ line_text line ++ carriage_return ∷ []

-- the line of a chunk, and behind it a front of its bytes and of their CR LF, which is not all; the part is the bytes
-- among it
pub record IsInChunk (tail part : List ℕ) : Type 0 where
  pub chunk : Chunk
  pub behind : List ℕ
  pub left : List ℕ
  pub short : IsShortChunk chunk
  pub some : 0 < length left
  pub is : tail ≡ line_text chunk.line ++ (crlf_bytes ++ behind)
  pub front : behind ++ left ≡ chunk.bytes ++ crlf_bytes
  pub part_is : part ≡ take (length behind) chunk.bytes

-- the line of size 0, and behind it a front of the trailer, which is not all
pub record IsInTrailer (tail : List ℕ) : Type 0 where
  pub line : SizeLine
  pub front : List ℕ
  pub short : IsShortLine line
  pub zero_size : line_size line ≡ 0
  pub is : tail ≡ line_text line ++ (crlf_bytes ++ front)
  pub unfinished : IsUnfinished Trailer front

-- what has come behind the whole chunks, and which bytes of a chunk are among it
abbrev pub IsBehindChunks : List ℕ → List ℕ → Type 0
IsBehindChunks tail part =
    (IsInLine tail × (part ≡ [])) ⊎ (IsInChunk tail part ⊎ (IsInTrailer tail × (part ≡ [])))

-- the text is a part of a chunked body, which is not whole: this is the content so far, and each line is short
pub record IsPart (text content : List ℕ) : Type 0 where
  pub chunks : List Chunk
  pub tail : List ℕ
  pub part : List ℕ
  pub each : All IsShortChunk chunks
  pub text_is : text ≡ flat_map print_chunk chunks ++ tail
  pub content_is : content ≡ content_of chunks ++ part
  pub behind : IsBehindChunks tail part
