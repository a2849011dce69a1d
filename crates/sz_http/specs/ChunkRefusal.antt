-- Why a chunked body is refused, told by the byte that decides it.
use Rattle.std.specs.Prelude.{◌≡◌, ◌⊎◌, ℕ, ◌+◌, ◌≤◌, List, [], ◌∷◌, ◌++◌, length, All}
use Rattle.std.specs.List.{flat_map}
use Rattle.sz_http.specs.declared.chunk_fault.ChunkFault.{ChunkFault}
use Rattle.sz_http.specs.declared.chunk_fault.ChunkFault.TheVariants.{BadChunk, TooLarge}
use Rattle.sz_http.specs.Chunked.{SizeLine, line_text, most_line_bytes, IsSizeLine, Chunk, print_chunk, IsShortChunk, NeverChunked}
use Rattle.sz_http.specs.ChunkPart.{IsPart}

-- the text ends with the 257th byte of a line
pub record EndsInLongLine (text : List ℕ) : Type 0 where
  pub chunks : List Chunk
  pub line : SizeLine
  pub each : All IsShortChunk chunks
  pub valid : IsSizeLine line
  pub long : length (line_text line) ≡ most_line_bytes + 1
  pub is : text ≡ flat_map print_chunk chunks ++ line_text line

-- the byte behind a part is one of the content, of which so many bytes have come
abbrev pub IsPast : ℕ → List ℕ → List ℕ → ℕ → Type 0
IsPast limit front content byte = (length content ≡ limit) × IsPart (front ++ byte ∷ []) (content ++ byte ∷ [])

-- why the byte behind a part of a body is refused: it is that of no body, one past the limit, or the 257th of a line
abbrev pub RefusesNext : ℕ → List ℕ → List ℕ → ℕ → ChunkFault → Type 0
RefusesNext limit front content byte BadChunk = NeverChunked (front ++ byte ∷ [])
RefusesNext limit front content byte (TooLarge most) = ((most ≡ limit) × IsPast limit front content byte)
    ⊎ ((most ≡ most_line_bytes) × EndsInLongLine (front ++ byte ∷ []))

-- a front of the text is a part of a chunked body within the limits, and the byte behind it is refused
pub record IsRefused (limit : ℕ) (text : List ℕ) (fault : ChunkFault) : Type 0 where
  pub front : List ℕ
  pub content : List ℕ
  pub byte : ℕ
  pub rest : List ℕ
  pub text_is : text ≡ front ++ byte ∷ rest
  pub part : IsPart front content
  pub few : length content ≤ limit
  pub why : RefusesNext limit front content byte fault
