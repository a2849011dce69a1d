-- What has come of a chunked body at each place, and where a byte leads from there.
use Rattle.std.specs.Prelude.{◌≡◌, ◌≢◌, ℕ, ◌+◌, ◌<◌, List, [], ◌∷◌, ◌++◌, length, Bool, true, false, Some, ⊤, Result, Ok, Err}
use Rattle.std.specs.Char.{is_ascii_hexdigit}
use Rattle.std.specs.Str.Parse.{digits_value}
use Rattle.httparse.specs.Ascii.{crlf_bytes, carriage_return, line_feed, semicolon}
use Rattle.httparse.specs.Grammar.{AllPass}
use Rattle.sz_http.specs.declared.chunk_fault.ChunkFault.{ChunkFault}
use Rattle.sz_http.specs.declared.chunk_fault.ChunkFault.TheVariants.{BadChunk, TooLarge}
use Rattle.sz_http.specs.declared.chunk_place.Place.{Place}
use Rattle.sz_http.specs.declared.chunk_place.Place.TheVariants.{InSize, InExtension, LineFeed, InData, DataEnd}
use Rattle.sz_http.specs.declared.chunk_place.Place.TheVariants.{DataLineFeed, Between, InTrailer, Whole}
use Rattle.sz_http.specs.Chunked.{SizeLine, line_text, line_size, most_line_bytes, IsShortLine, Chunk, print_chunk, IsShortChunk, ReadsShort, BeginsChunked}

-- a line with these digits and this extension
abbrev pub extended : List ℕ → List ℕ → SizeLine
extended digits text = record { digits = digits; extension = Some text }

-- a line of this size
pub record IsLineOf (size : ℕ) (line : SizeLine) : Type 0 where
  pub short : IsShortLine line
  pub sized : line_size line ≡ size

-- what has come behind the whole chunks at a place, with the bytes of a chunk among it
abbrev pub At : Place → List ℕ → List ℕ → Type 0
At (InSize size) tail part =
    AllPass is_ascii_hexdigit tail × (length tail ≡ size.count) × (size.value ≡ digits_value 16 tail) × (part ≡ [])
At (InExtension size len) tail part =
    (digits : List ℕ) × (text : List ℕ) × IsLineOf size (extended digits text) × (tail ≡ digits ++ semicolon ∷ text)
    × (length tail ≡ len) × (part ≡ [])
At (LineFeed size) tail part =
    (line : SizeLine) × IsLineOf size line × (tail ≡ line_text line ++ carriage_return ∷ []) × (part ≡ [])
At (InData left) tail part =
    (line : SizeLine) × IsLineOf (length part + left) line × (0 < left)
    × (tail ≡ line_text line ++ (crlf_bytes ++ part))
At DataEnd tail part =
    (line : SizeLine) × IsLineOf (length part) line × (0 < length part)
    × (tail ≡ line_text line ++ (crlf_bytes ++ part))
At DataLineFeed tail part =
    (line : SizeLine) × IsLineOf (length part) line × (0 < length part)
    × (tail ≡ line_text line ++ (crlf_bytes ++ (part ++ carriage_return ∷ [])))
At Between tail part = (chunk : Chunk) × IsShortChunk chunk × (tail ≡ print_chunk chunk) × (part ≡ chunk.bytes)
At InTrailer tail part = (line : SizeLine) × IsLineOf 0 line × (part ≡ []) × (tail ≡ line_text line ++ crlf_bytes)
At Whole tail part = ReadsShort tail part []

-- no chunked body begins with the text, whatever follows it
abbrev pub NoneFrom : List ℕ → Type 0
NoneFrom tail = (more : List ℕ) → ¬ (BeginsChunked (tail ++ more))

-- where a byte leads: whatever came before it at the place stands at the next one
abbrev pub Leads : Place → ℕ → Result Place ChunkFault → Type 0
Leads place byte (Ok next) = (tail part : List ℕ) → At place tail part → At next (tail ++ byte ∷ []) part
Leads place byte (Err fault) = ⊤

-- the 257th byte of a line, which is not its CR and no byte that can't stand there
abbrev pub IsTooLongAt : Place → ℕ → ℕ → Type 0
IsTooLongAt (InExtension size len) byte most =
    (len ≡ most_line_bytes) × (most ≡ most_line_bytes) × (byte ≢ carriage_return) × (byte ≢ line_feed)
IsTooLongAt _ byte most = ⊥

-- why a byte is refused: no chunked body goes on with it, or the line is too long
abbrev pub Refuses : Place → ℕ → Result Place ChunkFault → Type 0
Refuses place byte (Ok next) = ⊤
Refuses place byte (Err BadChunk) = (tail part : List ℕ) → At place tail part → NoneFrom (tail ++ byte ∷ [])
Refuses place byte (Err (TooLarge most)) = IsTooLongAt place byte most

-- whether the place is in a line or behind a chunk's bytes
abbrev pub is_at_line : Place → Bool
is_at_line (InData left) = false
is_at_line Between = false
is_at_line InTrailer = false
is_at_line Whole = false
is_at_line _ = true

-- whether the next byte is none of the content: it is one of a line, of a chunk's end or of the trailer
abbrev pub is_framing : Place → Bool
is_framing InTrailer = true
is_framing place = is_at_line place
