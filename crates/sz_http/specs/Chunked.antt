-- Chunked bodies (RFC 9112 section 7.1).
use Rattle.std.specs.Prelude.{◌≡◌, ℕ, ◌<◌, ◌≤◌, List, ◌++◌, length, All, Option}
use Rattle.std.specs.List.{flat_map}
use Rattle.std.specs.Char.{is_ascii_hexdigit}
use Rattle.std.specs.Str.Parse.{digits_value}
use Rattle.httparse.specs.Ascii.{crlf_bytes}
use Rattle.httparse.specs.Grammar.{AllPass, IsExtension, print_extension}
use Rattle.sz_http.specs.declared.kind.Kind.TheVariants.{Trailer}
use Rattle.sz_http.specs.Head.{IsHead}

-- the line before a chunk: its size in hexadecimal digits, and maybe an extension
pub record SizeLine : Type 0 where
  pub digits : List ℕ
  pub extension : Option (List ℕ)

-- the line's text, without the CR LF that ends it
abbrev pub line_text : SizeLine → List ℕ
line_text line = line.digits ++ print_extension line.extension

-- the number that the digits write
abbrev pub line_size : SizeLine → ℕ
line_size line = digits_value 16 line.digits

-- 1 to 16 digits, and an extension without CR or LF
pub record IsSizeLine (line : SizeLine) : Type 0 where
  pub some : 0 < length line.digits
  pub few : length line.digits ≤ 16
  pub digits : AllPass is_ascii_hexdigit line.digits
  pub extension : IsExtension line.extension

-- how long the text of a line may be
abbrev pub most_line_bytes : ℕ
most_line_bytes = 256

-- a line of at most so many bytes
pub record IsShortLine (line : SizeLine) : Type 0 where
  pub valid : IsSizeLine line
  pub few : length (line_text line) ≤ most_line_bytes

-- a chunk: its line, and its bytes
pub record Chunk : Type 0 where
  pub line : SizeLine
  pub bytes : List ℕ

abbrev pub print_chunk : Chunk → List ℕ
print_chunk chunk = line_text chunk.line ++ (crlf_bytes ++ (chunk.bytes ++ crlf_bytes))

-- as many bytes as its line says, and at least one
pub record IsChunk (chunk : Chunk) : Type 0 where
  pub line : IsSizeLine chunk.line
  pub some : 0 < length chunk.bytes
  pub size : line_size chunk.line ≡ length chunk.bytes

-- a chunk with a line of at most 256 bytes
pub record IsShortChunk (chunk : Chunk) : Type 0 where
  pub valid : IsChunk chunk
  pub few : length (line_text chunk.line) ≤ most_line_bytes

-- the bytes of all chunks
abbrev pub content_of : List Chunk → List ℕ
content_of chunks = flat_map (λ chunk. chunk.bytes) chunks

-- the text is a chunked body of this content, and then rest: chunks, a line of size 0, and a trailer
pub record ReadsChunked (text content rest : List ℕ) : Type 0 where
  pub chunks : List Chunk
  pub last : SizeLine
  pub trailer : List ℕ
  pub each : All IsChunk chunks
  pub last_line : IsSizeLine last
  pub zero_size : line_size last ≡ 0
  pub is_trailer : IsHead Trailer trailer
  pub text_is : text ≡ flat_map print_chunk chunks ++ (line_text last ++ (crlf_bytes ++ (trailer ++ rest)))
  pub content_is : content ≡ content_of chunks

-- the same, and each line has at most 256 bytes
pub record ReadsShort (text content rest : List ℕ) : Type 0 where
  pub reads : ReadsChunked text content rest
  pub each : All IsShortChunk reads.chunks
  pub last : IsShortLine reads.last

-- some front of the text is a chunked body
abbrev pub BeginsChunked : List ℕ → Type 0
BeginsChunked text = (content : List ℕ) × (rest : List ℕ) × ReadsChunked text content rest

-- no bytes can follow that make a chunked body of a front of the text
abbrev pub NeverChunked : List ℕ → Type 0
NeverChunked text = (more : List ℕ) → ¬ (BeginsChunked (text ++ more))
