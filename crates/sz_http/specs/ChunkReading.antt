-- A chunked body that is read as its bytes come.
use Rattle.std.specs.Prelude.{◌≡◌, ◌⊎◌, ℕ, ◌+◌, ◌≤◌, List, [], ◌++◌, length, take, All, IsTrue, false, Some, None, Result, Ok, Err}
use Rattle.std.specs.List.{flat_map}
use Rattle.sz_http.specs.declared.kind.Kind.TheVariants.{Trailer}
use Rattle.sz_http.specs.declared.head_reading.HeadReading.{HeadReading}
use Rattle.sz_http.specs.Head.{IsUnfinished}
use Rattle.sz_http.specs.HeadReading.{Takes as TakesHead}
use Rattle.sz_http.specs.declared.chunked_body.ChunkedBody.{ChunkedBody}
use Rattle.sz_http.specs.declared.fed_chunks.FedChunks.{FedChunks}
use Rattle.sz_http.specs.declared.chunk_fault.ChunkFault.{ChunkFault}
use Rattle.sz_http.specs.declared.chunk_place.Place.{Place}
use Rattle.sz_http.specs.declared.chunk_place.Place.TheVariants.{Between, InTrailer, Whole}
use Rattle.sz_http.specs.Chunked.{Chunk, print_chunk, IsShortChunk, content_of, ReadsShort}
use Rattle.sz_http.specs.ChunkPart.{IsPart}
use Rattle.sz_http.specs.ChunkPlace.{At}
use Rattle.sz_http.specs.ChunkRefusal.{IsRefused}

-- the bytes are whole chunks and what has come behind them at the place, and the content so far is theirs
pub record Stands (place : Place) (bytes content : List ℕ) : Type 0 where
  pub chunks : List Chunk
  pub tail : List ℕ
  pub part : List ℕ
  pub each : All IsShortChunk chunks
  pub bytes_are : bytes ≡ flat_map print_chunk chunks ++ tail
  pub content_is : content ≡ content_of chunks ++ part
  pub at : At place tail part

-- the bytes have come to the place: in the trailer behind the line of size 0, and behind the body with all of it
abbrev pub Came : HeadReading → Place → List ℕ → List ℕ → Type 0
Came trailer InTrailer bytes content =
    (front : List ℕ) × (text : List ℕ) × (bytes ≡ front ++ text) × Stands InTrailer front content
    × TakesHead trailer Trailer text × IsUnfinished Trailer text
Came trailer Whole bytes content = ReadsShort bytes content []
Came trailer Between bytes content = ⊥
Came trailer place bytes content = Stands place bytes content

-- the reading is one of a body of at most so many bytes, and has taken these bytes, which have this content
pub record Takes (reading : ChunkedBody) (limit : ℕ) (bytes content : List ℕ) : Type 0 where
  pub limited : reading.limit ≡ limit
  pub going : reading.failed ≡ None
  pub room : length content + reading.room ≡ limit
  pub came : Came reading.trailer reading.place bytes content

-- the reading has refused the body for this
abbrev pub HasRefused : ChunkedBody → ChunkFault → Type 0
HasRefused reading fault = reading.failed ≡ Some fault

-- the bytes taken are a part of a body within the limits, which is not whole
pub record IsMore (limit : ℕ) (bytes content : List ℕ) : Type 0 where
  pub part : IsPart bytes content
  pub few : length content ≤ limit

-- the bytes taken are a body within the limits
pub record IsWhole (limit : ℕ) (bytes content : List ℕ) : Type 0 where
  pub reads : ReadsShort bytes content []
  pub few : length content ≤ limit

-- what was taken of a piece: a front of it, with the bytes of the body in it
pub record Took (limit : ℕ) (before content piece : List ℕ) (reading : ChunkedBody) (fed : FedChunks) : Type 0 where
  pub within : fed.used ≤ length piece
  pub taken : Takes reading limit (before ++ take fed.used piece) (content ++ fed.body.now)
  pub done : IsTrue fed.done → IsWhole limit (before ++ take fed.used piece) (content ++ fed.body.now)
  pub more : fed.done ≡ false → IsMore limit (before ++ take fed.used piece) (content ++ fed.body.now)
  pub moves : (fed.used ≡ 0) → (length piece ≡ 0) ⊎ IsTrue fed.done

-- what the answer on a piece means, after these bytes with this content
abbrev pub Answers : Result FedChunks ChunkFault → ℕ → List ℕ → List ℕ → List ℕ → ChunkedBody → Type 0
Answers (Ok fed) limit before content piece reading = Took limit before content piece reading fed
Answers (Err fault) limit before content piece reading = IsRefused limit (before ++ piece) fault
