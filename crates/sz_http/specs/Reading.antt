-- A message that is read as its bytes come.
use Rattle.std.specs.Prelude.{◌≡◌, ◌⊎◌, ℕ, ◌+◌, ◌<◌, ◌≤◌, Bool, true, false, List, [], ◌++◌, length, take, IsTrue, Result, Ok, Err}
use Rattle.sz_http.specs.declared.kind.Kind.{Kind}
use Rattle.sz_http.specs.declared.head_reading.HeadReading.{HeadReading}
use Rattle.sz_http.specs.Head.{IsHead, HasNoHead, IsUnfinished}
use Rattle.sz_http.specs.Parts.{Parts}
use Rattle.sz_http.specs.HeadReading.{Takes as TakesHead}
use Rattle.sz_http.specs.declared.framing.Framing.TheVariants.{Length, Chunks, UntilEnd as ToTheEnd}
use Rattle.sz_http.specs.ChunkPart.{IsPart}
use Rattle.sz_http.specs.ChunkReading.{Takes as TakesChunks}
use Rattle.sz_http.specs.declared.side.Side.{Side}
use Rattle.sz_http.specs.declared.fault.HttpFault.{HttpFault}
use Rattle.sz_http.specs.declared.fed.Fed.{Fed}
use Rattle.sz_http.specs.declared.reading.Reading.{Reading}
use Rattle.sz_http.specs.declared.reading.Stage.{Stage}
use Rattle.sz_http.specs.declared.reading.Stage.TheVariants.{InHead, Counted, Chunked, UntilEnd, Done, Failed}
use Rattle.sz_http.specs.Message.{kind_of, IsFramed, HasBody}
use Rattle.sz_http.specs.Verdict.{Verdict, needs_more, done_with, refused}

-- which messages the reading takes
abbrev pub side_of : Reading → Side
side_of reading = reading.side

-- the head's reading has taken a front of the bytes that is a head, or no front of the bytes is one
pub record HasTakenHead (reading : HeadReading) (kind : Kind) (bytes : List ℕ) : Type 0 where
  pub text : List ℕ
  pub after : List ℕ
  pub bytes_are : bytes ≡ text ++ after
  pub taken : TakesHead reading kind text
  pub end : IsHead kind text ⊎ HasNoHead kind bytes

-- what the stage says of the bytes so far and of the bytes of the body among them
abbrev pub Stands : Stage → Reading → Side → ℕ → List ℕ → Bool → List ℕ → Type 0
Stands InHead reading side limit bytes ended body =
    (ended ≡ false) × TakesHead reading.head (kind_of side) bytes × IsUnfinished (kind_of side) bytes × (body ≡ [])
Stands (Counted left) reading side limit bytes ended body =
    (ended ≡ false) × (0 < left)
    × ((head : Parts) × IsFramed side limit bytes (Ok (Length (length body + left))) head body)
Stands Chunked reading side limit bytes ended body = (ended ≡ false)
    × ((head : Parts) × (after : List ℕ) × IsFramed side limit bytes (Ok Chunks) head after
    × TakesChunks reading.chunks limit after body × IsPart after body × (length body ≤ limit))
Stands (UntilEnd room) reading side limit bytes ended body =
    (ended ≡ false) × (length body + room ≡ limit)
    × ((head : Parts) × IsFramed side limit bytes (Ok ToTheEnd) head body)
Stands Done reading side limit bytes ended body =
    (head : Parts) × Verdict side limit bytes ended (done_with head body (length bytes))
Stands (Failed fault) reading side limit bytes ended body = Verdict side limit bytes ended (refused fault)

-- the reading is one of a message of this side whose body may have so many bytes; it has taken these bytes of it, after
-- which the stream has ended or not, and has given these bytes of the body
pub record Takes (reading : Reading) (side : Side) (limit : ℕ) (bytes : List ℕ) (ended : Bool) (body : List ℕ)
    : Type 0 where
  pub sided : reading.side ≡ side
  pub limited : reading.limit ≡ limit
  pub head : HasTakenHead reading.head (kind_of side) bytes
  pub stands : Stands reading.stage reading side limit bytes ended body

-- the reading has read a whole message
abbrev pub IsDone : Reading → Type 0
IsDone reading = reading.stage ≡ Done

-- the reading has refused the message for this
abbrev pub HasRefused : Reading → HttpFault → Type 0
HasRefused reading fault = reading.stage ≡ Failed fault

-- what was taken of a piece: a front of it, with the bytes of the body in it, and the verdict on the bytes up to there
pub record Took (side : Side) (limit : ℕ) (before body piece : List ℕ) (reading : Reading) (fed : Fed) : Type 0 where
  pub within : fed.used ≤ length piece
  pub taken : Takes reading side limit (before ++ take fed.used piece) false (body ++ fed.body.now)
  pub body_is : HasBody side limit (before ++ take fed.used piece) (body ++ fed.body.now)
  pub done : IsTrue fed.done
      → (head : Parts) × Verdict side limit (before ++ take fed.used piece) false
      (done_with head (body ++ fed.body.now) (length before + fed.used))
  pub more : fed.done ≡ false → Verdict side limit (before ++ take fed.used piece) false needs_more
  pub moves : (fed.used ≡ 0) → (length piece ≡ 0) ⊎ IsTrue fed.done

-- the bytes are refused for this
pub record Refuses (side : Side) (limit : ℕ) (bytes : List ℕ) (ended : Bool) (body : List ℕ) (reading : Reading)
    (fault : HttpFault) : Type 0 where
  pub taken : Takes reading side limit bytes ended body
  pub verdict : Verdict side limit bytes ended (refused fault)

-- what the answer on a piece means, after these bytes of which these are the body's
abbrev pub Answers : Result Fed HttpFault → Side → ℕ → List ℕ → List ℕ → List ℕ → Reading → Type 0
Answers (Ok fed) side limit before body piece reading = Took side limit before body piece reading fed
Answers (Err fault) side limit before body piece reading = Refuses side limit (before ++ piece) false body reading fault

-- the message is whole with the end of the stream
pub record IsWholeAtEnd (side : Side) (limit : ℕ) (bytes body : List ℕ) (reading : Reading) : Type 0 where
  pub taken : Takes reading side limit bytes true body
  pub verdict : (head : Parts) × Verdict side limit bytes true (done_with head body (length bytes))

-- what the answer on the end of the stream means, after these bytes of which these are the body's
abbrev pub EndAnswers : {U : Type 0} → Result U HttpFault → Side → ℕ → List ℕ → List ℕ → Reading → Type 0
EndAnswers (Ok unit) side limit bytes body reading = IsWholeAtEnd side limit bytes body reading
EndAnswers (Err fault) side limit bytes body reading = Refuses side limit bytes true body reading fault

-- nothing of a piece was taken, since the message is whole
pub record TakesNothing (fed : Fed) : Type 0 where
  pub used : fed.used ≡ 0
  pub body : fed.body.now ≡ []
  pub done : IsTrue fed.done

-- what it means to begin with the body behind this head: the body is empty, more is needed, or the head is refused
-- whatever follows it
abbrev pub Enters : Result Bool HttpFault → Side → ℕ → List ℕ → Reading → Type 0
Enters (Ok true) side limit text reading =
    Takes reading side limit text false []
    × ((head : Parts) × Verdict side limit text false (done_with head [] (length text)))
Enters (Ok false) side limit text reading =
    Takes reading side limit text false [] × Verdict side limit text false needs_more
Enters (Err fault) side limit text reading =
    (after : List ℕ) → Refuses side limit (text ++ after) false [] reading fault
