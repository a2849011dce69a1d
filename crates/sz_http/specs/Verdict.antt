-- The verdict on the first bytes of a message: more is needed, it is whole, or it is refused.
use Rattle.std.specs.Prelude.{◌≡◌, ◌≢◌, ◌⊎◌, ℕ, ◌<◌, Bool, true, false, List, length, Ok, Err, ⊤}
use Rattle.sz_http.specs.Head.{IsUnfinished, NeverHasHead}
use Rattle.sz_http.specs.Parts.{Parts}
use Rattle.sz_http.specs.declared.framing.Framing.{Framing}
use Rattle.sz_http.specs.declared.framing.Framing.TheVariants.{Chunks, UntilEnd}
use Rattle.sz_http.specs.declared.framing.FramingFault.{FramingFault}
use Rattle.sz_http.specs.declared.framing.FramingFault.TheVariants.{BadHead as BadFraming, Coding as BadCoding, TooLarge as TooLongDeclared}
use Rattle.sz_http.specs.declared.chunk_fault.ChunkFault.{ChunkFault}
use Rattle.sz_http.specs.declared.chunk_fault.ChunkFault.TheVariants.{BadChunk as BadChunks, TooLarge as TooManyChunks}
use Rattle.sz_http.specs.ChunkRefusal.{IsRefused as IsRefusedBody}
use Rattle.sz_http.specs.declared.side.Side.{Side}
use Rattle.sz_http.specs.declared.fault.HttpFault.{HttpFault}
use Rattle.sz_http.specs.declared.fault.HttpFault.TheVariants.{BadHead, BadChunk, TooLarge, Coding, EndedEarly}
use Rattle.sz_http.specs.Message.{kind_of, IsFramed, IsMessage, EndsInBody}

-- what a verdict can be: a message with this head and this body that has so many of the bytes, or a fault
pub data Outcome : Type 0 where
  needs_more : Outcome
  done_with : Parts → List ℕ → ℕ → Outcome
  refused : HttpFault → Outcome

abbrev pub framing_fault : FramingFault → HttpFault
framing_fault BadFraming = BadHead
framing_fault BadCoding = Coding
framing_fault (TooLongDeclared limit) = TooLarge limit

abbrev pub chunk_fault : ChunkFault → HttpFault
chunk_fault BadChunks = BadChunk
chunk_fault (TooManyChunks limit) = TooLarge limit

-- the fields of the head are refused for this
abbrev pub IsRefusedHead : Side → ℕ → List ℕ → FramingFault → Type 0
IsRefusedHead side limit bytes fault =
    (head : Parts) × (after : List ℕ) × IsFramed side limit bytes (Err fault) head after

-- the chunked body behind the head is refused for this
abbrev pub HasRefusedChunks : Side → ℕ → List ℕ → ChunkFault → Type 0
HasRefusedChunks side limit bytes fault =
    (head : Parts) × (after : List ℕ) × IsFramed side limit bytes (Ok Chunks) head after
    × IsRefusedBody limit after fault

-- the body behind the head runs to the end of the stream, and past the limit
abbrev pub RunsPast : Side → ℕ → List ℕ → Type 0
RunsPast side limit bytes =
    (head : Parts) × (after : List ℕ) × IsFramed side limit bytes (Ok UntilEnd) head after × (limit < length after)

-- the bytes end inside the head or inside the body
abbrev pub IsOpen : Side → ℕ → List ℕ → Type 0
IsOpen side limit bytes =
    IsUnfinished (kind_of side) bytes ⊎ ((framing : Framing) × EndsInBody side limit bytes framing)

-- the bytes end inside the head, or inside a body that doesn't run to the end of the stream
abbrev pub EndsTooEarly : Side → ℕ → List ℕ → Type 0
EndsTooEarly side limit bytes =
    IsUnfinished (kind_of side) bytes
    ⊎ ((framing : Framing) × EndsInBody side limit bytes framing × (framing ≢ UntilEnd))

-- the message is refused for this
abbrev pub IsRefused : Side → ℕ → List ℕ → Bool → HttpFault → Type 0
IsRefused side limit bytes ended BadHead =
    NeverHasHead (kind_of side) bytes ⊎ IsRefusedHead side limit bytes BadFraming
IsRefused side limit bytes ended BadChunk = HasRefusedChunks side limit bytes BadChunks
IsRefused side limit bytes ended (TooLarge most) = IsRefusedHead side limit bytes (TooLongDeclared most)
    ⊎ (HasRefusedChunks side limit bytes (TooManyChunks most) ⊎ (RunsPast side limit bytes × (most ≡ limit)))
IsRefused side limit bytes ended Coding = IsRefusedHead side limit bytes BadCoding
IsRefused side limit bytes ended EndedEarly = (ended ≡ true) × EndsTooEarly side limit bytes

-- the verdict on these bytes, after which the stream has ended or not
abbrev pub Verdict : Side → ℕ → List ℕ → Bool → Outcome → Type 0
Verdict side limit bytes ended needs_more = (ended ≡ false) × IsOpen side limit bytes
Verdict side limit bytes ended (done_with head body used) = IsMessage side limit bytes ended head body used
Verdict side limit bytes ended (refused fault) = IsRefused side limit bytes ended fault

-- the verdict is one that stands
abbrev pub IsFinal : Outcome → Type 0
IsFinal needs_more = ⊥
IsFinal (done_with head body used) = ⊤
IsFinal (refused fault) = ⊤

-- with the end of the stream the bytes are a whole message, or they end too early
abbrev pub ComesToAnEnd : Side → ℕ → List ℕ → Type 0
ComesToAnEnd side limit bytes =
    ((head : Parts) × (body : List ℕ) × Verdict side limit bytes true (done_with head body (length bytes)))
    ⊎ Verdict side limit bytes true (refused EndedEarly)
