-- The parts of a message: its head, and the body as the head frames it (RFC 9112 sections 2 to 7).
use Rattle.std.specs.Prelude.{◌≡◌, ◌⊎◌, ℕ, ◌+◌, ◌<◌, ◌≤◌, Bool, true, List, [], ◌++◌, length, take, Result, Ok}
use Rattle.sz_http.specs.declared.kind.Kind.{Kind}
use Rattle.sz_http.specs.declared.kind.Kind.TheVariants.{Request as RequestKind, Reply as ReplyKind}
use Rattle.sz_http.specs.Head.{HasNoHead, IsHead}
use Rattle.sz_http.specs.Parts.{Parts, HasParts}
use Rattle.sz_http.specs.declared.framing.Framing.{Framing}
use Rattle.sz_http.specs.declared.framing.Framing.TheVariants.{Length, Chunks, UntilEnd}
use Rattle.sz_http.specs.declared.framing.FramingFault.{FramingFault}
use Rattle.sz_http.specs.Framing.{Frames}
use Rattle.sz_http.specs.Chunked.{ReadsShort}
use Rattle.sz_http.specs.ChunkPart.{IsPart}
use Rattle.sz_http.specs.declared.side.Side.{Side}
use Rattle.sz_http.specs.declared.side.Side.TheVariants.{Request, Reply}

-- the kind of the heads of a side's messages
abbrev pub kind_of : Side → Kind
kind_of Request = RequestKind
kind_of Reply = ReplyKind

-- the bytes are a head with these parts, and then what follows it
pub record BeginsWith (side : Side) (bytes : List ℕ) (head : Parts) (after : List ℕ) : Type 0 where
  pub text : List ℕ
  pub is_head : IsHead (kind_of side) text
  pub parts : HasParts (kind_of side) text head
  pub bytes_are : bytes ≡ text ++ after

-- the bytes begin with a head whose fields frame the body behind it so, or are refused for it
pub record IsFramed (side : Side) (limit : ℕ) (bytes : List ℕ) (framing : Result Framing FramingFault) (head : Parts)
    (after : List ℕ) : Type 0 where
  pub begins : BeginsWith side bytes head after
  pub frames : Frames (kind_of side) head.fields limit framing

-- what follows a head is a body that is framed so, within the limit, and then rest; only a stream that has ended ends a
-- body that runs to the end
abbrev pub IsBody : Framing → ℕ → Bool → List ℕ → List ℕ → List ℕ → Type 0
IsBody (Length n) limit ended after body rest = (after ≡ body ++ rest) × (length body ≡ n)
IsBody Chunks limit ended after body rest = ReadsShort after body rest × (length body ≤ limit)
IsBody UntilEnd limit ended after body rest = (ended ≡ true) × (after ≡ body) × (rest ≡ []) × (length body ≤ limit)

-- what follows a head is a part of such a body, which is not whole
abbrev pub IsPartOfBody : Framing → ℕ → List ℕ → Type 0
IsPartOfBody (Length n) limit after = length after < n
IsPartOfBody Chunks limit after = (content : List ℕ) × IsPart after content × (length content ≤ limit)
IsPartOfBody UntilEnd limit after = length after ≤ limit

-- a message with this head and this body has so many of the bytes
pub record IsMessage (side : Side) (limit : ℕ) (bytes : List ℕ) (ended : Bool) (head : Parts) (body : List ℕ)
    (used : ℕ) : Type 0 where
  pub framing : Framing
  pub after : List ℕ
  pub rest : List ℕ
  pub framed : IsFramed side limit bytes (Ok framing) head after
  pub is_body : IsBody framing limit ended after body rest
  pub used_is : used + length rest ≡ length bytes

-- the bytes end inside a body that is framed so
pub record EndsInBody (side : Side) (limit : ℕ) (bytes : List ℕ) (framing : Framing) : Type 0 where
  pub head : Parts
  pub after : List ℕ
  pub framed : IsFramed side limit bytes (Ok framing) head after
  pub part : IsPartOfBody framing limit after

-- of what follows a head, these are the bytes of the body that is framed so
abbrev pub IsBodyOf : Framing → List ℕ → List ℕ → Type 0
IsBodyOf (Length n) after body = body ≡ take n after
IsBodyOf Chunks after body = IsPart after body ⊎ ((rest : List ℕ) × ReadsShort after body rest)
IsBodyOf UntilEnd after body = body ≡ after

-- of the bytes so far these are the body's: none before the head is whole
abbrev pub HasBody : Side → ℕ → List ℕ → List ℕ → Type 0
HasBody side limit bytes body = (HasNoHead (kind_of side) bytes × (body ≡ []))
    ⊎ ((framing : Framing) × (head : Parts) × (after : List ℕ) × IsFramed side limit bytes (Ok framing) head after
    × IsBodyOf framing after body)
