-- What the bytes of a reply tell of an image for which there is so much space: its bytes, or why there is none.
use Rattle.std.specs.Prelude.{◌≡◌, ◌≢◌, ◌⊎◌, ℕ, ◌+◌, min, Bool, List, Ok}
use Rattle.sha2.specs.Sha256.{sha256}
use Rattle.sz_base.specs.declared.image.ImageFault.{ImageFault}
use Rattle.sz_base.specs.declared.image.ImageFault.TheVariants as image
use Rattle.sz_http.specs.Head.{HasNoHead}
use Rattle.sz_http.specs.Parts.{Parts}
use Rattle.sz_http.specs.declared.kind.Kind.TheVariants.{Reply as ReplyKind}
use Rattle.sz_http.specs.declared.framing.Framing.{Framing}
use Rattle.sz_http.specs.declared.framing.Framing.TheVariants.{Length}
use Rattle.sz_http.specs.declared.fault.HttpFault.TheVariants as http
use Rattle.sz_http.specs.declared.side.Side.TheVariants.{Reply}
use Rattle.sz_http.specs.Message.{IsFramed}
use Rattle.sz_http.specs.Verdict.{Verdict, done_with, refused}

-- no length that a head declares is over this
abbrev pub most_length : ℕ
most_length = 18446744073709551615

-- the bytes begin with a head of this status, whose fields frame the body so, of whatever length
pub record IsHeaded (bytes : List ℕ) (status : ℕ) (framing : Framing) : Type 0 where
  pub head : Parts
  pub after : List ℕ
  pub framed : IsFramed Reply most_length bytes (Ok framing) head after
  pub status_is : head.status ≡ status

abbrev pub HasStatus : List ℕ → ℕ → Type 0
HasStatus bytes status = (framing : Framing) × IsHeaded bytes status framing

-- the head isn't whole, or has the status 200
abbrev pub HasNoOtherStatus : List ℕ → Type 0
HasNoOtherStatus bytes = HasNoHead ReplyKind bytes ⊎ HasStatus bytes 200

-- the bytes, behind which the server closed the connection or not, are a reply with status 200 and this body, which
-- fits the space, and maybe more
pub record GivesBody (space : ℕ) (bytes : List ℕ) (closed : Bool) (body : List ℕ) : Type 0 where
  pub status : HasStatus bytes 200
  pub whole : (head : Parts) × (used : ℕ) × Verdict Reply space bytes closed (done_with head body used)

-- how large an image that doesn't fit is told to be: as its head declares, or else one byte past the space
abbrev pub size_told : Framing → ℕ → ℕ
size_told (Length size) space = size
size_told _ space = min (space + 1) most_length

-- The bytes give no image, for this. A reply is refused by the verdict on its bytes within the space; once its head is
-- whole and none of its own rules is broken, its status comes first.
abbrev pub IsRefused : ℕ → List ℕ → List ℕ → Bool → ImageFault → Type 0
IsRefused space hash bytes closed image.EndedEarly =
    Verdict Reply space bytes closed (refused http.EndedEarly) × HasNoOtherStatus bytes
IsRefused space hash bytes closed image.BadHttp =
    Verdict Reply space bytes closed (refused http.BadHead)
    ⊎ (Verdict Reply space bytes closed (refused http.BadChunk) × HasNoOtherStatus bytes)
IsRefused space hash bytes closed image.Coding = Verdict Reply space bytes closed (refused http.Coding)
IsRefused space hash bytes closed image.HeadTooLarge =
    (most : ℕ) × Verdict Reply space bytes closed (refused (http.TooLarge most)) × (most ≢ space) × HasStatus bytes 200
IsRefused space hash bytes closed (image.Status code) = HasStatus bytes code × (code ≢ 200)
IsRefused space hash bytes closed (image.ImageTooLarge size area) =
    Verdict Reply space bytes closed (refused (http.TooLarge space)) × (area ≡ space)
    × ((framing : Framing) × IsHeaded bytes 200 framing × (size ≡ size_told framing space))
IsRefused space hash bytes closed (image.WrongHash found) =
    (body : List ℕ) × GivesBody space bytes closed body × (found ≡ sha256 body) × (found ≢ hash)
IsRefused space hash bytes closed _ = ⊥
