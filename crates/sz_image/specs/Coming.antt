-- An image on the way: what has come of it by the bytes of the reply so far.
use Rattle.std.specs.Prelude.{◌≡◌, ◌⊎◌, ℕ, ◌≤◌, Bool, true, false, IsTrue, List, [], ◌++◌, length, take, Option}
use Rattle.sha2.specs.Hashers.{Holds256}
use Rattle.sha2.specs.Sha256.{sha256}
use Rattle.sz_spec.specs.Told.{WhereTold}
use Rattle.sz_io.specs.Net.{Traffic}
use Rattle.sz_io.specs.declared.exchange.ExchangeEnd.TheVariants.{Open}
use Rattle.sz_uri.specs.declared.uri.Uri.{Uri}
use Rattle.sz_base.specs.declared.image.ImageFault.{ImageFault}
use Rattle.sz_base.specs.declared.image.ImageFault.TheVariants.{DiskFault}
use Rattle.sz_disk.specs.Room.{Held}
use Rattle.sz_http.specs.Head.{HasNoHead}
use Rattle.sz_http.specs.declared.kind.Kind.TheVariants.{Reply as ReplyKind}
use Rattle.sz_http.specs.declared.fed.Fed.{Fed}
use Rattle.sz_http.specs.declared.reading.Reading.{Reading}
use Rattle.sz_http.specs.declared.side.Side.TheVariants.{Reply}
use Rattle.sz_http.specs.Reading.{Takes}
use Rattle.sz_image.specs.declared.incoming.Incoming.{Incoming}
use Rattle.sz_exchange.specs.Exchange.{AddsOne, IsAsking}
use Rattle.sz_image.specs.Fetch.{HearsOf, HoldsBody}
use Rattle.sz_image.specs.Reply.{GivesBody, HasStatus, IsRefused}
use Rattle.sz_image.specs.Request.{request_text}

-- The reading has taken these bytes, which aren't the whole reply. What came of the body went to the hasher and to the
-- room, which held nothing at first.
pub record IsComing (incoming : Incoming) (reading : Reading) (first held : Held) (bytes : List ℕ) : Type 0 where
  pub body : List ℕ
  pub taken : Takes reading Reply first.space bytes false body
  pub headed : IsTrue incoming.headed → HasStatus bytes 200
  pub hashed : Holds256 incoming.hasher body
  pub holds : HoldsBody body first held

-- the bytes are a whole reply, and its body went to the hasher and to the room
pub record HasCome (incoming : Incoming) (first held : Held) (bytes : List ℕ) (closed : Bool) : Type 0 where
  pub body : List ℕ
  pub gives : GivesBody first.space bytes closed body
  pub hashed : Holds256 incoming.hasher body
  pub holds : HoldsBody body first held

-- what it means that a reply is whole or not after these bytes
abbrev pub Comes : Bool → Incoming → Reading → Held → Held → List ℕ → Type 0
Comes true incoming reading first held bytes = HasCome incoming first held bytes false
Comes false incoming reading first held bytes = IsComing incoming reading first held bytes

-- A front of a piece was taken, behind these bytes with this body.
pub record TakesFront (space : ℕ) (before body piece : List ℕ) (reading : Reading) (headed : Bool) (fed : Fed)
    : Type 0 where
  pub within : fed.used ≤ length piece
  pub taken : Takes reading Reply space (before ++ take fed.used piece) false (body ++ fed.body.now)
  pub fits : length (body ++ fed.body.now) ≤ space
  pub status : IsTrue headed → HasStatus (before ++ take fed.used piece) 200
  pub done : IsTrue fed.done → GivesBody space (before ++ take fed.used piece) false (body ++ fed.body.now)
  pub moves : (fed.used ≡ 0) → (length piece ≡ 0) ⊎ IsTrue fed.done

-- where the head is whole it has the status 200, and the flag says whether it is
abbrev pub IsJudged : Bool → List ℕ → Type 0
IsJudged headed bytes = (IsTrue headed → HasStatus bytes 200) × (headed ≡ false → HasNoHead ReplyKind bytes)

-- why there is no image, told by these bytes or by the room
abbrev pub StopsFor : ℕ → List ℕ → List ℕ → ImageFault → Type 0
StopsFor space hash bytes DiskFault = Unit {0}
StopsFor space hash bytes fault = IsRefused space hash bytes false fault

-- The reply from the URI's target was whole, and the room holds its body, which has this digest.
pub record HasReceived (uri : Uri) (digest : List ℕ) (first held : Held) (before now : Option Traffic) : Type 0 where
  pub body : List ℕ
  pub holds : HoldsBody body first held
  pub digest_is : digest ≡ sha256 body
  pub heard : WhereTold (AddsOne (HearsOf uri (λ bytes closed. GivesBody first.space bytes closed body))) before now

-- the whole request for this URI was sent, and so much was received, over the connection that stands
abbrev pub IsAskingFor : Uri → List ℕ → Traffic → Traffic → Type 0
IsAskingFor uri received = IsAsking uri.target (request_text uri) received Open

-- So much of the reply came over a connection that stood with the whole request sent.
pub record IsReceiving (incoming : Incoming) (reading : Reading) (first held : Held) (begun now : Option Traffic)
    : Type 0 where
  pub bytes : List ℕ
  pub coming : IsComing incoming reading first held bytes
  pub asking : (uri : Uri) (before : Option Traffic)
      → WhereTold (IsAskingFor uri []) before begun
      → WhereTold (IsAskingFor uri bytes) before now
