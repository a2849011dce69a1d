-- What a download from one URI does: the exchange that it adds, what it leaves in the room, and the causes of its
-- faults.
use Rattle.std.specs.Prelude.{◌≡◌, ℕ, Bool, true, false, List, [], ◌∷◌, length, Option, Result, Err, is_some}
use Rattle.std.specs.Option.{option_map}
use Rattle.sha2.specs.Sha256.{sha256}
use Rattle.sz_spec.specs.Told.{WhereTold}
use Rattle.sz_base.specs.declared.image.ImageFault.{ImageFault}
use Rattle.sz_base.specs.declared.image.ImageFault.TheVariants as image
use Rattle.sz_disk.specs.Room.{Held}
use Rattle.sz_io.specs.Net.{Traffic}
use Rattle.sz_io.specs.declared.exchange.Exchange.{Exchange}
use Rattle.sz_exchange.specs.Exchange.{AddsOne, Hears, Loses, MayAdd}
use Rattle.sz_uri.specs.Uri.{IsUri}
use Rattle.sz_uri.specs.declared.uri.Uri.{Uri}
use Rattle.sz_image.specs.Reply.{GivesBody, IsRefused}
use Rattle.sz_image.specs.Request.{request_text}

-- ---- one exchange

-- the server of this URI was sent the whole request for it, and what was received tells this
abbrev pub HearsOf : Uri → (List ℕ → Bool → Type 0) → Exchange → Type 0
HearsOf uri Tells = Hears uri.target (request_text uri) Tells

-- what was received is a reply with status 200, whose body fits the space and has this hash
pub record GivesImage (uri : Uri) (hash : List ℕ) (space : ℕ) (body : List ℕ) (exchange : Exchange) : Type 0 where
  pub heard : HearsOf uri (λ bytes closed. GivesBody space bytes closed body) exchange
  pub hash_is : sha256 body ≡ hash

-- The exchange gives no image, for this. It is lost; or its bytes tell the fault; or the room failed while it went on.
abbrev pub Refuses : Uri → List ℕ → ℕ → ImageFault → Exchange → Type 0
Refuses uri hash space image.Uri = λ exchange. ⊥
Refuses uri hash space image.OutOfMemory = λ exchange. ⊥
Refuses uri hash space image.Lost = Loses uri.target (request_text uri)
Refuses uri hash space image.DiskFault = HearsOf uri (λ bytes closed. Unit {0})
Refuses uri hash space fault = HearsOf uri (λ bytes closed. IsRefused space hash bytes closed fault)

-- These exchanges, which a download from this text made, give no image, for this: none where the text is no URI that
-- can be asked, and else one.
abbrev pub GivesNoImage : List ℕ → List ℕ → ℕ → ImageFault → List Exchange → Type 0
GivesNoImage text hash space image.Uri own = ((uri : Uri) → ¬ (IsUri text uri)) × (own ≡ [])
GivesNoImage text hash space fault own =
    (uri : Uri) × IsUri text uri × (exchange : Exchange) × (own ≡ exchange ∷ []) × Refuses uri hash space fault exchange

-- ---- the room

-- the same room: it has as much space, and tells its bytes where it told them before
pub record IsSameRoom (before now : Held) : Type 0 where
  pub space : now.space ≡ before.space
  pub tells : is_some now.bytes ≡ is_some before.bytes

-- the room holds this body and nothing else
pub record HoldsBody (body : List ℕ) (before now : Held) : Type 0 where
  pub space : now.space ≡ before.space
  pub used : now.used ≡ length body
  pub bytes : now.bytes ≡ option_map (λ held. body) before.bytes

-- ---- the download

-- the room holds an image of this size that has this hash, and the exchange that was added gave it
pub record Brings (uri : Uri) (hash : List ℕ) (size : ℕ) (room_before room_now : Held)
    (before now : Option Traffic) : Type 0 where
  pub body : List ℕ
  pub size_is : size ≡ length body
  pub holds : HoldsBody body room_before room_now
  pub hash_is : sha256 body ≡ hash
  pub given : WhereTold (AddsOne (GivesImage uri hash room_before.space body)) before now

-- the download from this URI, for which there is so much space, came to this fault
abbrev pub Fails : Uri → List ℕ → ℕ → ImageFault → Option Traffic → Option Traffic → Type 0
Fails uri hash space image.Uri before now = ⊥
Fails uri hash space image.OutOfMemory before now = WhereTold MayAdd before now
Fails uri hash space fault before now = WhereTold (AddsOne (Refuses uri hash space fault)) before now

-- The same of a text: where it is no URI that can be asked, nothing is.
abbrev pub FailsFor : List ℕ → List ℕ → ℕ → ImageFault → Option Traffic → Option Traffic → Type 0
FailsFor text hash space image.Uri before now = ((uri : Uri) → ¬ (IsUri text uri)) × (now ≡ before)
FailsFor text hash space image.OutOfMemory before now = WhereTold MayAdd before now
FailsFor text hash space fault before now = (uri : Uri) × IsUri text uri × Fails uri hash space fault before now

-- ---- whom a fault blames

abbrev pub is_lost : ImageFault → Bool
is_lost image.Lost = true
is_lost _ = false

abbrev pub blames_net : {T : Type 0} → Result T ImageFault → Bool
blames_net (Err fault) = is_lost fault
blames_net _ = false

abbrev pub blames_room : {T : Type 0} → Result T ImageFault → Bool
blames_room (Err image.DiskFault) = true
blames_room _ = false
