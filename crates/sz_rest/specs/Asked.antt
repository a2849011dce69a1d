-- What a request asks of a server, and the status with which it is refused otherwise.
use Rattle.std.specs.Prelude.{◌≡◌, ◌⊎◌, ℕ, List, [], ◌∷◌, ◌++◌, codes, IsSome, ⊤}
use Rattle.serde_json.specs.Data.{Data}
use Rattle.serde_json.specs.Find.{get}
use Rattle.sz_base.specs.Serial.{IsSerial}
use Rattle.sz_json.specs.Bounded.{IsBoundedJson}
use Rattle.sz_json.specs.Name.{name_text}
use Rattle.sz_json.specs.declared.name.Name.TheVariants as name
use Rattle.sz_http.specs.Parts.{Parts}
use Rattle.sz_http.specs.declared.kind.Kind.TheVariants as kind
use Rattle.sz_http.specs.Framing.{values}
use Rattle.sz_rest.specs.Message.{IsMessage}
use Rattle.sz_rest.specs.Request.{operation_path, post, serial_field}
use Rattle.sz_rest.specs.declared.asked.Asked.{Asked}
use Rattle.sz_rest.specs.declared.asked.Asked.TheVariants.{Bootstrap, Image}
use Rattle.sz_rest.specs.declared.fault.AskFault.{AskFault}
use Rattle.sz_rest.specs.declared.fault.AskFault.TheVariants.{Refused, OutOfMemory}

-- ---- targets, which are compared as they stand

abbrev pub IsForOperation : Parts → Type 0
IsForOperation head = head.target ≡ operation_path

-- the path of an image, whose name has the form of a serial number
pub record IsImagePath (target image : List ℕ) : Type 0 where
  pub path : target ≡ codes "/images/" ++ image
  pub name : IsSerial image

abbrev pub IsAnImagePath : List ℕ → Type 0
IsAnImagePath target = (image : List ℕ) × IsImagePath target image

abbrev pub IsForAnImage : Parts → Type 0
IsForAnImage head = IsAnImagePath head.target

abbrev pub HasMethod : Parts → List ℕ → Type 0
HasMethod head method = head.method ≡ method

abbrev pub get_method : List ℕ
get_method = codes "GET"

-- ---- what the operation needs

-- one field names the device, and its value is this serial number
pub record NamesDevice (head : Parts) (serial : List ℕ) : Type 0 where
  pub one : values serial_field head.fields ≡ serial ∷ []
  pub form : IsSerial serial

abbrev pub NamesADevice : Parts → Type 0
NamesADevice head = (serial : List ℕ) × NamesDevice head serial

-- the value is an object that has the operation's input
abbrev pub HasInput : Data → Type 0
HasInput value = IsSome (get (name_text name.Input) value)

-- the body is empty, or the bounded JSON of such a value
abbrev pub IsInput : List ℕ → Type 0
IsInput body = (body ≡ []) ⊎ ((value : Data) × IsBoundedJson body value × HasInput value)

-- ---- what is asked

pub record AsksToBootstrap (head : Parts) (body serial : List ℕ) : Type 0 where
  pub target : IsForOperation head
  pub method : HasMethod head post
  pub device : NamesDevice head serial
  pub input : IsInput body

pub record AsksForImage (head : Parts) (image : List ℕ) : Type 0 where
  pub target : IsImagePath head.target image
  pub method : HasMethod head get_method

abbrev pub Asks : Parts → List ℕ → Asked → Type 0
Asks head body (Bootstrap serial) = AsksToBootstrap head body serial
Asks head body (Image image) = AsksForImage head image

-- ---- refusals, by the first rule that applies

-- the rule gives its status where it applies, and else the rules behind it give theirs
abbrev pub Rule : ℕ → Type 0 → (ℕ → Type 0) → ℕ → Type 0
Rule own Applies Behind status = (Applies × (status ≡ own)) ⊎ ((¬ Applies) × Behind status)

abbrev pub NoRule : ℕ → Type 0
NoRule status = ⊥

abbrev pub IsRefused : Parts → List ℕ → ℕ → Type 0
IsRefused head body =
    Rule 405 (IsForOperation head × (¬ HasMethod head post)) (
    Rule 400 (IsForOperation head × (¬ NamesADevice head)) (
    Rule 400 (IsForOperation head × (¬ IsInput body)) (
    Rule 405 (IsForAnImage head × (¬ HasMethod head get_method)) (
    Rule 404 ((¬ IsForOperation head) × (¬ IsForAnImage head)) NoRule))))

-- the answer gives a status only where the request is refused with it; else memory ran out
abbrev pub IsAskFault : Parts → List ℕ → AskFault → Type 0
IsAskFault head body (Refused status) = IsRefused head body status
IsAskFault head body OutOfMemory = ⊤

-- the text is a message that asks to bootstrap this device
abbrev pub AsksFor : List ℕ → List ℕ → Type 0
AsksFor serial text =
    (head : Parts) × (body : List ℕ) × IsMessage kind.Request text head body × Asks head body (Bootstrap serial)
