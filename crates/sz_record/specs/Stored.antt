-- What a payload means: a device, or the place of its first wrong byte.
use Rattle.std.specs.Prelude.{◌≡◌, ◌⊎◌, ℕ, ◌^◌, ◌<◌, ◌≤◌, ◌==◌, not, ◌&&◌, Bool, if◌then◌else◌, List, [], ◌∷◌, length, drop, slice_index, Option, Some, None, IfSome, FitsSigned, Result, Ok, Err}
use Rattle.std.specs.Int.{w8, w64}
use Rattle.std.specs.List.{list_all}
use Rattle.sz_base.specs.Identity.{IsWhole, most_anchors, most_anchor_bytes, most_os_bytes}
use Rattle.sz_base.specs.Serial.{IsSerial, is_serial_byte, most_serial_bytes}
use Rattle.sz_base.specs.declared.evidence.Evidence.{Evidence}
use Rattle.sz_base.specs.declared.moment.Moment.{Moment}
use Rattle.sz_record.specs.Field.{Field, nothing, bytes, in_order, number, number_then, passing, text, long, longest, optional, counted}
use Rattle.sz_record.specs.Spelling.{old_version, new_version, record_bytes}
use Rattle.sz_record.specs.declared.device.Committed.{Committed}
use Rattle.sz_record.specs.declared.device.Device.{Device}
use Rattle.sz_record.specs.declared.device.Image.{Image}

-- ---- the rules of the fields, in the order of their places

-- behind its number, the text of a serial number
abbrev pub is_serial_text : List ℕ → Bool
is_serial_text own = list_all is_serial_byte (drop 2 own) && not (slice_index own 2 == 46)

unfoldable pub serial_field : Field
serial_field = passing is_serial_text (text 1 most_serial_bytes)

unfoldable pub anchors_field : Field
anchors_field = counted 1 most_anchors (long most_anchor_bytes)

unfoldable pub identity_field : Field
identity_field = in_order (serial_field ∷ text 0 most_os_bytes ∷ text 0 most_os_bytes ∷ anchors_field ∷ [])

unfoldable pub nonce_field : ℕ → Field
nonce_field version = if version == old_version then nothing else optional (bytes 16)

unfoldable pub moment_field : ℕ → Field
moment_field version = in_order (bytes 8 ∷ nonce_field version ∷ [])

unfoldable pub evidence_field : Field
evidence_field = in_order (long longest ∷ optional (long longest) ∷ optional (long longest) ∷ [])

-- an image in an area of this size
unfoldable pub image_field : ℕ → ℕ → Field
image_field space version = in_order (
    number w8 0 1 ∷ number w64 0 space ∷ bytes 32 ∷ moment_field version ∷ evidence_field ∷ [])

unfoldable pub committed_field : ℕ → Field
committed_field version = in_order (
    moment_field version
    ∷ evidence_field
    ∷ number w8 0 1
    ∷ optional (long longest)
    ∷ optional (long longest)
    ∷ optional (long longest)
    ∷ [])

abbrev pub most_name_bytes : ℕ
most_name_bytes = 65535

unfoldable pub device_field : ℕ → ℕ → Field
device_field space version = in_order (
    identity_field
    ∷ text 0 most_name_bytes
    ∷ text 0 most_name_bytes
    ∷ optional (image_field space version)
    ∷ optional (committed_field version)
    ∷ [])

-- the version, and then the device by it
unfoldable pub record_field : ℕ → Field
record_field space = number_then w8 old_version new_version (device_field space)

-- a field is the whole of the bytes, or this place of them is wrong: that of the field, or the first behind it
abbrev pub wrong_in : Result ℕ ℕ → List ℕ → Option ℕ
wrong_in (Ok n) payload = if n == length payload then None else Some n
wrong_in (Err place) payload = Some place

-- the place of the first wrong byte of a payload, where images have areas of this size
unfoldable pub first_wrong : ℕ → List ℕ → Option ℕ
first_wrong space payload = wrong_in (record_field space payload) payload

-- ---- the devices that have a stored form

abbrev pub IsLong : List ℕ → Type 0
IsLong long = length long ≤ longest

-- the older version has no nonce
abbrev pub IsStorableMoment : ℕ → Moment → Type 0
IsStorableMoment version moment = version ≡ old_version → moment.nonce ≡ None

pub record IsStorableEvidence (evidence : Evidence) : Type 0 where
  pub ci : IsLong evidence.ci
  pub oc : IfSome evidence.oc IsLong
  pub ov : IfSome evidence.ov IsLong

pub record IsStorableImage (version : ℕ) (image : Image) : Type 0 where
  pub when : IsStorableMoment version image.when
  pub evidence : IsStorableEvidence image.evidence

pub record IsStorableCommitted (version : ℕ) (committed : Committed) : Type 0 where
  pub when : IsStorableMoment version committed.when
  pub evidence : IsStorableEvidence committed.evidence
  pub pre : IfSome committed.pre IsLong
  pub configuration : IfSome committed.configuration IsLong
  pub post : IfSome committed.post IsLong

-- the lengths fit their widths, and the identity is whole
pub record IsStorable (version : ℕ) (device : Device) : Type 0 where
  pub identity : IsWhole device.identity
  pub running_name : length device.running_name ≤ most_name_bytes
  pub running_version : length device.running_version ≤ most_name_bytes
  pub image : IfSome device.image (IsStorableImage version)
  pub onboarded : IfSome device.onboarded (IsStorableCommitted version)

-- the image is in one of two areas of this size
pub record IsWithin (space : ℕ) (image : Image) : Type 0 where
  pub area : image.area ≤ 1
  pub size : image.size ≤ space

-- ---- what the types of the fields tell

-- seconds of 64 bits, and a nonce of 16 bytes where there is one
pub record HasMomentWidths (moment : Moment) : Type 0 where
  pub time : FitsSigned w64 moment.time.0
  pub nonce : IfSome moment.nonce (λ nonce. length nonce ≡ 16)

pub record HasImageWidths (image : Image) : Type 0 where
  pub size : image.size < 2 ^ 64
  pub hash : length image.hash ≡ 32
  pub when : HasMomentWidths image.when

pub record HasWidths (device : Device) : Type 0 where
  pub serial : IsSerial device.identity.serial
  pub image : IfSome device.image HasImageWidths
  pub onboarded : IfSome device.onboarded (λ committed. HasMomentWidths committed.when)

-- ---- the stored form

-- The payload is the stored form of this device, in one of the versions, and the device's parts fit their types: so it
-- is that of no other device.
pub record IsStored (space : ℕ) (payload : List ℕ) (device : Device) : Type 0 where
  pub version : ℕ
  pub known : (version ≡ old_version) ⊎ (version ≡ new_version)
  pub spelled : payload ≡ record_bytes version device
  pub storable : IsStorable version device
  pub within : IfSome device.image (IsWithin space)
  pub widths : HasWidths device
