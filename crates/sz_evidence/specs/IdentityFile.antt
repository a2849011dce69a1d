-- The file of an identity as a JSON value: what a device is made with, and the first member that breaks its rule.
use Rattle.std.specs.Prelude.{◌≡◌, ◌⊎◌, ℕ, ◌≤◌, ⊤, List, [], ◌∷◌, length, Some, Result, Ok, Err}
use Rattle.serde_json.specs.Data.{Data, Items, no_items, item}
use Rattle.sz_base.specs.Encoding.{IsBase64}
use Rattle.sz_base.specs.Identity.{most_anchor_bytes, most_anchors, most_os_bytes}
use Rattle.sz_base.specs.Serial.{IsSerial}
use Rattle.sz_base.specs.declared.identity.Identity.{Identity}
use Rattle.sz_json.specs.Form.{list_of, text_of}
use Rattle.sz_json.specs.Json.{IsJson}
use Rattle.sz_json.specs.Member.{required}
use Rattle.sz_json.specs.declared.fault.JsonFault.{JsonFault}
use Rattle.sz_json.specs.declared.fault.JsonFault.TheVariants as json
use Rattle.sz_json.specs.declared.name.Name.{Name}
use Rattle.sz_json.specs.declared.name.Name.TheVariants as name
use Rattle.sz_x509.specs.Certificate.{Certificate, CertOf}
use Rattle.sz_evidence.specs.declared.identity.IdentityFault.{IdentityFault}
use Rattle.sz_evidence.specs.declared.identity.IdentityFault.TheVariants.{Bad, OutOfMemory}

-- the member of this name is a text of the form
pub record HasText (name : Name) (IsForm : List ℕ → Type 0) (value : Data) (text : List ℕ) : Type 0 where
  pub is_text : required text_of name value ≡ Ok text
  pub form : IsForm text

-- a name or a version of an operating system
abbrev pub IsShort : List ℕ → Type 0
IsShort text = length text ≤ most_os_bytes

-- the entry is an anchor: a certificate as its text in base64
pub record IsAnchor (entry : Data) (anchor : List ℕ) : Type 0 where
  pub text : List ℕ
  pub cert : Certificate
  pub is_text : text_of entry ≡ Some text
  pub is_base64 : IsBase64 text anchor
  pub few : length anchor ≤ most_anchor_bytes
  pub is_cert : CertOf anchor cert

-- the entries, each with its anchor, in order
abbrev pub AreAnchors : Items → List (List ℕ) → Type 0
AreAnchors no_items [] = ⊤
AreAnchors no_items (anchor ∷ anchors) = ⊥
AreAnchors (item entry entries) [] = ⊥
AreAnchors (item entry entries) (anchor ∷ anchors) = IsAnchor entry anchor × AreAnchors entries anchors

-- one to eight anchors
pub record HasAnchors (value : Data) (anchors : List (List ℕ)) : Type 0 where
  pub entries : Items
  pub is_list : required list_of name.Anchors value ≡ Ok entries
  pub each : AreAnchors entries anchors
  pub some : 1 ≤ length anchors
  pub most : length anchors ≤ most_anchors

-- the value is that of the identity
pub record IsIdentity (value : Data) (identity : Identity) : Type 0 where
  pub serial : HasText name.Serial IsSerial value identity.serial
  pub os_name : HasText name.OsName IsShort value identity.os_name
  pub os_version : HasText name.OsVersion IsShort value identity.os_version
  pub anchors : HasAnchors value identity.anchors

-- the bytes are a text of it
abbrev pub IdentityOf : List ℕ → Identity → Type 0
IdentityOf bytes identity = (value : Data) × IsJson bytes value × IsIdentity value identity

-- ---- the first member that breaks its rule

-- there is one
abbrev pub Exists : {A : Type 0} → (A → Type 0) → Type 0
Exists {A} Is = (found : A) × Is found

-- what is to be there, each under its name, in the order in which it is looked for
abbrev pub members : Data → List (Name × Type 0)
members value =
    (name.Serial, Exists (HasText name.Serial IsSerial value))
    ∷ (name.OsName, Exists (HasText name.OsName IsShort value))
    ∷ (name.OsVersion, Exists (HasText name.OsVersion IsShort value))
    ∷ (name.Anchors, Exists (HasAnchors value))
    ∷ []

-- the first that is not there has this name
abbrev pub FirstMissing : List (Name × Type 0) → Name → Type 0
FirstMissing [] found = ⊥
FirstMissing (member ∷ rest) found =
    ((member.1 → ⊥) × (found ≡ member.0)) ⊎ (member.1 × FirstMissing rest found)

-- the bytes are no JSON, or the member of this name is the first of their value that breaks its rule
abbrev pub IsBadIdentity : List ℕ → Name → Type 0
IsBadIdentity bytes found =
    (((value : Data) → ¬ (IsJson bytes value)) × (found ≡ name.Json))
    ⊎ ((value : Data) × IsJson bytes value × FirstMissing (members value) found)

-- what the bytes are read as: an identity, or the name that is answered of them
abbrev pub ReadsAs : List ℕ → Result Identity Name → Type 0
ReadsAs bytes (Ok identity) = IdentityOf bytes identity
ReadsAs bytes (Err found) = IsBadIdentity bytes found

-- ---- answers

-- the answer of a reader of JSON, handed on
abbrev pub identity_fault_of : JsonFault → IdentityFault
identity_fault_of (json.Member found) = Bad found
identity_fault_of json.OutOfMemory = OutOfMemory

-- a name is answered only where this holds of it; else memory ran out
abbrev pub NamesBad : (Name → Type 0) → IdentityFault → Type 0
NamesBad Is (Bad found) = Is found
NamesBad Is OutOfMemory = ⊤

-- the one member that is asked for is not there
abbrev pub Lacks : {A : Type 0} → Name → (A → Type 0) → IdentityFault → Type 0
Lacks name Is fault = NamesBad (λ found. (Exists Is → ⊥) × (found ≡ name)) fault
