-- The request for bootstrapping data as a device writes it (RFC 8572 section 7, RFC 8040 section 3.6).
use Rattle.std.specs.Prelude.{ℕ, ◌<◌, ◌^◌, List, [], ◌∷◌, Option, Some, option_map, codes}
use Rattle.serde_json.specs.Data.{array, Data, item, no_items, null, object}
use Rattle.serde_json.specs.Written.{compact_text}
use Rattle.sz_base.specs.Host.{IsHost}
use Rattle.sz_base.specs.Serial.{IsSerial}
use Rattle.sz_base.specs.Target.{target_text}
use Rattle.sz_base.specs.declared.target.Target.{Target}
use Rattle.sz_json.specs.Object.{binary_value, members_of}
use Rattle.sz_json.specs.declared.name.Name.{Name}
use Rattle.sz_json.specs.declared.name.Name.TheVariants as name
use Rattle.sz_http.specs.Framing.{FieldList}
use Rattle.sz_rest.specs.Message.{message_text, start_line, version, yang_json}

abbrev pub post : List ℕ
post = codes "POST"

-- the operation's path under the root of RESTCONF, which is always `/restconf` here
abbrev pub operation_path : List ℕ
operation_path = codes "/restconf/operations/ietf-sztp-bootstrap-server:get-bootstrapping-data"

-- the field that names the device: this project's own
abbrev pub serial_field : List ℕ
serial_field = codes "Sztp-Serial-Number"

-- ---- the body: that signed data is preferred, and the nonce where there is one

-- a leaf of type empty (RFC 7951 section 6.9)
abbrev pub empty_leaf : Data
empty_leaf = array (item null no_items)

abbrev pub input_members : Option (List ℕ) → List (Name × Option Data)
input_members nonce =
    (name.Nonce, option_map binary_value nonce) ∷ (name.SignedDataPreferred, Some empty_leaf) ∷ []

abbrev pub input_value : Option (List ℕ) → Data
input_value nonce = object (members_of (input_members nonce))

abbrev pub request_members : Option (List ℕ) → List (Name × Option Data)
request_members nonce = (name.Input, Some (input_value nonce)) ∷ []

abbrev pub request_value : Option (List ℕ) → Data
request_value nonce = object (members_of (request_members nonce))

-- ---- the whole text

abbrev pub request_line : List ℕ
request_line = start_line post operation_path version

abbrev pub request_fields : Target → List ℕ → FieldList
request_fields target serial =
    (codes "Host", target_text target)
    ∷ (serial_field, serial)
    ∷ (codes "Content-Type", yang_json)
    ∷ (codes "Accept", yang_json)
    ∷ (codes "Connection", codes "close")
    ∷ []

-- a target and a serial number in their forms
pub record AreFormed (target : Target) (serial : List ℕ) : Type 0 where
  pub host : IsHost target.host
  pub port : target.port < 2 ^ 16
  pub form : IsSerial serial

-- the text of a request of this target for this serial number
abbrev pub request_text : Target → List ℕ → Option (List ℕ) → List ℕ
request_text target serial nonce =
    message_text request_line (request_fields target serial) (compact_text (request_value nonce))
