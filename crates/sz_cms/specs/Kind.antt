-- The types of content that have names here, by their object identifiers (RFC 5652 sections 3 and 4).
use Rattle.std.specs.Prelude.{◌≡◌, ℕ, ⊤, false, List, [], ◌∷◌, bytes_eq}
use Rattle.std.specs.List.{list_any}
use Rattle.sz_cms.specs.Identifiers.{conveyed_json_oid, conveyed_xml_oid, data_oid, enveloped_data_oid, voucher_oid}
use Rattle.sz_cms.specs.declared.kind.Kind.{Kind}
use Rattle.sz_cms.specs.declared.kind.Kind.TheVariants as kind

-- the octets of its object identifier
abbrev pub identifier_of : Kind → List ℕ
identifier_of kind.Data = data_oid
identifier_of kind.Voucher = voucher_oid
identifier_of kind.ConveyedJson = conveyed_json_oid
identifier_of kind.ConveyedXml = conveyed_xml_oid
identifier_of kind.Enveloped = enveloped_data_oid
identifier_of (kind.Other identifier) = identifier.now

-- the identifiers of the types that have names
abbrev pub named : List (List ℕ)
named = data_oid ∷ voucher_oid ∷ conveyed_json_oid ∷ conveyed_xml_oid ∷ enveloped_data_oid ∷ []

-- the type with this identifier: by its name, and one without a name by the identifier
abbrev pub IsKindOf : Kind → List ℕ → Type 0
IsKindOf (kind.Other other) identifier = (other.now ≡ identifier) × (list_any (bytes_eq identifier) named ≡ false)
IsKindOf kind identifier = identifier_of kind ≡ identifier

-- a type that has a name
abbrev pub HasName : Kind → Type 0
HasName (kind.Other identifier) = ⊥
HasName _ = ⊤

-- a type that messages are written of: its content is not encrypted, and it has a name
abbrev pub IsWritten : Kind → Type 0
IsWritten kind.Enveloped = ⊥
IsWritten (kind.Other identifier) = ⊥
IsWritten _ = ⊤
