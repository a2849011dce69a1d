-- The values of known attributes, as far as they were read.
use Rattle.std.specs.Prelude.{◌≡◌, ℕ, List, Option, Some, if◌then◌else◌, bytes_eq}
use Rattle.std.specs.Option.{option_copied}
use Rattle.sz_der.specs.Spots.{content_at, Spot}
use Rattle.sz_cms.specs.Places.{value_among}
use Rattle.sz_cms.specs.Identifiers.{content_type_oid, message_digest_oid}
use Rattle.sz_cms.specs.declared.attributes.KnownValues.{KnownValues}

-- the values are those of the attributes at these spots
pub record AreKnown (spots : List Spot) (known : KnownValues) : Type 0 where
  pub content_type : option_copied known.content_type ≡ value_among spots content_type_oid
  pub digest : option_copied known.digest ≡ value_among spots message_digest_oid

-- the value at the spot, where the type is this one, and else the old one
abbrev pub value_with : List ℕ → List ℕ → Spot → Option (List ℕ) → Option (List ℕ)
value_with known type spot old = if bytes_eq type known then Some (content_at spot) else old

-- new values are old ones with that of an attribute of this type, whose first value is at the spot
pub record IsWith (type : List ℕ) (spot : Spot) (old new : KnownValues) : Type 0 where
  pub content_type : option_copied new.content_type
      ≡ value_with content_type_oid type spot (option_copied old.content_type)
  pub digest : option_copied new.digest ≡ value_with message_digest_oid type spot (option_copied old.digest)
