-- The fields of a certificate that has no fault, at their places.
use Rattle.std.specs.Prelude.{◌≡◌, ◌<◌, ◌^◌, ℕ, ℤ, Bool, false, if◌then◌else◌, List, [], Option, Some, None, option_map, bytes_eq, ◌∷◌, MatchBool}
use Rattle.std.specs.List.{AllByRecursion, find}
use Rattle.sz_der.specs.Content.{HoldsBits}
use Rattle.sz_der.specs.Der.{number_of}
use Rattle.sz_der.specs.Spots.{after, content_at, front, inside, is_at_end, is_next, Spot, spots_from, tag_at, whole_at}
use Rattle.sz_der.specs.Tags.{integer_tag, object_identifier_tag, sequence_tag}
use Rattle.sz_x509.specs.CertFault.{bits_of_key, extensions_spot, flag_at, identifier_at, issuer_spot, key_in, key_spot, octets_at, part, path_length_spot, serial_spot, subject_spot, validity_spot, value_spot}
use Rattle.sz_x509.specs.Certificate.{Certificate}
use Rattle.sz_x509.specs.Contents.{seconds_in}
use Rattle.sz_x509.specs.Extensions.{Restrictions}
use Rattle.sz_x509.specs.declared.fault.CertKind.TheVariants.{Der}
use Rattle.sz_x509.specs.Identifiers.{basic_constraints_oid, key_usage_oid, subject_key_identifier_oid}
use Rattle.sz_x509.specs.Tags.{extensions_tag}

-- the spots of the extensions, where there are any
unfoldable pub extension_spots : Spot → List Spot
extension_spots field = if is_next extensions_tag field then spots_from (inside (inside field)) else []

-- the extension at this spot has the identifier
abbrev pub has_identifier : List ℕ → Spot → Bool
has_identifier identifier spot = bytes_eq (identifier_at spot) identifier

-- the spot of what the value of the extension with this identifier holds
unfoldable pub value_among : List ℕ → List Spot → Option Spot
value_among identifier spots = option_map (λ spot. inside (value_spot spot)) (find (has_identifier identifier) spots)

abbrev pub ca_at : Option Spot → Bool
ca_at None = false
ca_at (Some value) = flag_at (inside value)

unfoldable pub path_length_at : Spot → Option ℕ
path_length_at spot = if is_next integer_tag spot then Some (number_of (content_at spot)) else None

abbrev pub path_len_at : Option Spot → Option ℕ
path_len_at None = None
path_len_at (Some value) = path_length_at (path_length_spot value)

abbrev pub UsageAt : Option Spot → Option ℕ → Type 0
UsageAt None usage = usage ≡ None
UsageAt (Some value) usage = (bits : ℕ) × (usage ≡ Some bits) × (bits < 2 ^ 16) × HoldsBits (content_at value) bits

abbrev pub key_id_at : Option Spot → Option (List ℕ)
key_id_at None = None
key_id_at (Some value) = Some (content_at value)

-- what the extensions at these spots restrict a certificate to
pub record RestrictedAt (spots : List Spot) (restrictions : Restrictions) : Type 0 where
  pub ca : restrictions.ca ≡ ca_at (value_among basic_constraints_oid spots)
  pub path_len : restrictions.path_len ≡ path_len_at (value_among basic_constraints_oid spots)
  pub usage : UsageAt (value_among key_usage_oid spots) restrictions.usage
  pub key_id : restrictions.key_id ≡ key_id_at (value_among subject_key_identifier_oid spots)

-- the earlier spots are those of the items from one spot up to another, each after the one before it
abbrev pub AreBetween : Spot → List Spot → Spot → Type 0
AreBetween first [] here = first ≡ here
AreBetween first (spot ∷ spots) here =
    (spot ≡ first) × (is_at_end first ≡ false) × AreBetween (after first) spots here

-- an extension begins there, with its identifier
pub record BeginsExtension (spot : Spot) : Type 0 where
  pub sequence : part Der sequence_tag spot ≡ None
  pub identifier : part Der object_identifier_tag (inside spot) ≡ None

-- extensions begin at the earlier spots, which lead from the first one here
pub record LeadHere (first : Spot) (earlier : List Spot) (here : Spot) : Type 0 where
  pub between : AreBetween first earlier here
  pub begin : AllByRecursion BeginsExtension earlier

-- what the value of an extension with this identifier adds to the restrictions so far
pub record Adds (identifier : List ℕ) (value : Spot) (old new : Restrictions) : Type 0 where
  pub ca : new.ca ≡ (if bytes_eq identifier basic_constraints_oid then flag_at (inside value) else old.ca)
  pub path_len : new.path_len
      ≡ (if bytes_eq identifier basic_constraints_oid then path_length_at (path_length_spot value) else old.path_len)
  pub usage : MatchBool (bytes_eq identifier key_usage_oid) (UsageAt (Some value) new.usage) (new.usage ≡ old.usage)
  pub key_id : new.key_id
      ≡ (if bytes_eq identifier subject_key_identifier_oid then Some (content_at value) else old.key_id)

-- the time that the item at the spot names
unfoldable pub seconds_at : Spot → ℤ
seconds_at spot = seconds_in (tag_at spot) (content_at spot)

unfoldable pub key_at : Spot → List ℕ
key_at spot = key_in (octets_at (bits_of_key spot))

-- the fields of TBSCertificate, from the spot of its first part on
pub record TbsAt (first : Spot) (fields : Certificate) : Type 0 where
  pub serial : fields.serial ≡ content_at (serial_spot first)
  pub issuer : fields.issuer ≡ whole_at (issuer_spot first)
  pub not_before : fields.not_before ≡ seconds_at (inside (validity_spot first))
  pub not_after : fields.not_after ≡ seconds_at (after (inside (validity_spot first)))
  pub subject : fields.subject ≡ whole_at (subject_spot first)
  pub key : fields.key ≡ key_at (key_spot first)
  pub restrictions : RestrictedAt (extension_spots (extensions_spot first)) fields.restrictions

-- the fields of the certificate that the bytes are
pub record FieldsAt (bytes : List ℕ) (fields : Certificate) : Type 0 where
  pub whole : fields.whole ≡ bytes
  pub tbs : fields.tbs ≡ whole_at (inside (front bytes))
  pub parts : TbsAt (inside (inside (front bytes))) fields
  pub signature : fields.signature ≡ octets_at (after (after (inside (front bytes))))
