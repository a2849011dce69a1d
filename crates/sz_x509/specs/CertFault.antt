-- The first fault of a certificate, as a function of its bytes: tables of rules over the items at their places, each
-- item's header before its content, in the order of the bytes.
use Rattle.std.specs.Prelude.{ℕ, ◌+◌, ◌&&◌, ◌||◌, ◌==◌, not, if◌then◌else◌, Bool, List, [], ◌∷◌, ◌++◌, length, take, drop, Option, None, bytes_eq, nat_lt}
use Rattle.std.specs.List.{list_any}
use Rattle.sz_der.specs.Integer.{is_integer}
use Rattle.sz_der.specs.Spots.{after, after_optional, content_at, first_of, front, if_next, inside, is_next, no_end, no_integer, no_item, no_part, rule, Spot, spots_from, tag_at}
use Rattle.sz_der.specs.Tags.{bit_string_tag, boolean_tag, context_constructed, integer_tag, object_identifier_tag, octet_string_tag, sequence_tag}
use Rattle.sz_x509.specs.Certificate.{key_length}
use Rattle.sz_x509.specs.Contents.{is_bits, is_boolean, is_time, is_true_content, is_u32, is_whole_octets}
use Rattle.sz_x509.specs.Extensions.{is_known, most_extensions}
use Rattle.sz_x509.specs.declared.fault.CertKind.{CertKind}
use Rattle.sz_x509.specs.declared.fault.CertKind.TheVariants as kind
use Rattle.sz_x509.specs.Identifiers.{basic_constraints_oid, hss_lms_oid, key_usage_oid, subject_key_identifier_oid}
use Rattle.sz_x509.specs.Tags.{extensions_tag, issuer_unique_id_tag, subject_unique_id_tag}

-- a fault: its kind and its place, counted from 0
abbrev pub Fault : Type 0
Fault = CertKind × ℕ

-- ---- parts that stand in revocation lists too

-- an item with this tag; what is no item is of the kind Der, wherever it stands
abbrev pub part : CertKind → ℕ → Spot → Option Fault
part other tag spot = no_part kind.Der other tag spot

-- nothing more
abbrev pub end : CertKind → Spot → Option Fault
end other spot = no_end kind.Der other spot

-- the content is of the type
abbrev pub typed : (List ℕ → Bool) → Spot → Option Fault
typed test spot = rule (test (content_at spot)) kind.Der spot

-- AlgorithmIdentifier of HSS/LMS
unfoldable pub algorithm_fault : Spot → Option Fault
algorithm_fault spot = first_of (
    part kind.Algorithm sequence_tag spot
    ∷ part kind.Algorithm object_identifier_tag (inside spot)
    ∷ rule (bytes_eq (content_at (inside spot)) hss_lms_oid) kind.Algorithm (inside spot)
    ∷ end kind.Algorithm (after (inside spot))
    ∷ [])

abbrev pub integer_fault : Spot → Option Fault
integer_fault spot = no_integer kind.Der kind.Der spot

-- a BIT STRING of whole octets
unfoldable pub octets_fault : CertKind → Spot → Option Fault
octets_fault other spot = first_of (part other bit_string_tag spot ∷ typed is_whole_octets spot ∷ [])

-- these octets
unfoldable pub octets_at : Spot → List ℕ
octets_at spot = drop 1 (content_at spot)

unfoldable pub time_fault : Spot → Option Fault
time_fault spot = first_of (no_item kind.Der spot ∷ rule (is_time (tag_at spot) (content_at spot)) kind.Time spot ∷ [])

-- BOOLEAN DEFAULT FALSE
unfoldable pub flag_fault : Spot → Option Fault
flag_fault spot = if_next boolean_tag spot (no_item kind.Der spot ∷ typed is_boolean spot ∷ [])

-- the value that it has
unfoldable pub flag_at : Spot → Bool
flag_at spot = is_next boolean_tag spot && is_true_content (content_at spot)

-- ---- parts of a certificate alone

-- `[0]` and version 3
unfoldable pub version_fault : Spot → Option Fault
version_fault spot = first_of (
    part kind.Version context_constructed spot
    ∷ part kind.Version integer_tag (inside spot)
    ∷ typed is_integer (inside spot)
    ∷ rule (bytes_eq (content_at (inside spot)) (2 ∷ [])) kind.Version (inside spot)
    ∷ end kind.Version (after (inside spot))
    ∷ [])

unfoldable pub validity_fault : Spot → Option Fault
validity_fault spot = first_of (
    part kind.Der sequence_tag spot
    ∷ time_fault (inside spot)
    ∷ time_fault (after (inside spot))
    ∷ end kind.Der (after (after (inside spot)))
    ∷ [])

-- the key in the octets of its BIT STRING, raw or wrapped in an OCTET STRING
abbrev pub is_wrapped : List ℕ → Bool
is_wrapped octets = bytes_eq (take 2 octets) (4 ∷ key_length ∷ []) && length octets == 2 + key_length

abbrev pub holds_key : List ℕ → Bool
holds_key octets = length octets == key_length || is_wrapped octets

abbrev pub key_in : List ℕ → List ℕ
key_in octets = if length octets == key_length then octets else drop 2 octets

-- the BIT STRING of the key
abbrev pub bits_of_key : Spot → Spot
bits_of_key spot = after (inside spot)

unfoldable pub key_fault : Spot → Option Fault
key_fault spot = first_of (
    part kind.Key sequence_tag spot
    ∷ algorithm_fault (inside spot)
    ∷ octets_fault kind.Key (bits_of_key spot)
    ∷ rule (holds_key (octets_at (bits_of_key spot))) kind.Key (bits_of_key spot)
    ∷ end kind.Key (after (bits_of_key spot))
    ∷ [])

-- an item with this tag, which need not be there
unfoldable pub unique_id_fault : ℕ → Spot → Option Fault
unique_id_fault tag spot = if_next tag spot (no_item kind.Der spot ∷ [])

-- ---- the values of extensions, in the content of their OCTET STRING

unfoldable pub path_length_fault : Spot → Option Fault
path_length_fault spot = if_next integer_tag spot (
    no_item kind.Der spot
    ∷ typed is_integer spot
    ∷ rule (is_u32 (content_at spot)) kind.Extension spot
    ∷ [])

-- the path length of basicConstraints, after its flag
abbrev pub path_length_spot : Spot → Spot
path_length_spot spot = after_optional boolean_tag (inside spot)

unfoldable pub basic_constraints_fault : Spot → Option Fault
basic_constraints_fault spot = first_of (
    part kind.Der sequence_tag spot
    ∷ flag_fault (inside spot)
    ∷ path_length_fault (path_length_spot spot)
    ∷ end kind.Der (after_optional integer_tag (path_length_spot spot))
    ∷ end kind.Der (after spot)
    ∷ [])

unfoldable pub key_usage_fault : Spot → Option Fault
key_usage_fault spot =
    first_of (part kind.Der bit_string_tag spot ∷ typed is_bits spot ∷ end kind.Der (after spot) ∷ [])

unfoldable pub key_identifier_fault : Spot → Option Fault
key_identifier_fault spot = first_of (part kind.Der octet_string_tag spot ∷ end kind.Der (after spot) ∷ [])

-- only these three are looked into
unfoldable pub value_fault : List ℕ → Spot → Option Fault
value_fault identifier spot =
    if bytes_eq identifier basic_constraints_oid then basic_constraints_fault spot
    else if bytes_eq identifier key_usage_oid then key_usage_fault spot
    else if bytes_eq identifier subject_key_identifier_oid then key_identifier_fault spot else None

-- ---- extensions

-- the octets of the identifier of an extension
unfoldable pub identifier_at : Spot → List ℕ
identifier_at spot = content_at (inside spot)

-- its flag, if it is there
unfoldable pub flag_spot : Spot → Spot
flag_spot spot = after (inside spot)

-- the OCTET STRING of its value
unfoldable pub value_spot : Spot → Spot
value_spot spot = after_optional boolean_tag (flag_spot spot)

-- one of the extensions at these spots has the identifier
unfoldable pub stands_among : List Spot → List ℕ → Bool
stands_among spots identifier = list_any (λ spot. bytes_eq (identifier_at spot) identifier) spots

-- Extension, after those at the earlier spots: whether it is one too many is told by their number, whether it stands
-- twice by its identifier, and whether it is critical and not known by its flag.
unfoldable pub extension_fault : List Spot → Spot → Option Fault
extension_fault earlier spot = first_of (
    part kind.Der sequence_tag spot
    ∷ rule (nat_lt (length earlier) most_extensions) kind.Extension spot
    ∷ part kind.Der object_identifier_tag (inside spot)
    ∷ rule (not (stands_among earlier (identifier_at spot))) kind.Extension spot
    ∷ flag_fault (flag_spot spot)
    ∷ rule (not (flag_at (flag_spot spot)) || is_known (identifier_at spot)) kind.Extension spot
    ∷ part kind.Der octet_string_tag (value_spot spot)
    ∷ end kind.Der (after (value_spot spot))
    ∷ value_fault (identifier_at spot) (inside (value_spot spot))
    ∷ [])

-- the extensions at the later spots, after those at the earlier ones
unfoldable pub each_fault : List Spot → List Spot → Option Fault
each_fault earlier [] = None
each_fault earlier (spot ∷ later) =
    first_of (extension_fault earlier spot ∷ each_fault (earlier ++ spot ∷ []) later ∷ [])

-- `[3]` and its SEQUENCE of extensions
unfoldable pub extensions_fault : Spot → Option Fault
extensions_fault spot = if_next extensions_tag spot (
    no_item kind.Der spot
    ∷ part kind.Der sequence_tag (inside spot)
    ∷ each_fault [] (spots_from (inside (inside spot)))
    ∷ end kind.Der (after (inside spot))
    ∷ [])

-- ---- the whole

-- the spots of the parts of TBSCertificate, from the spot of its first one on
abbrev pub serial_spot : Spot → Spot
serial_spot first = after first

abbrev pub issuer_spot : Spot → Spot
issuer_spot first = after (after (serial_spot first))

abbrev pub validity_spot : Spot → Spot
validity_spot first = after (issuer_spot first)

abbrev pub subject_spot : Spot → Spot
subject_spot first = after (validity_spot first)

abbrev pub key_spot : Spot → Spot
key_spot first = after (subject_spot first)

abbrev pub issuer_id_spot : Spot → Spot
issuer_id_spot first = after (key_spot first)

abbrev pub subject_id_spot : Spot → Spot
subject_id_spot first = after_optional issuer_unique_id_tag (issuer_id_spot first)

abbrev pub extensions_spot : Spot → Spot
extensions_spot first = after_optional subject_unique_id_tag (subject_id_spot first)

-- the parts of TBSCertificate
unfoldable pub tbs_parts_fault : Spot → Option Fault
tbs_parts_fault first = first_of (
    version_fault first
    ∷ integer_fault (serial_spot first)
    ∷ algorithm_fault (after (serial_spot first))
    ∷ part kind.Der sequence_tag (issuer_spot first)
    ∷ validity_fault (validity_spot first)
    ∷ part kind.Der sequence_tag (subject_spot first)
    ∷ key_fault (key_spot first)
    ∷ unique_id_fault issuer_unique_id_tag (issuer_id_spot first)
    ∷ unique_id_fault subject_unique_id_tag (subject_id_spot first)
    ∷ extensions_fault (extensions_spot first)
    ∷ end kind.Der (after_optional extensions_tag (extensions_spot first))
    ∷ [])

-- Certificate, with nothing behind it
unfoldable pub cert_fault : List ℕ → Option Fault
cert_fault bytes = first_of (
    part kind.Der sequence_tag (front bytes)
    ∷ part kind.Der sequence_tag (inside (front bytes))
    ∷ tbs_parts_fault (inside (inside (front bytes)))
    ∷ algorithm_fault (after (inside (front bytes)))
    ∷ octets_fault kind.Der (after (after (inside (front bytes))))
    ∷ end kind.Der (after (after (after (inside (front bytes)))))
    ∷ end kind.Der (after (front bytes))
    ∷ [])
