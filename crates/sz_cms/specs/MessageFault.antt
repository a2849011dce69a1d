-- The first fault of a message, as a function of its bytes: tables of rules over the items at their places, each item's
-- header before its content, in the order of the bytes.
use Rattle.std.specs.Prelude.{ℕ, ◌+◌, ◌&&◌, ◌||◌, ◌==◌, not, nat_lt, map, if◌then◌else◌, Bool, List, [], ◌∷◌, ◌++◌, length, Option, None, bytes_eq}
use Rattle.std.specs.List.{list_any}
use Rattle.sz_der.specs.Spots.{after, after_optional, content_at, first_of, front, if_left, if_next, inside, is_at_end, is_next, no_end, no_integer, no_item, no_part, rule, Spot, spots_from, tag_at, whole_at}
use Rattle.sz_der.specs.Tags.{context_constructed, context_primitive, object_identifier_tag, octet_string_tag, sequence_tag, set_tag}
use Rattle.sz_cms.specs.Message.{sequences_of}
use Rattle.sz_cms.specs.declared.fault.InfoKind.{InfoKind}
use Rattle.sz_cms.specs.declared.fault.InfoKind.TheVariants as kind
use Rattle.sz_cms.specs.Identifiers.{content_type_oid, enveloped_data_oid, message_digest_oid, signed_data_oid}
use Rattle.sz_cms.specs.Limits.{most_certs, most_crls, most_signers}

-- a fault: its kind and its place, counted from 0
abbrev pub Fault : Type 0
Fault = InfoKind × ℕ

-- an item, whatever its tag is
abbrev pub some_item : Spot → Option Fault
some_item spot = no_item kind.Der spot

-- an item with this tag; what is no item is of the kind Der, wherever it stands
abbrev pub part : ℕ → Spot → Option Fault
part tag spot = no_part kind.Der kind.Shape tag spot

-- nothing more
abbrev pub end : Spot → Option Fault
end spot = no_end kind.Der kind.Shape spot

-- the rules on items one after another, each after those at the earlier spots
abbrev pub each_after : (List Spot → Spot → Option Fault) → List Spot → List Spot → Option Fault
each_after fault earlier [] = None
each_after fault earlier (spot ∷ later) =
    first_of (fault earlier spot ∷ each_after fault (earlier ++ spot ∷ []) later ∷ [])

-- on all items from a spot on
abbrev pub each_from : (List Spot → Spot → Option Fault) → Spot → Option Fault
each_from fault spot = each_after fault [] (spots_from spot)

-- ---- parts that stand in several places

-- an INTEGER of any value
abbrev pub integer_fault : Spot → Option Fault
integer_fault spot = no_integer kind.Der kind.Shape spot

-- the parameters of an algorithm, after its identifier
abbrev pub parameters_spot : Spot → Spot
parameters_spot spot = after (inside spot)

-- at most one item
unfoldable pub parameters_fault : Spot → Option Fault
parameters_fault spot = if_left spot (some_item spot ∷ end (after spot) ∷ [])

-- AlgorithmIdentifier, whose parameters need not be there
unfoldable pub algorithm_fault : Spot → Option Fault
algorithm_fault spot = first_of (
    part sequence_tag spot
    ∷ part object_identifier_tag (inside spot)
    ∷ parameters_fault (parameters_spot spot)
    ∷ [])

-- ---- attributes

-- the octets of the type of an attribute
abbrev pub type_at : Spot → List ℕ
type_at spot = content_at (inside spot)

-- the SET of its values
abbrev pub values_spot : Spot → Spot
values_spot spot = after (inside spot)

-- one of the attributes at these spots has the type
unfoldable pub stands_among : List Spot → List ℕ → Bool
stands_among spots type = list_any (λ spot. bytes_eq (type_at spot) type) spots

-- the type is one that stands once
abbrev pub is_known : List ℕ → Bool
is_known type = bytes_eq type content_type_oid || bytes_eq type message_digest_oid

-- one value, with this tag
unfoldable pub one_fault : ℕ → Spot → Option Fault
one_fault tag spot = first_of (
    rule (not (is_at_end spot)) kind.Attribute spot
    ∷ part tag spot
    ∷ no_end kind.Der kind.Attribute (after spot)
    ∷ [])

-- the values of the two known types; those of others are not looked into
unfoldable pub values_fault : List ℕ → Spot → Option Fault
values_fault type spot =
    if bytes_eq type content_type_oid then one_fault object_identifier_tag spot
    else if bytes_eq type message_digest_oid then one_fault octet_string_tag spot else None

-- Attribute, after those at the earlier spots
unfoldable pub attribute_fault : List Spot → Spot → Option Fault
attribute_fault earlier spot = first_of (
    part sequence_tag spot
    ∷ part object_identifier_tag (inside spot)
    ∷ rule (not (is_known (type_at spot) && stands_among earlier (type_at spot))) kind.Attribute (inside spot)
    ∷ part set_tag (values_spot spot)
    ∷ values_fault (type_at spot) (inside (values_spot spot))
    ∷ end (after (values_spot spot))
    ∷ [])

-- both known types stand among the attributes
unfoldable pub has_both : List Spot → Bool
has_both spots = stands_among spots content_type_oid && stands_among spots message_digest_oid

-- all attributes that the field holds; a missing one is found at its end
unfoldable pub known_fault : Spot → Option Fault
known_fault spot = first_of (
    each_from attribute_fault (inside spot)
    ∷ rule (has_both (spots_from (inside spot))) kind.Attribute (after spot)
    ∷ [])

-- the field of signed attributes, which need not be there
unfoldable pub attributes_fault : Spot → Option Fault
attributes_fault spot = if_next context_constructed spot (some_item spot ∷ known_fault spot ∷ [])

-- ---- signers

-- IssuerAndSerialNumber
unfoldable pub issuer_serial_fault : Spot → Option Fault
issuer_serial_fault spot = first_of (
    part sequence_tag spot
    ∷ part sequence_tag (inside spot)
    ∷ integer_fault (after (inside spot))
    ∷ end (after (after (inside spot)))
    ∷ [])

-- SignerIdentifier: a key identifier in `[0]`, or IssuerAndSerialNumber
unfoldable pub identifier_fault : Spot → Option Fault
identifier_fault spot = if is_next context_primitive spot then some_item spot else issuer_serial_fault spot

-- the spots of the parts of SignerInfo, from the spot of its first one on
abbrev pub identifier_spot : Spot → Spot
identifier_spot first = after first

abbrev pub digest_spot : Spot → Spot
digest_spot first = after (identifier_spot first)

abbrev pub attributes_spot : Spot → Spot
attributes_spot first = after (digest_spot first)

abbrev pub algorithm_spot : Spot → Spot
algorithm_spot first = after_optional context_constructed (attributes_spot first)

abbrev pub signature_spot : Spot → Spot
signature_spot first = after (algorithm_spot first)

abbrev pub unsigned_spot : Spot → Spot
unsigned_spot first = after (signature_spot first)

abbrev pub unsigned_tag : ℕ
unsigned_tag = context_constructed + 1

-- unsigned attributes, which are not looked into and need not be there
unfoldable pub unsigned_fault : Spot → Option Fault
unsigned_fault spot = if_next unsigned_tag spot (some_item spot ∷ [])

-- the parts of SignerInfo
unfoldable pub signer_parts_fault : Spot → Option Fault
signer_parts_fault first = first_of (
    integer_fault first
    ∷ identifier_fault (identifier_spot first)
    ∷ algorithm_fault (digest_spot first)
    ∷ attributes_fault (attributes_spot first)
    ∷ algorithm_fault (algorithm_spot first)
    ∷ part octet_string_tag (signature_spot first)
    ∷ unsigned_fault (unsigned_spot first)
    ∷ end (after_optional unsigned_tag (unsigned_spot first))
    ∷ [])

-- SignerInfo, after those at the earlier spots; it is looked into where not too many stand before it
unfoldable pub signer_fault : List Spot → Spot → Option Fault
signer_fault earlier spot = first_of (
    part sequence_tag spot
    ∷ rule (nat_lt (length earlier) most_signers) (kind.TooMany most_signers) spot
    ∷ signer_parts_fault (inside spot)
    ∷ [])

-- ---- signed data

-- a SET of algorithms
unfoldable pub algorithms_fault : Spot → Option Fault
algorithms_fault spot = first_of (part set_tag spot ∷ each_from (λ _. algorithm_fault) (inside spot) ∷ [])

-- an OCTET STRING, with nothing behind it
unfoldable pub octets_fault : Spot → Option Fault
octets_fault spot = first_of (part octet_string_tag spot ∷ end (after spot) ∷ [])

-- `[0]` and an OCTET STRING, which need not be there
unfoldable pub content_field_fault : Spot → Option Fault
content_field_fault spot = if_next context_constructed spot (some_item spot ∷ octets_fault (inside spot) ∷ [])

-- EncapsulatedContentInfo
unfoldable pub content_fault : Spot → Option Fault
content_fault spot = first_of (
    part sequence_tag spot
    ∷ part object_identifier_tag (inside spot)
    ∷ content_field_fault (after (inside spot))
    ∷ end (after_optional context_constructed (after (inside spot)))
    ∷ [])

-- the item at the spot is a SEQUENCE
unfoldable pub is_sequence : Spot → Bool
is_sequence spot = tag_at spot == sequence_tag

-- the SEQUENCEs among the items at these spots
abbrev pub sequences_at : List Spot → List (List ℕ)
sequences_at spots = sequences_of (map whole_at spots)

-- a certificate or a revocation list, which are SEQUENCEs, at most so many, or another choice
unfoldable pub choice_fault : ℕ → List Spot → Spot → Option Fault
choice_fault most earlier spot = first_of (
    some_item spot
    ∷ rule (not (is_sequence spot) || nat_lt (length (sequences_at earlier)) most) (kind.TooMany most) spot
    ∷ [])

-- a field of them, which need not be there
unfoldable pub choices_fault : ℕ → ℕ → Spot → Option Fault
choices_fault most tag spot = if_next tag spot (some_item spot ∷ each_from (choice_fault most) (inside spot) ∷ [])

-- a SET of signers
unfoldable pub signers_fault : Spot → Option Fault
signers_fault spot = first_of (part set_tag spot ∷ each_from signer_fault (inside spot) ∷ [])

-- the spots of the parts of SignedData, from the spot of its first one on
abbrev pub algorithms_spot : Spot → Spot
algorithms_spot first = after first

abbrev pub content_spot : Spot → Spot
content_spot first = after (algorithms_spot first)

abbrev pub certs_spot : Spot → Spot
certs_spot first = after (content_spot first)

abbrev pub crls_spot : Spot → Spot
crls_spot first = after_optional context_constructed (certs_spot first)

abbrev pub crls_tag : ℕ
crls_tag = context_constructed + 1

abbrev pub signers_spot : Spot → Spot
signers_spot first = after_optional crls_tag (crls_spot first)

-- the parts of SignedData
unfoldable pub signed_parts_fault : Spot → Option Fault
signed_parts_fault first = first_of (
    integer_fault first
    ∷ algorithms_fault (algorithms_spot first)
    ∷ content_fault (content_spot first)
    ∷ choices_fault most_certs context_constructed (certs_spot first)
    ∷ choices_fault most_crls crls_tag (crls_spot first)
    ∷ signers_fault (signers_spot first)
    ∷ end (after (signers_spot first))
    ∷ [])

-- SignedData, with nothing behind it
unfoldable pub signed_fault : Spot → Option Fault
signed_fault spot = first_of (part sequence_tag spot ∷ signed_parts_fault (inside spot) ∷ end (after spot) ∷ [])

-- ---- the message

-- the content, by the octets of its type; enveloped data is not looked into
unfoldable pub inner_fault : List ℕ → Spot → Option Fault
inner_fault type spot =
    if bytes_eq type signed_data_oid then signed_fault spot
    else if bytes_eq type enveloped_data_oid then None else octets_fault spot

-- ContentInfo, with nothing behind it
unfoldable pub info_fault : List ℕ → Option Fault
info_fault bytes = first_of (
    part sequence_tag (front bytes)
    ∷ part object_identifier_tag (inside (front bytes))
    ∷ part context_constructed (after (inside (front bytes)))
    ∷ inner_fault (type_at (front bytes)) (inside (after (inside (front bytes))))
    ∷ end (after (after (inside (front bytes))))
    ∷ end (after (front bytes))
    ∷ [])
