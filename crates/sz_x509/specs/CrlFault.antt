-- The first fault of a revocation list, as a function of its bytes: tables of rules over the items at their places.
use Rattle.std.specs.Prelude.{ℕ, ◌||◌, not, if◌then◌else◌, Bool, List, [], ◌∷◌, Option, None, bytes_eq}
use Rattle.sz_der.specs.Integer.{is_integer}
use Rattle.sz_der.specs.Spots.{after, after_optional, content_at, each, first_of, front, if_next, inside, is_next, no_item, rule, Spot, spots_from}
use Rattle.sz_der.specs.Tags.{context_constructed, generalized_time_tag, integer_tag, object_identifier_tag, octet_string_tag, sequence_tag, utc_time_tag}
use Rattle.sz_x509.specs.CertFault.{algorithm_fault, end, Fault, flag_at, flag_fault, flag_spot, integer_fault, octets_fault, part, time_fault, typed, value_spot}
use Rattle.sz_x509.specs.declared.fault.CertKind.TheVariants as kind

-- version 2, or none
unfoldable pub list_version_fault : Spot → Option Fault
list_version_fault spot = if_next integer_tag spot (
    no_item kind.Der spot
    ∷ typed is_integer spot
    ∷ rule (bytes_eq (content_at spot) (1 ∷ [])) kind.Version spot
    ∷ [])

-- a time of either type is next
unfoldable pub is_time_next : Spot → Bool
is_time_next spot = is_next utc_time_tag spot || is_next generalized_time_tag spot

-- nextUpdate, where a time is next
unfoldable pub next_update_fault : Spot → Option Fault
next_update_fault spot = if is_time_next spot then time_fault spot else None

-- after it
unfoldable pub after_next_update : Spot → Spot
after_next_update spot = if is_time_next spot then after spot else spot

-- an extension that must not be critical
unfoldable pub passed_over_fault : Spot → Option Fault
passed_over_fault spot = first_of (
    part kind.Der sequence_tag spot
    ∷ part kind.Der object_identifier_tag (inside spot)
    ∷ flag_fault (flag_spot spot)
    ∷ rule (not (flag_at (flag_spot spot))) kind.Extension spot
    ∷ part kind.Der octet_string_tag (value_spot spot)
    ∷ end kind.Der (after (value_spot spot))
    ∷ [])

-- the extensions in a SEQUENCE
abbrev pub all_passed_over_fault : Spot → Option Fault
all_passed_over_fault sequence = each passed_over_fault (spots_from (inside sequence))

-- extensions of an entry, where a SEQUENCE is next
unfoldable pub entry_extensions_fault : Spot → Option Fault
entry_extensions_fault spot = if_next sequence_tag spot (no_item kind.Der spot ∷ all_passed_over_fault spot ∷ [])

unfoldable pub entry_fault : Spot → Option Fault
entry_fault spot = first_of (
    part kind.Der sequence_tag spot
    ∷ integer_fault (inside spot)
    ∷ time_fault (after (inside spot))
    ∷ entry_extensions_fault (after (after (inside spot)))
    ∷ end kind.Der (after_optional sequence_tag (after (after (inside spot))))
    ∷ [])

-- revokedCertificates, where a SEQUENCE is next
unfoldable pub revoked_fault : Spot → Option Fault
revoked_fault spot =
    if_next sequence_tag spot (no_item kind.Der spot ∷ each entry_fault (spots_from (inside spot)) ∷ [])

-- crlExtensions, where `[0]` is next
unfoldable pub list_extensions_fault : Spot → Option Fault
list_extensions_fault spot = if_next context_constructed spot (
    no_item kind.Der spot
    ∷ part kind.Der sequence_tag (inside spot)
    ∷ all_passed_over_fault (inside spot)
    ∷ end kind.Der (after (inside spot))
    ∷ [])

-- the spots of the parts of TBSCertList, from the spot of its first one on
unfoldable pub list_algorithm_spot : Spot → Spot
list_algorithm_spot first = after_optional integer_tag first

abbrev pub list_issuer_spot : Spot → Spot
list_issuer_spot first = after (list_algorithm_spot first)

abbrev pub this_update_spot : Spot → Spot
this_update_spot first = after (list_issuer_spot first)

abbrev pub next_update_spot : Spot → Spot
next_update_spot first = after (this_update_spot first)

abbrev pub revoked_spot : Spot → Spot
revoked_spot first = after_next_update (next_update_spot first)

abbrev pub list_extensions_spot : Spot → Spot
list_extensions_spot first = after_optional sequence_tag (revoked_spot first)

-- the parts of TBSCertList
unfoldable pub list_parts_fault : Spot → Option Fault
list_parts_fault first = first_of (
    list_version_fault first
    ∷ algorithm_fault (list_algorithm_spot first)
    ∷ part kind.Der sequence_tag (list_issuer_spot first)
    ∷ time_fault (this_update_spot first)
    ∷ next_update_fault (next_update_spot first)
    ∷ revoked_fault (revoked_spot first)
    ∷ list_extensions_fault (list_extensions_spot first)
    ∷ end kind.Der (after_optional context_constructed (list_extensions_spot first))
    ∷ [])

-- CertificateList, with nothing behind it
unfoldable pub crl_fault : List ℕ → Option Fault
crl_fault bytes = first_of (
    part kind.Der sequence_tag (front bytes)
    ∷ part kind.Der sequence_tag (inside (front bytes))
    ∷ list_parts_fault (inside (inside (front bytes)))
    ∷ algorithm_fault (after (inside (front bytes)))
    ∷ octets_fault kind.Der (after (after (inside (front bytes))))
    ∷ end kind.Der (after (after (after (inside (front bytes)))))
    ∷ end kind.Der (after (front bytes))
    ∷ [])
