-- What is kept of a message without fault, from the items at their places.
use Rattle.std.specs.Prelude.{ℕ, ◌&&◌, if◌then◌else◌, List, [], map, Option, Some, None, bytes_eq, option_map, unwrap_or}
use Rattle.std.specs.List.{find}
use Rattle.sz_der.specs.Spots.{after, content_at, front, inside, is_at_end, is_next, Spot, spots_from, whole_at}
use Rattle.sz_der.specs.Tags.{context_constructed, context_primitive}
use Rattle.sz_cms.specs.Message.{Algorithm, Identifier, IssuerSerial, KeyId, Info, is_hss_lms, is_sha256, Plain, Signed, SignedAttributes, SignedData, Signer}
use Rattle.sz_cms.specs.MessageFault.{algorithm_spot, attributes_spot, certs_spot, content_spot, crls_spot, crls_tag, digest_spot, identifier_spot, parameters_spot, sequences_at, signature_spot, signers_spot, type_at, values_spot}
use Rattle.sz_cms.specs.Identifiers.{content_type_oid, enveloped_data_oid, message_digest_oid, signed_data_oid}

-- ---- a signer

-- a whole item, or nothing where nothing is left
unfoldable pub parameters_at : Spot → List ℕ
parameters_at spot = if is_at_end spot then [] else whole_at spot

unfoldable pub algorithm_at : Spot → Algorithm
algorithm_at spot = record { identifier = content_at (inside spot); parameters = parameters_at (parameters_spot spot) }

unfoldable pub issuer_serial_at : Spot → Identifier
issuer_serial_at spot = IssuerSerial (whole_at (inside spot)) (content_at (after (inside spot)))

unfoldable pub identifier_at : Spot → Identifier
identifier_at spot = if is_next context_primitive spot then KeyId (content_at spot) else issuer_serial_at spot

-- the first value of the attribute at the spot
unfoldable pub value_at : Spot → List ℕ
value_at spot = content_at (inside (values_spot spot))

-- that of the first attribute with the type, if there is one
unfoldable pub value_among : List Spot → List ℕ → Option (List ℕ)
value_among spots type = option_map value_at (find (λ spot. bytes_eq (type_at spot) type) spots)

-- that of the attributes with the type that the field at the spot holds
unfoldable pub value_in : Spot → List ℕ → List ℕ
value_in spot type = unwrap_or (value_among (spots_from (inside spot)) type) []

-- the signed attributes that the field at the spot holds
unfoldable pub known_at : Spot → SignedAttributes
known_at spot = record {
  whole = whole_at spot;
  content_type = value_in spot content_type_oid;
  digest = value_in spot message_digest_oid;
}

unfoldable pub attributes_at : Spot → Option SignedAttributes
attributes_at spot = if is_next context_constructed spot then Some (known_at spot) else None

-- from the spot of its first part
unfoldable pub signer_from : Spot → Signer
signer_from first = record {
  identifier = identifier_at (identifier_spot first);
  by_hss = is_sha256 (algorithm_at (digest_spot first)) && is_hss_lms (algorithm_at (algorithm_spot first));
  attributes = attributes_at (attributes_spot first);
  signature = content_at (signature_spot first);
}

-- ---- signed data

-- the content in the field after its type
unfoldable pub content_field_at : Spot → Option (List ℕ)
content_field_at spot = if is_next context_constructed spot then Some (content_at (inside spot)) else None

-- the SEQUENCEs that the field at the spot holds
unfoldable pub choices_at : ℕ → Spot → List (List ℕ)
choices_at tag spot = if is_next tag spot then sequences_at (spots_from (inside spot)) else []

-- from its own spot
abbrev pub signer_at : Spot → Signer
signer_at spot = signer_from (inside spot)

unfoldable pub signers_at : Spot → List Signer
signers_at spot = map signer_at (spots_from (inside spot))

-- from the spot of its first part
unfoldable pub signed_from : Spot → Signed
signed_from first = record {
  kind = content_at (inside (content_spot first));
  content = content_field_at (after (inside (content_spot first)));
  certs = choices_at context_constructed (certs_spot first);
  crls = choices_at crls_tag (crls_spot first);
  signers = signers_at (signers_spot first);
}

-- ---- the message

-- the content at the spot, by the octets of its type
unfoldable pub inner_at : List ℕ → Spot → Info
inner_at type spot =
    if bytes_eq type signed_data_oid then SignedData (signed_from (inside spot))
    else if bytes_eq type enveloped_data_oid then Plain type [] else Plain type (content_at spot)

unfoldable pub info_at : List ℕ → Info
info_at bytes = inner_at (type_at (front bytes)) (inside (after (inside (front bytes))))
