-- The object identifiers that messages hold, each as the octets of its DER content (X.690 section 8.19).
use Rattle.std.specs.Prelude.{ℕ, List, [], ◌∷◌}

-- id-data, 1.2.840.113549.1.7.1 (RFC 5652 section 4)
abbrev pub data_oid : List ℕ
data_oid = 42 ∷ 134 ∷ 72 ∷ 134 ∷ 247 ∷ 13 ∷ 1 ∷ 7 ∷ 1 ∷ []

-- id-signedData, 1.2.840.113549.1.7.2 (RFC 5652 section 5.1)
abbrev pub signed_data_oid : List ℕ
signed_data_oid = 42 ∷ 134 ∷ 72 ∷ 134 ∷ 247 ∷ 13 ∷ 1 ∷ 7 ∷ 2 ∷ []

-- id-envelopedData, 1.2.840.113549.1.7.3 (RFC 5652 section 6.1)
abbrev pub enveloped_data_oid : List ℕ
enveloped_data_oid = 42 ∷ 134 ∷ 72 ∷ 134 ∷ 247 ∷ 13 ∷ 1 ∷ 7 ∷ 3 ∷ []

-- id-ct-animaJSONVoucher, 1.2.840.113549.1.9.16.1.40 (RFC 8366 section 8.3)
abbrev pub voucher_oid : List ℕ
voucher_oid = 42 ∷ 134 ∷ 72 ∷ 134 ∷ 247 ∷ 13 ∷ 1 ∷ 9 ∷ 16 ∷ 1 ∷ 40 ∷ []

-- id-ct-sztpConveyedInfoXML, 1.2.840.113549.1.9.16.1.42 (RFC 8572 section 10.4)
abbrev pub conveyed_xml_oid : List ℕ
conveyed_xml_oid = 42 ∷ 134 ∷ 72 ∷ 134 ∷ 247 ∷ 13 ∷ 1 ∷ 9 ∷ 16 ∷ 1 ∷ 42 ∷ []

-- id-ct-sztpConveyedInfoJSON, 1.2.840.113549.1.9.16.1.43 (RFC 8572 section 10.4)
abbrev pub conveyed_json_oid : List ℕ
conveyed_json_oid = 42 ∷ 134 ∷ 72 ∷ 134 ∷ 247 ∷ 13 ∷ 1 ∷ 9 ∷ 16 ∷ 1 ∷ 43 ∷ []

-- id-contentType, 1.2.840.113549.1.9.3 (RFC 5652 section 11.1)
abbrev pub content_type_oid : List ℕ
content_type_oid = 42 ∷ 134 ∷ 72 ∷ 134 ∷ 247 ∷ 13 ∷ 1 ∷ 9 ∷ 3 ∷ []

-- id-messageDigest, 1.2.840.113549.1.9.4 (RFC 5652 section 11.2)
abbrev pub message_digest_oid : List ℕ
message_digest_oid = 42 ∷ 134 ∷ 72 ∷ 134 ∷ 247 ∷ 13 ∷ 1 ∷ 9 ∷ 4 ∷ []

-- id-sha256, 2.16.840.1.101.3.4.2.1 (RFC 5754 section 2.2)
abbrev pub sha_256_oid : List ℕ
sha_256_oid = 96 ∷ 134 ∷ 72 ∷ 1 ∷ 101 ∷ 3 ∷ 4 ∷ 2 ∷ 1 ∷ []

-- id-alg-hss-lms-hashsig, 1.2.840.113549.1.9.16.3.17 (RFC 8708 section 3)
abbrev pub hss_lms_oid : List ℕ
hss_lms_oid = 42 ∷ 134 ∷ 72 ∷ 134 ∷ 247 ∷ 13 ∷ 1 ∷ 9 ∷ 16 ∷ 3 ∷ 17 ∷ []
