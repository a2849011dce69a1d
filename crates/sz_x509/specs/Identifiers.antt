-- The object identifiers that certificates and revocation lists hold, each as the octets of its DER content (X.690
-- section 8.19).
use Rattle.std.specs.Prelude.{ℕ, List, [], ◌∷◌}

-- id-alg-hss-lms-hashsig, 1.2.840.113549.1.9.16.3.17 (RFC 8708 section 3)
abbrev pub hss_lms_oid : List ℕ
hss_lms_oid = 42 ∷ 134 ∷ 72 ∷ 134 ∷ 247 ∷ 13 ∷ 1 ∷ 9 ∷ 16 ∷ 3 ∷ 17 ∷ []

-- id-ce-subjectKeyIdentifier, 2.5.29.14 (RFC 5280 section 4.2.1.2)
abbrev pub subject_key_identifier_oid : List ℕ
subject_key_identifier_oid = 85 ∷ 29 ∷ 14 ∷ []

-- id-ce-keyUsage, 2.5.29.15 (RFC 5280 section 4.2.1.3)
abbrev pub key_usage_oid : List ℕ
key_usage_oid = 85 ∷ 29 ∷ 15 ∷ []

-- id-ce-subjectAltName, 2.5.29.17 (RFC 5280 section 4.2.1.6)
abbrev pub subject_alt_name_oid : List ℕ
subject_alt_name_oid = 85 ∷ 29 ∷ 17 ∷ []

-- id-ce-basicConstraints, 2.5.29.19 (RFC 5280 section 4.2.1.9)
abbrev pub basic_constraints_oid : List ℕ
basic_constraints_oid = 85 ∷ 29 ∷ 19 ∷ []

-- id-ce-certificatePolicies, 2.5.29.32 (RFC 5280 section 4.2.1.4)
abbrev pub certificate_policies_oid : List ℕ
certificate_policies_oid = 85 ∷ 29 ∷ 32 ∷ []

-- id-ce-authorityKeyIdentifier, 2.5.29.35 (RFC 5280 section 4.2.1.1)
abbrev pub authority_key_identifier_oid : List ℕ
authority_key_identifier_oid = 85 ∷ 29 ∷ 35 ∷ []

-- id-ce-extKeyUsage, 2.5.29.37 (RFC 5280 section 4.2.1.12)
abbrev pub extended_key_usage_oid : List ℕ
extended_key_usage_oid = 85 ∷ 29 ∷ 37 ∷ []
