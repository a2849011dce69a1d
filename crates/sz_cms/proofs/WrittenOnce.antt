-- What is written of given values is one string.
use Rattle.std.proofs.Common.{◌≡◌, ℕ, List, [], ◌∷◌, ◌++◌, drop, Option, Some, None, refl, sym, ap, ◌∙◌}
use Rattle.sz_der.specs.Der.{Der}
use Rattle.sz_der.proofs.Apart.{one_string}
use Rattle.sz_der.proofs.Joined.{Der_with}
use Rattle.sz_cms.specs.Message.{Algorithm, IsAlgorithm, IsContent, IsContentField, IsContentInfo, IsIssuerSerial}
use Rattle.sz_cms.specs.Spelled.{AreWrittenAttributes, AreWrittenCerts, Carried, IsListsField, IsOneValued, IsSignedByOne, IsWrittenMessage, IsWrittenSigned, IsWrittenSigner}

one_item : {tag : ℕ} {content next whole other : List ℕ} → content ≡ next → Der tag content whole → Der tag next other → whole ≡ other
one_item {tag} {content} {next} {whole} {other} same a b = one_string tag next whole other (Der_with same a) b

-- the same first part, and the same behind it
and_rest : (first other rest others : List ℕ) → first ≡ other → rest ≡ others → first ++ rest ≡ other ++ others
and_rest first other rest others same later = ap (λ (x : List ℕ). x ++ rest) same ∙ ap (λ (x : List ℕ). other ++ x) later

-- ---- parts

one_algorithm : {algorithm : Algorithm} {bytes other : List ℕ} → IsAlgorithm algorithm bytes → IsAlgorithm algorithm other → bytes ≡ other
one_algorithm {algorithm} a b =
    one_item (and_rest a.identifier b.identifier (algorithm.parameters ++ []) (algorithm.parameters ++ []) (one_item refl a.is_identifier b.is_identifier) refl)
    a.is_sequence b.is_sequence

one_identifier : {issuer serial bytes other : List ℕ} → IsIssuerSerial issuer serial bytes → IsIssuerSerial issuer serial other → bytes ≡ other
one_identifier {issuer} a b =
    one_item (and_rest issuer issuer _ _ refl (and_rest a.number b.number [] [] (one_item refl a.is_serial b.is_serial) refl))
    a.is_sequence b.is_sequence

one_attribute : {type : List ℕ} {tag : ℕ} {content bytes other : List ℕ} → IsOneValued type tag content bytes → IsOneValued type tag content other →
    bytes ≡ other
one_attribute a b =
    one_item
    (and_rest a.identifier b.identifier _ _ (one_item refl a.is_identifier b.is_identifier)
    (and_rest a.set b.set [] [] (one_item (one_item refl a.is_value b.is_value) a.is_set b.is_set) refl))
    a.is_sequence b.is_sequence

one_field : (content : Option (List ℕ)) (bytes other : List ℕ) → IsContentField content bytes → IsContentField content other → bytes ≡ other
one_field None bytes other a b = a ∙ sym b
one_field (Some content) bytes other a b = one_item (one_item refl a.is_octets b.is_octets) a.is_explicit b.is_explicit

one_content : {kind : List ℕ} {content : Option (List ℕ)} {bytes other : List ℕ} → IsContent kind content bytes → IsContent kind content other → bytes ≡ other
one_content {kind} {content} a b =
    one_item
    (and_rest a.identifier b.identifier _ _ (one_item refl a.is_identifier b.is_identifier)
    (and_rest a.field b.field [] [] (one_field content a.field b.field a.is_field b.is_field) refl))
    a.is_sequence b.is_sequence

one_lists : (crls : List (List ℕ)) (bytes other : List ℕ) → IsListsField crls bytes → IsListsField crls other → bytes ≡ other
one_lists [] bytes other a b = a ∙ sym b
one_lists (crl ∷ crls) bytes other a b = one_item refl a b

one_info : {kind inner next bytes other : List ℕ} → inner ≡ next → IsContentInfo kind inner bytes → IsContentInfo kind next other → bytes ≡ other
one_info same a b =
    one_item
    (and_rest a.identifier b.identifier _ _ (one_item refl a.is_identifier b.is_identifier)
    (and_rest a.field b.field [] [] (one_item same a.is_field b.is_field) refl))
    a.is_sequence b.is_sequence

-- ---- a signer, and signed data

one_signer : {issuer serial attributes signature bytes other : List ℕ} → IsWrittenSigner issuer serial attributes signature bytes →
    IsWrittenSigner issuer serial attributes signature other → bytes ≡ other
one_signer {issuer} {serial} {attributes} a b =
    let from_octets = and_rest a.octets b.octets [] [] (one_item refl a.is_signature b.is_signature) refl in
    let from_algorithm = and_rest a.signature_algorithm b.signature_algorithm _ _ (one_algorithm a.is_signature_algorithm b.is_signature_algorithm)
    from_octets in
    let from_attributes = and_rest (160 ∷ drop 1 attributes) (160 ∷ drop 1 attributes) _ _ refl from_algorithm in
    let from_digest = and_rest a.digest_algorithm b.digest_algorithm _ _ (one_algorithm a.is_digest_algorithm b.is_digest_algorithm) from_attributes in
    let from_identifier = and_rest a.identifier b.identifier _ _ (one_identifier a.is_identifier b.is_identifier) from_digest in
    one_item (and_rest a.version b.version _ _ (one_item refl a.is_version b.is_version) from_identifier) a.is_sequence b.is_sequence

one_signed : {digests next signers others : List ℕ} {carried : Carried} {bytes other : List ℕ} → digests ≡ next → signers ≡ others →
    IsWrittenSigned digests signers carried bytes → IsWrittenSigned next others carried other → bytes ≡ other
one_signed {digests} {next} {signers} {others} {carried} same_digests same_signers a b =
    let from_signers = and_rest a.signer_infos b.signer_infos [] [] (one_item same_signers a.are_signers b.are_signers) refl in
    let from_crls = and_rest a.crls b.crls _ _ (one_lists carried.crls a.crls b.crls a.are_crls b.are_crls) from_signers in
    let from_certs = and_rest a.certs b.certs _ _ (one_item refl a.are_certs b.are_certs) from_crls in
    let from_content = and_rest a.content b.content _ _ (one_content a.is_content b.is_content) from_certs in
    let from_algorithms = and_rest a.algorithms b.algorithms _ _ (one_item same_digests a.are_algorithms b.are_algorithms) from_content in
    one_item (and_rest a.version b.version _ _ (one_item refl a.is_version b.is_version) from_algorithms) a.is_sequence b.is_sequence

one_by_one : {signer others : List ℕ} {carried : Carried} {bytes other : List ℕ} → signer ≡ others → IsSignedByOne signer carried bytes →
    IsSignedByOne others carried other → bytes ≡ other
one_by_one same a b = one_signed (one_algorithm a.is_digest b.is_digest) same a.is_signed b.is_signed

-- ---- what the writers give

pub one_attributes : (kind content bytes other : List ℕ) → AreWrittenAttributes kind content bytes → AreWrittenAttributes kind content other → bytes ≡ other
one_attributes kind content bytes other a b =
    one_item
    (and_rest a.type b.type _ _ (one_attribute a.is_type b.is_type)
    (and_rest a.digest b.digest [] [] (one_attribute a.is_digest b.is_digest) refl))
    a.is_set b.is_set

pub one_message : (carried : Carried) (issuer serial attributes signature bytes other : List ℕ) →
    IsWrittenMessage carried issuer serial attributes signature bytes → IsWrittenMessage carried issuer serial attributes signature other → bytes ≡ other
one_message carried issuer serial attributes signature bytes other a b =
    one_info (one_by_one (one_signer a.is_signer b.is_signer) a.is_signed b.is_signed) a.is_info b.is_info

pub one_bag : (certs crls : List (List ℕ)) (bytes other : List ℕ) → AreWrittenCerts certs crls bytes → AreWrittenCerts certs crls other → bytes ≡ other
one_bag certs crls bytes other a b = one_info (one_signed refl refl a.is_signed b.is_signed) a.is_info b.is_info
