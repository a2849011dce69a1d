-- What written parts make, one after another.
use Rattle.std.specs.Prelude.{◌==◌, map, slice_index}
use Rattle.std.specs.List.{AllByRecursion, concat}
use Rattle.std.proofs.Common.{◌≡◌, ℕ, zero, suc, ◌+◌, inl, inr, ◌<◌, true, List, [], ◌∷◌, ◌++◌, length, get_or, take, drop, None, refl, sym, ap, ◌∙◌, append_assoc, arith}
use Rattle.std.proofs.lemmas.List.{append-nil}
use Rattle.sha2.specs.Sha256.{sha256}
use Rattle.sz_der.specs.Der.{Der}
use Rattle.sz_der.specs.Integer.{IsInteger}
use Rattle.sz_der.specs.Spots.{AreEach}
use Rattle.sz_der.specs.Tags.{context_constructed, object_identifier_tag, octet_string_tag, sequence_tag, set_tag}
use Rattle.sz_der.proofs.Joined.{Der_with}
use Rattle.sz_cms.specs.Message.{HasAttributes, InfoOf, IsAlgorithm, IsAttribute, IsChoicesField, IsContent, IsContentInfo, IsItem, IsSigned, IsSigner, sequences_of, Signed, SignedData, Signer}
use Rattle.sz_cms.specs.Spelled.{alone_of, by_hss_lms, by_sha256, content_of, IsListsField, IsOneValued, IsSignedByOne, IsWrittenSigned, IsWrittenSigner, signed_version}
use Rattle.sz_cms.specs.Written.{AreAttributesOf, AreSequences, certs_signed, IsSequence, message_signed, written_signer}
use Rattle.sz_cms.specs.Identifiers.{content_type_oid, message_digest_oid, signed_data_oid}
use Rattle.sz_cms.specs.Limits.{most_certs, most_crls}

-- ---- parts, one after another

-- the first parts and the next one
pub concat_next : {A : Type 0} (f : A → List ℕ) (xs : List A) (i : ℕ) (d : A) → i < length xs →
    concat (map f (take (i + 1) xs)) ≡ concat (map f (take i xs)) ++ f (get_or xs i d)
concat_next f [] i d within = absurd (omega arith)
concat_next f (x ∷ xs) zero d within = append-nil (f x)
concat_next f (x ∷ xs) (suc i) d within =
    let more : suc i + 1 ≡ suc (i + 1) = omega arith in
    let rest = concat_next f xs i d (omega arith) in
    rw more (ap (λ (bytes : List ℕ). f x ++ bytes) rest ∙ sym (append_assoc (f x) (concat (map f (take i xs))) (f (get_or xs i d))))

same_map : (xs : List (List ℕ)) → map (λ (x : List ℕ). x) xs ≡ xs
same_map [] = refl
same_map (x ∷ xs) = ap (λ (rest : List (List ℕ)). x ∷ rest) (same_map xs)

pub concat_more : (xs : List (List ℕ)) (i : ℕ) (d : List ℕ) → i < length xs → concat (take (i + 1) xs) ≡ concat (take i xs) ++ get_or xs i d
concat_more xs i d within =
    sym (ap concat (same_map (take (i + 1) xs))) ∙ concat_next (λ (x : List ℕ). x) xs i d within
    ∙ ap (λ (x : List ℕ). x ++ get_or xs i d) (ap concat (same_map (take i xs)))

-- ---- fields of whole items

one_by_one : (items : List (List ℕ)) → AllByRecursion IsSequence items → AreEach (λ item bytes. (item ≡ bytes) × IsItem bytes) items (concat items)
one_by_one [] each = refl
one_by_one (item ∷ items) each = (item, concat items, (refl, (sequence_tag, each.0.0, each.0.1)), refl, one_by_one items each.1)

begins : (content item : List ℕ) → Der sequence_tag content item → (slice_index item 0 == sequence_tag) ≡ true
begins content item is = rw is.spelled refl

all_kept : (items : List (List ℕ)) → AllByRecursion IsSequence items → sequences_of items ≡ items
all_kept [] each = refl
all_kept (item ∷ items) each = rw (begins each.0.0 item each.0.1) (ap (λ (rest : List (List ℕ)). item ∷ rest) (all_kept items each.1))

pub choices_written : (most tag : ℕ) (items : List (List ℕ)) (content bytes : List ℕ) → content ≡ concat items →
    Der tag content bytes → AreSequences most items →
    IsChoicesField most tag items bytes
choices_written most tag items content bytes is item are =
    inr (
      concat items,
      record { items = items; are_items = one_by_one items are.each; sequences = sym (all_kept items are.each); few = are.few },
      Der_with is item,
    )

-- ---- the content and its type

pub content_alone : (kind identifier bytes : List ℕ) → Der object_identifier_tag kind identifier → Der sequence_tag identifier bytes → IsContent kind None bytes
content_alone kind identifier bytes is item = record {
  identifier = identifier;
  field = [];
  is_identifier = is;
  is_field = refl;
  is_sequence = Der_with (sym (append-nil identifier)) item;
}

-- ---- attributes

pub attributes_written : (kind content type_value digest_value first second bytes : List ℕ) → Der object_identifier_tag kind type_value →
    IsAttribute (record { type = content_type_oid; values = type_value }) first → Der octet_string_tag (sha256 content) digest_value →
    IsAttribute (record { type = message_digest_oid; values = digest_value }) second → Der set_tag (concat (first ∷ second ∷ [])) bytes →
    AreAttributesOf kind content bytes
attributes_written kind content type_value digest_value first second bytes type is_first digest is_second set = record {
  each = record { type = content_type_oid; values = type_value } ∷ record { type = message_digest_oid; values = digest_value } ∷ [];
  content = concat (first ∷ second ∷ []);
  are_attributes = (first, concat (second ∷ []), is_first, refl, (second, [], is_second, refl, refl));
  one_content_type = (type_value, refl, type);
  one_digest = (digest_value, refl, digest);
  is_set = set;
}

pub one_valued : (type : List ℕ) (tag : ℕ) (content value bytes : List ℕ) → Der tag content value → IsAttribute (record { type = type; values = value }) bytes →
    IsOneValued type tag content bytes
one_valued type tag content value bytes item is = record {
  identifier = is.identifier;
  value = value;
  set = is.set;
  is_identifier = is.is_identifier;
  is_value = item;
  is_set = is.is_set;
  is_sequence = is.is_sequence;
}

-- another tag in place of the first byte
retag : (content whole : List ℕ) → Der set_tag content whole → Der context_constructed content (context_constructed ∷ drop 1 whole)
retag content whole item = record {
  is_tag = (omega arith, λ e. absurd (omega arith));
  size = item.size;
  is_size = item.is_size;
  spelled = ap (λ (x : List ℕ). context_constructed ∷ drop 1 x) item.spelled;
}

retagged : (kind content attributes : List ℕ) → AreAttributesOf kind content attributes →
    HasAttributes context_constructed (record { whole = context_constructed ∷ drop 1 attributes; content_type = kind; digest = sha256 content })
retagged kind content attributes are = record {
  each = are.each;
  content = are.content;
  are_attributes = are.are_attributes;
  one_content_type = are.one_content_type;
  one_digest = are.one_digest;
  is_set = retag are.content attributes are.is_set;
}

-- the first byte of the attributes is the tag that stands in its place
pub tag_again : (kind content attributes : List ℕ) → AreAttributesOf kind content attributes → set_tag ∷ drop 1 attributes ≡ attributes
tag_again kind content attributes are = ap (λ (x : List ℕ). set_tag ∷ drop 1 x) are.is_set.spelled ∙ sym are.is_set.spelled

-- ---- a signer

-- an octet alone
single : (octet : ℕ) → IsInteger (octet ∷ [])
single octet = record { some = omega arith; not_all_clear = λ long. absurd (omega arith); not_all_set = λ long. absurd (omega arith) }

pub signer_says : (issuer serial attributes signature bytes : List ℕ) → IsWrittenSigner issuer serial attributes signature bytes →
    (kind content : List ℕ) → AreAttributesOf kind content attributes → IsSigner (written_signer kind content issuer serial attributes signature) bytes
signer_says issuer serial attributes signature bytes is kind content are =
    record {
      parts = record {
        version = is.version;
        identifier = is.identifier;
        digest_algorithm = is.digest_algorithm;
        attributes = context_constructed ∷ drop 1 attributes;
        signature_algorithm = is.signature_algorithm;
        signature = is.octets;
        unsigned = [];
      };
      is_version = (1 ∷ [], single 1, is.is_version);
      is_identifier = is.is_identifier;
      has_algorithms = record {
        digest = by_sha256;
        signature = by_hss_lms;
        is_digest = is.is_digest_algorithm;
        is_signature = is.is_signature_algorithm;
        told = refl;
      };
      is_attributes = (retagged kind content attributes are, refl);
      is_signature = is.is_signature;
      is_unsigned = inl refl;
      is_sequence = is.is_sequence;
    }

-- ---- signed data

-- one value alone
alone : {A : Type 0} (Is : A → List ℕ → Type 0) (value : A) (whole : List ℕ) → Is value whole → AreEach Is (value ∷ []) whole
alone Is value whole is = (whole, [], is, sym (append-nil whole), refl)

pub message_says : (kind content signer bytes : List ℕ) (certs : List (List ℕ)) (whole : Signer) →
    IsSignedByOne signer (content_of kind content certs) bytes → AreSequences most_certs certs → IsSigner whole signer →
    IsSigned (message_signed kind content certs whole) bytes
message_says kind content signer bytes certs whole by_one are is =
    let signed = by_one.is_signed in
    record {
      parts = record {
        version = signed.version;
        algorithms = signed.algorithms;
        content = signed.content;
        certs = signed.certs;
        crls = signed.crls;
        signers = signed.signer_infos;
      };
      is_version = (signed_version kind ∷ [], single (signed_version kind), signed.is_version);
      are_algorithms = record {
        algorithms = by_sha256 ∷ [];
        content = by_one.digest;
        are_algorithms = alone IsAlgorithm by_sha256 by_one.digest by_one.is_digest;
        is_set = signed.are_algorithms;
      };
      is_content = signed.is_content;
      are_certs = choices_written most_certs context_constructed certs (concat certs) signed.certs refl signed.are_certs are;
      are_crls = inl (signed.are_crls, refl);
      are_signers = record { content = signer; are_signers = alone IsSigner whole signer is; is_set = signed.are_signers; few = omega arith };
      is_sequence = signed.is_sequence;
    }

lists_say : (crls : List (List ℕ)) (bytes : List ℕ) → IsListsField crls bytes → AreSequences most_crls crls →
    IsChoicesField most_crls (context_constructed + 1) crls bytes
lists_say [] bytes is are = inl (is, refl)
lists_say (crl ∷ crls) bytes is are = choices_written most_crls (context_constructed + 1) (crl ∷ crls) (concat (crl ∷ crls)) bytes refl is are

pub certs_say : (certs crls : List (List ℕ)) (bytes : List ℕ) → IsWrittenSigned [] [] (alone_of certs crls) bytes → AreSequences most_certs certs →
    AreSequences most_crls crls → IsSigned (certs_signed certs crls) bytes
certs_say certs crls bytes signed are_certs are_crls = record {
  parts = record {
    version = signed.version;
    algorithms = signed.algorithms;
    content = signed.content;
    certs = signed.certs;
    crls = signed.crls;
    signers = signed.signer_infos;
  };
  is_version = (1 ∷ [], single 1, signed.is_version);
  are_algorithms = record { algorithms = []; content = []; are_algorithms = refl; is_set = signed.are_algorithms };
  is_content = signed.is_content;
  are_certs = choices_written most_certs context_constructed certs (concat certs) signed.certs refl signed.are_certs are_certs;
  are_crls = lists_say crls signed.crls signed.are_crls are_crls;
  are_signers = record { content = []; are_signers = refl; is_set = signed.are_signers; few = omega arith };
  is_sequence = signed.is_sequence;
}

pub signed_info : (signed : Signed) (inner bytes : List ℕ) → IsSigned signed inner → IsContentInfo signed_data_oid inner bytes → InfoOf bytes
    (SignedData signed)
signed_info signed inner bytes is info = record { type = signed_data_oid; inner = inner; is_content_info = info; holds = (refl, is) }
