-- What is written is a certificate that says the values.
use Rattle.std.proofs.Common.{◌≡◌, ℕ, zero, suc, ℤ, inl, inr, ◌<◌, ◌^◌, Bool, true, false, ◌&&◌, List, [], ◌∷◌, ◌++◌, Option, refl, sym, arith}
use Rattle.std.specs.Prelude.{◌==◌}
use Rattle.std.specs.Int.{bit_at}
use Rattle.std.specs.List.{AllByRecursion}
use Rattle.std.proofs.lemmas.Bool.{and_parts, cases_Bool, eqb-false, eqb-true}
use Rattle.std.proofs.lemmas.List.{append-nil}
use Rattle.sz_der.specs.Content.{bit_of, HasNamedBits, HoldsBits}
use Rattle.sz_issue.specs.Certificate.{AreValues, AreWrittenExtensions, CertValues, constraints_extension, IsDefaultFalse, IsWrittenConstraints, IsWrittenExtension, IsWrittenKey, IsWrittenTbs, IsWrittenValidity, key_id_extension, restrictions_of, Says, signed, usage_extension, usage_octets, usage_of}
use Rattle.sz_issue.specs.Parts.{IsSignedForm}
use Rattle.sz_issue.proofs.SharedParts.{is_time}
use Rattle.sz_x509.specs.Certificate.{Certificate, CertOf, IsKey, IsTbs, IsValidity, key_length}
use Rattle.sz_x509.specs.Extensions.{AreDistinct, Extension, HasExtensions, IsBasicConstraints, IsExtension, IsFlag, IsKeyUsage, IsUnderstood, Restrict}

is_validity : {not_before not_after : ℤ} {bytes : List ℕ} → IsWrittenValidity not_before not_after bytes → IsValidity not_before not_after bytes
is_validity w = record {
  first = w.first;
  last = w.last;
  is_first = is_time w.is_first;
  is_last = is_time w.is_last;
  is_sequence = w.is_sequence;
}

-- ---- the key

is_key : {key bytes : List ℕ} → IsWrittenKey key bytes → IsKey key bytes
is_key {key} w = record {
  algorithm = w.algorithm;
  octets = 4 ∷ key_length ∷ key;
  bits = w.bits;
  is_algorithm = w.is_algorithm;
  holds_key = record { of_length = w.of_length; raw_or_wrapped = inr refl };
  is_bits = w.is_bits;
  is_sequence = w.is_sequence;
}

-- ---- named bits

-- a test that holds of every number below n
abbrev all_below : (ℕ → Bool) → ℕ → Bool
all_below test zero = true
all_below test (suc n) = test n && all_below test n

holds_below : (test : ℕ → Bool) (n : ℕ) → all_below test n ≡ true → (k : ℕ) → k < n → test k ≡ true
holds_below test zero all k below = absurd (omega arith)
holds_below test (suc n) all k below =
    let parts = and_parts (test n) (all_below test n) all in
    elim (cases_Bool (k == n)) [
      | inl is ↦ let same = eqb-true k n is in rw same parts.0
      | inr other ↦ let apart = eqb-false k n other in holds_below test n parts.1 k (omega arith)
    ]

named_bits : (octets : List ℕ) (number : ℕ) → all_below (λ k. bit_at number k == bit_of octets k) 16 ≡ true → HasNamedBits octets number
named_bits octets number all k below = eqb-true (bit_at number k) (bit_of octets k) (holds_below (λ k. bit_at number k == bit_of octets k) 16 all k below)

holds_usage : (ca : Bool) → HoldsBits (usage_octets ca) (usage_of ca)
holds_usage true =
    (1, 134 ∷ [], refl, record { at_most_seven = omega arith; none_of_none = λ none. absurd cc; clear = refl }, named_bits (134 ∷ []) 97 refl)
holds_usage false =
    (7, 128 ∷ [], refl, record { at_most_seven = omega arith; none_of_none = λ none. absurd cc; clear = refl }, named_bits (128 ∷ []) 1 refl)

usage_below : (ca : Bool) → usage_of ca < 2 ^ 16
usage_below true = omega arith
usage_below false = omega arith

is_usage : {values : CertValues} {constraints usage key_id : List ℕ} → AreValues values constraints usage key_id → IsKeyUsage (usage_of values.ca) usage
is_usage {values} w = record {
  content = usage_octets values.ca;
  of_16_bits = usage_below values.ca;
  holds_bits = holds_usage values.ca;
  is_item = w.is_usage;
}

-- ---- extensions

is_flag : (flag : Bool) (bytes : List ℕ) → IsDefaultFalse flag bytes → IsFlag flag bytes
is_flag false bytes none = inl (none, refl)
is_flag true bytes item = inr (255 ∷ [], refl, item)

is_extension : {extension : Extension} {bytes : List ℕ} → IsWrittenExtension extension bytes → IsExtension extension bytes
is_extension {extension} w = record {
  identifier = w.identifier;
  flag = w.flag;
  value = w.value;
  is_identifier = w.is_identifier;
  is_flag = is_flag extension.critical w.flag w.is_flag;
  is_value = w.is_value;
  is_sequence = w.is_sequence;
}

is_constraints : {ca : Bool} {path_len : Option ℕ} {bytes : List ℕ} → IsWrittenConstraints ca path_len bytes → IsBasicConstraints ca path_len bytes
is_constraints {ca} w = record {
  flag = w.flag;
  path = w.path;
  is_flag = is_flag ca w.flag w.is_flag;
  is_path = w.is_path;
  is_sequence = w.is_sequence;
}

abbrev three : List ℕ → List ℕ → List ℕ → List Extension
three constraints usage key_id = constraints_extension constraints ∷ usage_extension usage ∷ key_id_extension key_id ∷ []

are_distinct : (constraints usage key_id : List ℕ) → AreDistinct (three constraints usage key_id)
are_distinct constraints usage key_id = (((λ same. cc), ((λ same. cc), tt)), (((λ same. cc), tt), (tt, tt)))

are_understood : (constraints usage key_id : List ℕ) → AllByRecursion IsUnderstood (three constraints usage key_id)
are_understood constraints usage key_id = ((λ critical. refl), ((λ critical. refl), ((λ critical. refl), tt)))

restrict : (values : CertValues) (constraints usage key_id : List ℕ) → AreValues values constraints usage key_id →
    Restrict (three constraints usage key_id) (restrictions_of values)
restrict values constraints usage key_id are = record {
  few = omega arith;
  distinct = are_distinct constraints usage key_id;
  understood = are_understood constraints usage key_id;
  basic_constraints = is_constraints are.are_constraints;
  key_usage = (usage_of values.ca, refl, is_usage are);
  key_identifier = (_, refl, are.is_key_id);
}

has_extensions : (values : CertValues) (bytes : List ℕ) → AreWrittenExtensions values bytes → HasExtensions (restrictions_of values) bytes
has_extensions values bytes w = record {
  extensions = three w.constraints w.usage w.key_id;
  in_field = inr (
    w.first ++ (w.second ++ w.third),
    w.sequence,
    (
      w.first,
      w.second ++ w.third,
      is_extension w.is_first,
      refl,
      (w.second, w.third, is_extension w.is_second, refl, (w.third, [], is_extension w.is_third, sym (append-nil w.third), refl)),
    ),
    w.is_sequence,
    w.is_field,
  );
  restrict = restrict values w.constraints w.usage w.key_id w.are_values;
}

-- ---- the whole

abbrev fields_of : (values : CertValues) (bytes : List ℕ) → IsWrittenTbs values bytes → Certificate
fields_of values bytes w = record {
  whole = [];
  tbs = [];
  serial = w.is_serial.content;
  issuer = w.issuer;
  not_before = values.not_before;
  not_after = values.not_after;
  subject = w.subject;
  key = values.key;
  restrictions = restrictions_of values;
  signature = [];
}

is_tbs : (values : CertValues) (bytes : List ℕ) (w : IsWrittenTbs values bytes) → IsTbs (fields_of values bytes w) bytes
is_tbs values bytes w = record {
  parts = record {
    version = w.version;
    serial = w.serial;
    algorithm = w.algorithm;
    validity = w.validity;
    key = w.key;
    issuer_id = [];
    subject_id = [];
    extensions = w.extensions;
  };
  is_version = w.is_version;
  is_serial = record { minimal = w.is_serial.is_integer.minimal; is_item = w.is_serial.is_item };
  is_algorithm = w.is_algorithm;
  is_issuer = (w.is_issuer.names, w.is_issuer.is_sequence);
  is_validity = is_validity w.is_validity;
  is_subject = (w.is_subject.names, w.is_subject.is_sequence);
  is_key = is_key w.is_key;
  is_issuer_id = inl refl;
  is_subject_id = inl refl;
  are_extensions = has_extensions values w.extensions w.are_extensions;
  is_sequence = w.is_sequence;
}

pub says : (values : CertValues) (bytes : List ℕ) → IsWrittenTbs values bytes → (fields : Certificate) × Says values fields × IsTbs fields bytes
says values bytes w = (
  fields_of values bytes w,
  record {
    serial = w.is_serial.is_integer;
    issuer = w.is_issuer;
    not_before = refl;
    not_after = refl;
    subject = w.is_subject;
    key = refl;
    restrictions = refl;
  },
  is_tbs values bytes w,
)

pub is_certificate : (fields : Certificate) (tbs signature whole : List ℕ) → IsTbs fields tbs → IsSignedForm tbs signature whole →
    CertOf whole (signed fields tbs signature whole)
unfolding signed
is_certificate fields tbs signature whole is w = record {
  algorithm = w.algorithm;
  bits = w.bits;
  whole = refl;
  is_tbs = record {
    parts = is.parts;
    is_version = is.is_version;
    is_serial = is.is_serial;
    is_algorithm = is.is_algorithm;
    is_issuer = is.is_issuer;
    is_validity = is.is_validity;
    is_subject = is.is_subject;
    is_key = is.is_key;
    is_issuer_id = is.is_issuer_id;
    is_subject_id = is.is_subject_id;
    are_extensions = is.are_extensions;
    is_sequence = is.is_sequence;
  };
  is_algorithm = w.is_algorithm;
  is_signature = w.is_signature;
  is_sequence = w.is_sequence;
}
