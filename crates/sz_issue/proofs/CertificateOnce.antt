-- What is written of the values of a certificate is one string.
use Rattle.std.proofs.Common.{◌≡◌, ℕ, ℤ, Bool, true, false, List, ◌++◌, Option, Some, None, refl, sym, subst, ◌∙◌}
use Rattle.sz_der.proofs.Values.{one_content}
use Rattle.sz_issue.specs.Certificate.{AreWrittenExtensions, CertValues, constraints_extension, IsDefaultFalse, IsWrittenConstraints, IsWrittenExtension, IsWrittenKey, IsWrittenTbs, IsWrittenValidity, key_id_extension, usage_extension}
use Rattle.sz_issue.proofs.SharedParts.{both, one_algorithm, one_item, one_name, one_serial, one_time_item}
use Rattle.sz_x509.specs.Certificate.{IsVersion3}
use Rattle.sz_x509.specs.Extensions.{Extension, IsPathLength}

-- ---- parts

one_version : {bytes other : List ℕ} → IsVersion3 bytes → IsVersion3 other → bytes ≡ other
one_version a b = one_item (one_item refl a.is_integer b.is_integer) a.is_explicit b.is_explicit

one_validity : {not_before not_after : ℤ} {bytes other : List ℕ} → IsWrittenValidity not_before not_after bytes →
    IsWrittenValidity not_before not_after other → bytes ≡ other
one_validity a b =
    one_item (both a.first b.first a.last b.last (one_time_item a.is_first b.is_first) (one_time_item a.is_last b.is_last)) a.is_sequence b.is_sequence

one_key : {key bytes other : List ℕ} → IsWrittenKey key bytes → IsWrittenKey key other → bytes ≡ other
one_key a b =
    one_item (both a.algorithm b.algorithm a.bits b.bits (one_algorithm a.is_algorithm b.is_algorithm) (one_item refl a.is_bits b.is_bits)) a.is_sequence
    b.is_sequence

-- ---- extensions

one_flag : (flag : Bool) (bytes other : List ℕ) → IsDefaultFalse flag bytes → IsDefaultFalse flag other → bytes ≡ other
one_flag false bytes other a b = a ∙ sym b
one_flag true bytes other a b = one_item refl a b

one_path : (path_len : Option ℕ) (bytes other : List ℕ) → IsPathLength path_len bytes → IsPathLength path_len other → bytes ≡ other
one_path None bytes other a b = a ∙ sym b
one_path (Some n) bytes other a b = one_item (one_content n a.1.0 b.1.0 a.1.1 b.1.1) a.1.2 b.1.2

one_constraints : {ca : Bool} {path_len : Option ℕ} {bytes other : List ℕ} → IsWrittenConstraints ca path_len bytes →
    IsWrittenConstraints ca path_len other → bytes ≡ other
one_constraints {ca} {path_len} a b =
    one_item (both a.flag b.flag a.path b.path (one_flag ca a.flag b.flag a.is_flag b.is_flag) (one_path path_len a.path b.path a.is_path b.is_path))
    a.is_sequence b.is_sequence

one_extension : {extension : Extension} {bytes other : List ℕ} → IsWrittenExtension extension bytes → IsWrittenExtension extension other → bytes ≡ other
one_extension {extension} a b =
    one_item
    (both a.identifier b.identifier (a.flag ++ a.value) (b.flag ++ b.value) (one_item refl a.is_identifier b.is_identifier)
    (both a.flag b.flag a.value b.value (one_flag extension.critical a.flag b.flag a.is_flag b.is_flag) (one_item refl a.is_value b.is_value)))
    a.is_sequence b.is_sequence

-- an extension of another value that is the same
at_value : (of : List ℕ → Extension) (value next bytes : List ℕ) → value ≡ next → IsWrittenExtension (of value) bytes → IsWrittenExtension (of next) bytes
at_value of value next bytes same is = subst (λ (x : List ℕ). IsWrittenExtension (of x) bytes) same is

one_field : {values : CertValues} {bytes other : List ℕ} → AreWrittenExtensions values bytes → AreWrittenExtensions values other → bytes ≡ other
one_field a b =
    let constraints = one_constraints a.are_values.are_constraints b.are_values.are_constraints in
    let usage : a.usage ≡ b.usage = one_item refl a.are_values.is_usage b.are_values.is_usage in
    let key_id : a.key_id ≡ b.key_id = one_item refl a.are_values.is_key_id b.are_values.is_key_id in
    let first = one_extension (at_value constraints_extension a.constraints b.constraints a.first constraints a.is_first) b.is_first in
    let second = one_extension (at_value usage_extension a.usage b.usage a.second usage a.is_second) b.is_second in
    let third = one_extension (at_value key_id_extension a.key_id b.key_id a.third key_id a.is_third) b.is_third in
    let joined = both a.first b.first (a.second ++ a.third) (b.second ++ b.third) first (both a.second b.second a.third b.third second third) in
    one_item (one_item joined a.is_sequence b.is_sequence) a.is_field b.is_field

-- ---- the whole

pub one_tbs : (values : CertValues) (bytes other : List ℕ) → IsWrittenTbs values bytes → IsWrittenTbs values other → bytes ≡ other
one_tbs values bytes other a b =
    let from_key = both a.key b.key a.extensions b.extensions (one_key a.is_key b.is_key) (one_field a.are_extensions b.are_extensions) in
    let from_subject = both a.subject b.subject _ _ (one_name a.is_subject b.is_subject) from_key in
    let from_validity = both a.validity b.validity _ _ (one_validity a.is_validity b.is_validity) from_subject in
    let from_issuer = both a.issuer b.issuer _ _ (one_name a.is_issuer b.is_issuer) from_validity in
    let from_algorithm = both a.algorithm b.algorithm _ _ (one_algorithm a.is_algorithm b.is_algorithm) from_issuer in
    let from_serial = both a.serial b.serial _ _ (one_serial a.is_serial b.is_serial) from_algorithm in
    one_item (both a.version b.version _ _ (one_version a.is_version b.is_version) from_serial) a.is_sequence b.is_sequence
