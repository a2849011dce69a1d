-- Parts of a certificate that a writer joins, one after another in an item.
use Rattle.std.proofs.Common.{◌≡◌, ℕ, Bool, List, [], ◌∷◌, ◌++◌, length, ap, ◌∙◌}
use Rattle.sz_der.specs.Der.{Der}
use Rattle.sz_der.specs.Items.{AppendsInteger, AppendsItem}
use Rattle.sz_der.specs.Tags.{bit_string_tag, object_identifier_tag, octet_string_tag, sequence_tag}
use Rattle.sz_issue.specs.Certificate.{AreValues, AreWrittenExtensions, CertValues, constraints_extension, IsDefaultFalse, IsWrittenExtension, IsWrittenKey, IsWrittenTbs, IsWrittenValidity, key_id_extension, usage_extension}
use Rattle.sz_issue.specs.Parts.{Appends, Holds, IsCommonName}
use Rattle.sz_issue.proofs.SharedParts.{and_after, Der_of, from_start}
use Rattle.sz_x509.specs.Certificate.{IsHssAlgorithm, IsVersion3, key_length}
use Rattle.sz_x509.specs.Tags.{extensions_tag}

-- ---- parts

pub key_written : {key octets held start first second read old new : List ℕ} → length key ≡ key_length → octets ≡ octet_string_tag ∷ key_length ∷ key →
    held ≡ octets → start ≡ [] → Appends IsHssAlgorithm start first → AppendsItem first second bit_string_tag (0 ∷ held) → read ≡ second →
    AppendsItem old new sequence_tag read → Appends (IsWrittenKey key) old new
key_written {start = start} {first = first} {second = second} size wrapped same empty algorithm bits is out =
    let parts = from_start start second (algorithm.part ++ bits.whole) empty
    (and_after start algorithm.part bits.whole first second algorithm.appended bits.appended) in
    record {
      part = out.whole;
      is_part = record {
        of_length = size;
        algorithm = algorithm.part;
        bits = bits.whole;
        is_algorithm = algorithm.is_part;
        is_bits = Der_of (ap (λ (x : List ℕ). 0 ∷ x) (same ∙ wrapped)) bits.is_item;
        is_sequence = Der_of (is ∙ parts) out.is_item;
      };
      appended = out.appended;
    }

pub extension_written : {identifier value start first second third read old new : List ℕ} {critical : Bool} → start ≡ [] →
    AppendsItem start first object_identifier_tag identifier → Appends (IsDefaultFalse critical) first second →
    AppendsItem second third octet_string_tag value → read ≡ third → AppendsItem old new sequence_tag read →
    Appends (IsWrittenExtension (record { identifier = identifier; critical = critical; value = value })) old new
extension_written {identifier} {value} {start} {first} {second} {third} empty kind flag octets is out =
    let parts = from_start start third (kind.whole ++ (flag.part ++ octets.whole)) empty
    (and_after start kind.whole (flag.part ++ octets.whole) first third kind.appended
    (and_after first flag.part octets.whole second third flag.appended octets.appended)) in
    record {
      part = out.whole;
      is_part = record {
        identifier = kind.whole;
        flag = flag.part;
        value = octets.whole;
        is_identifier = kind.is_item;
        is_flag = flag.is_part;
        is_value = octets.is_item;
        is_sequence = Der_of (is ∙ parts) out.is_item;
      };
      appended = out.appended;
    }

pub extensions_written : {values : CertValues} {constraints usage key_id start first second third held old new : List ℕ} →
    AreValues values constraints usage key_id → start ≡ [] → Appends (IsWrittenExtension (constraints_extension constraints)) start first →
    Appends (IsWrittenExtension (usage_extension usage)) first second → Appends (IsWrittenExtension (key_id_extension key_id)) second third →
    held ≡ third → Appends (Holds extensions_tag sequence_tag held) old new → Appends (AreWrittenExtensions values) old new
extensions_written {values} {constraints} {usage} {key_id} {start} {first} {second} {third} are_values empty a b c is out =
    let parts = from_start start third (a.part ++ (b.part ++ c.part)) empty
    (and_after start a.part (b.part ++ c.part) first third a.appended (and_after first b.part c.part second third b.appended c.appended)) in
    record {
      part = out.part;
      is_part = record {
        constraints = constraints;
        usage = usage;
        key_id = key_id;
        are_values = are_values;
        first = a.part;
        second = b.part;
        third = c.part;
        is_first = a.is_part;
        is_second = b.is_part;
        is_third = c.is_part;
        sequence = out.is_part.held;
        is_sequence = Der_of (is ∙ parts) out.is_part.is_inner;
        is_field = out.is_part.is_outer;
      };
      appended = out.appended;
    }

-- ---- the whole

pub tbs_written : {values : CertValues} {start a b c d e f g new read : List ℕ} → start ≡ [] → Appends IsVersion3 start a →
    AppendsInteger a b values.serial → Appends IsHssAlgorithm b c → Appends (IsCommonName values.issuer) c d →
    Appends (IsWrittenValidity values.not_before values.not_after) d e → Appends (IsCommonName values.subject) e f →
    Appends (IsWrittenKey values.key) f g → Appends (AreWrittenExtensions values) g new → read ≡ new →
    (bytes : List ℕ) → Der sequence_tag read bytes → IsWrittenTbs values bytes
tbs_written {values} {start} {a} {b} {c} {d} {e} {f} {g} {new} empty version serial algorithm issuer validity subject key extensions is bytes out =
    let from_key = and_after f key.part extensions.part g new key.appended extensions.appended in
    let from_subject = and_after e subject.part (key.part ++ extensions.part) f new subject.appended from_key in
    let from_validity = and_after d validity.part (subject.part ++ (key.part ++ extensions.part)) e new validity.appended from_subject in
    let from_issuer = and_after c issuer.part (validity.part ++ (subject.part ++ (key.part ++ extensions.part))) d new issuer.appended from_validity in
    let from_algorithm = and_after b algorithm.part (issuer.part ++ (validity.part ++ (subject.part ++ (key.part ++ extensions.part)))) c new algorithm.appended
    from_issuer in
    let from_serial = and_after a serial.item.whole
    (algorithm.part ++ (issuer.part ++ (validity.part ++ (subject.part ++ (key.part ++ extensions.part))))) b new serial.item.appended from_algorithm in
    let parts = from_start start new
    (version.part ++ (serial.item.whole ++ (algorithm.part ++ (issuer.part ++ (validity.part ++ (subject.part ++ (key.part ++ extensions.part))))))) empty
    (and_after start version.part
    (serial.item.whole ++ (algorithm.part ++ (issuer.part ++ (validity.part ++ (subject.part ++ (key.part ++ extensions.part)))))) a new version.appended
    from_serial) in
    record {
      version = version.part;
      serial = serial.item.whole;
      algorithm = algorithm.part;
      issuer = issuer.part;
      validity = validity.part;
      subject = subject.part;
      key = key.part;
      extensions = extensions.part;
      is_version = version.is_part;
      is_serial = record { content = serial.content; is_integer = serial.is_integer; is_item = serial.item.is_item };
      is_algorithm = algorithm.is_part;
      is_issuer = issuer.is_part;
      is_validity = validity.is_part;
      is_subject = subject.is_part;
      is_key = key.is_part;
      are_extensions = extensions.is_part;
      is_sequence = Der_of (is ∙ parts) out;
    }
