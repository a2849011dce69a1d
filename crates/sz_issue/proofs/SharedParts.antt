-- The parts that certificates and lists share: what a writer joins, what the parts say, and that each is one string.
use Rattle.std.proofs.Common.{◌≡◌, ℕ, ℤ, pos, inl, inr, ◌≤ℤ◌, List, [], ◌++◌, refl, ap, subst, ◌∙◌, append_assoc, arith}
use Rattle.std.proofs.lemmas.Bool.{cases_Bool}
use Rattle.std.proofs.lemmas.Int.{ints}
use Rattle.sz_calendar.proofs.Seconds.{one_time}
use Rattle.sz_calendar.specs.CivilTime.{CivilTime, IsReal}
use Rattle.sz_der.proofs.Apart.{one_string}
use Rattle.sz_der.proofs.Values.{one_content}
use Rattle.sz_der.specs.Der.{Der}
use Rattle.sz_der.specs.Items.{AppendsItem}
use Rattle.sz_der.specs.Time.{NamesTime}
use Rattle.sz_der.specs.Tags.{object_identifier_tag, sequence_tag, set_tag, utf8_string_tag}
use Rattle.sz_issue.specs.Parts.{Appends, Holds, is_utc, IsCommonName, IsSignedForm, IsWrittenSerial, IsWrittenTime, time_tag, time_text}
use Rattle.sz_issue.specs.Parts.{common_name_oid}
use Rattle.sz_x509.specs.Certificate.{IsHssAlgorithm, IsTime}

-- ---- what a writer joins

-- what is written after a part, joined to it
pub and_after : (old part rest between new : List ℕ) → between ≡ old ++ part → new ≡ between ++ rest → new ≡ old ++ (part ++ rest)
and_after old part rest between new first later = later ∙ ap (λ (x : List ℕ). x ++ rest) first ∙ append_assoc old part rest

-- what is written first
pub from_start : (old new parts : List ℕ) → old ≡ [] → new ≡ old ++ parts → new ≡ parts
from_start old new parts none first = first ∙ ap (λ (x : List ℕ). x ++ parts) none

pub Der_of : {tag : ℕ} {content other whole : List ℕ} → content ≡ other → Der tag content whole → Der tag other whole
Der_of {tag} {content} {other} {whole} same item = subst (λ (x : List ℕ). Der tag x whole) same item

pub name_written : {text start first second held inside names old new : List ℕ} → start ≡ [] → AppendsItem start first object_identifier_tag common_name_oid →
    AppendsItem first second utf8_string_tag text → held ≡ second → inside ≡ [] → Appends (Holds set_tag sequence_tag held) inside names →
    (read : List ℕ) → read ≡ names → AppendsItem old new sequence_tag read → Appends (IsCommonName text) old new
name_written {text} {start} {first} {second} {held} {inside} {names} {old} {new} empty kind value same none holder read is out =
    let attribute = from_start start second (kind.whole ++ value.whole) empty
    (and_after start kind.whole value.whole first second kind.appended value.appended) in
    record {
      part = out.whole;
      is_part = record {
        kind = kind.whole;
        value = value.whole;
        attribute = holder.is_part.held;
        names = holder.part;
        is_kind = kind.is_item;
        is_value = value.is_item;
        is_attribute = Der_of (same ∙ attribute) holder.is_part.is_inner;
        is_set = holder.is_part.is_outer;
        is_sequence = Der_of (is ∙ from_start inside names holder.part none holder.appended) out.is_item;
      };
      appended = out.appended;
    }

-- ---- what a time says

names_time : (time : CivilTime) → IsReal time → pos 1950 ≤ℤ time.year → NamesTime (time_tag time) (time_text time) time
names_time time real from =
    elim (cases_Bool (is_utc time)) [
      | inl utc ↦ rw utc (inl (refl, record { real = real; from_1950 = from; to_2049 = omega (arith, ints); text = refl }))
      | inr later ↦ rw later (inr (refl, record { real = real; from_0 = omega (arith, ints); text = refl }))
    ]

pub is_time : {seconds : ℤ} {bytes : List ℕ} → IsWrittenTime seconds bytes → IsTime seconds bytes
is_time w = record {
  tag = time_tag w.time;
  text = time_text w.time;
  time = w.time;
  is_item = w.is_item;
  names_time = names_time w.time w.is_from_1950.is_at.real w.is_from_1950.from_1950;
  is_at = w.is_from_1950.is_at;
}

-- ---- each is one string

-- two items of equal contents
pub one_item : {tag : ℕ} {content other whole next : List ℕ} → content ≡ other → Der tag content whole → Der tag other next → whole ≡ next
one_item {tag} {content} {other} {whole} {next} same a b = one_string tag other whole next (Der_of same a) b

-- two joined parts
pub both : (a b c d : List ℕ) → a ≡ b → c ≡ d → a ++ c ≡ b ++ d
both a b c d front back = ap (λ (x : List ℕ). x ++ c) front ∙ ap (λ (x : List ℕ). b ++ x) back

pub one_algorithm : {bytes other : List ℕ} → IsHssAlgorithm bytes → IsHssAlgorithm other → bytes ≡ other
one_algorithm a b = one_item (one_item refl a.is_identifier b.is_identifier) a.is_sequence b.is_sequence

pub one_serial : {serial : ℕ} {bytes other : List ℕ} → IsWrittenSerial serial bytes → IsWrittenSerial serial other → bytes ≡ other
one_serial {serial} a b = one_item (one_content serial a.content b.content a.is_integer b.is_integer) a.is_item b.is_item

pub one_name : {text bytes other : List ℕ} → IsCommonName text bytes → IsCommonName text other → bytes ≡ other
one_name a b =
    let attribute = both a.kind b.kind a.value b.value (one_item refl a.is_kind b.is_kind) (one_item refl a.is_value b.is_value) in
    one_item (one_item (one_item attribute a.is_attribute b.is_attribute) a.is_set b.is_set) a.is_sequence b.is_sequence

pub one_time_item : {seconds : ℤ} {bytes other : List ℕ} → IsWrittenTime seconds bytes → IsWrittenTime seconds other → bytes ≡ other
one_time_item {seconds} {bytes} {other} a b =
    let same = one_time seconds a.time b.time a.is_from_1950.is_at b.is_from_1950.is_at in
    one_item refl (subst (λ (time : CivilTime). Der (time_tag time) (time_text time) bytes) same a.is_item) b.is_item

pub one_signed : (tbs signature bytes other : List ℕ) → IsSignedForm tbs signature bytes → IsSignedForm tbs signature other → bytes ≡ other
one_signed tbs signature bytes other a b =
    let end = both a.algorithm b.algorithm a.bits b.bits (one_algorithm a.is_algorithm b.is_algorithm) (one_item refl a.is_signature b.is_signature) in
    one_item (both tbs tbs _ _ refl end) a.is_sequence b.is_sequence
