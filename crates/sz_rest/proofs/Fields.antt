-- Fields that are written, as fields of the grammar of heads.
use Rattle.std.proofs.Common.{◌≡◌, ℕ, ◌+◌, Bool, true, false, ◌&&◌, List, [], ◌∷◌, ◌++◌, length, map, nat_lt, refl, sym, ap, ◌∙◌, arith, All, length-append, append_assoc, append-nil, reverse}
use Rattle.std.proofs.lemmas.Bool.Decides.{nat_tests}
use Rattle.std.proofs.lemmas.List.Elements.{All-cons, All-head, All-nil, All-weaker}
use Rattle.std.proofs.lemmas.Grind.{flat_map-append}
use Rattle.std.specs.Fmt.{decimal}
use Rattle.std.specs.List.{flat_map}
use Rattle.httparse.proofs.TrimLemmas.{AllPass-reverse, trim_ows_space}
use Rattle.httparse.specs.Ascii.{crlf_bytes, space}
use Rattle.httparse.specs.Grammar.{AllPass, crlf, Field, is_ows, is_value_byte, IsField, IsToken, print_field, skip_ows}
use Rattle.httparse.specs.Spans.{name_and_value}
use Rattle.sz_http.specs.Framing.{content_length, FieldList}
use Rattle.sz_rest.specs.Message.{field_line, lines_text, message_text}

-- a byte that is seen: no control byte and no blank
abbrev pub is_visible : ℕ → Bool
is_visible byte = nat_lt 32 byte && nat_lt byte 127

-- a name and a value that can be written as they stand
pub record IsPlainField (field : List ℕ × List ℕ) : Type 0 where
  pub name : IsToken field.0
  pub value : AllPass is_visible field.1

abbrev pub ArePlainFields : FieldList → Type 0
ArePlainFields [] = Unit {0}
ArePlainFields (field ∷ fields) = IsPlainField field × ArePlainFields fields

-- the field of the grammar
abbrev pub written_field : List ℕ × List ℕ → Field
written_field field = record { name = field.0; raw = space ∷ field.1; end = crlf }

no_blank : (byte : ℕ) → is_visible byte ≡ true → is_ows byte ≡ false
no_blank byte h = grind (arith, nat_tests)

value_byte : (byte : ℕ) → is_visible byte ≡ true → is_value_byte byte ≡ true
value_byte byte h = grind (arith, nat_tests)

skip_none : (bytes : List ℕ) → AllPass is_visible bytes → skip_ows bytes ≡ bytes
skip_none [] h = refl
skip_none (byte ∷ bytes) h =
    let other : is_ows byte ≡ false = no_blank byte (All-head (λ b. is_visible b ≡ true) byte bytes h) in rw other refl

name_and_value-written : (field : List ℕ × List ℕ) → IsPlainField field → name_and_value (written_field field) ≡ field
name_and_value-written field h =
    ap (λ (value : List ℕ). (field.0, value))
    (trim_ows_space field.1 (skip_none field.1 h.value) (skip_none (reverse field.1) (AllPass-reverse is_visible field.1 h.value)))

-- the names and values are those that were written
pub parts_written : (fields : FieldList) → ArePlainFields fields → map name_and_value (map written_field fields) ≡ fields
parts_written [] h = refl
parts_written (field ∷ fields) h =
    let this = name_and_value-written field h.0 in
    let rest = parts_written fields h.1 in
    ap (λ (one : List ℕ × List ℕ). one ∷ map name_and_value (map written_field fields)) this ∙ ap (λ (more : FieldList). field ∷ more) rest

is_field : (field : List ℕ × List ℕ) → IsPlainField field → IsField (written_field field)
is_field field h = record {
  name = h.name;
  raw = All-cons (λ b. is_value_byte b ≡ true) space field.1 refl
      (All-weaker (λ b. is_visible b ≡ true) (λ b. is_value_byte b ≡ true) value_byte field.1 h.value);
}

pub are_fields : (fields : FieldList) → ArePlainFields fields → All IsField (map written_field fields)
are_fields [] h = All-nil IsField
are_fields (field ∷ fields) h = All-cons IsField (written_field field) (map written_field fields) (is_field field h.0) (are_fields fields h.1)

-- the lines are those of the grammar
pub printed : (fields : FieldList) → flat_map print_field (map written_field fields) ≡ flat_map field_line fields
printed [] = refl
printed (field ∷ fields) = ap (λ (more : List ℕ). field_line field ++ more) (printed fields)

-- how long the lines are
abbrev pub lines_length : FieldList → ℕ
lines_length [] = 0
lines_length (field ∷ fields) = length field.0 + length field.1 + 4 + lines_length fields

line_length : (field : List ℕ × List ℕ) → length (field_line field) ≡ length field.0 + length field.1 + 4
line_length field =
    omega (
      arith,
      length-append (field.0 ++ (58 ∷ 32 ∷ field.1)) crlf_bytes,
      length-append field.0 (58 ∷ 32 ∷ field.1),
    )

pub length-lines : (fields : FieldList) → length (flat_map field_line fields) ≡ lines_length fields
length-lines [] = refl
length-lines (field ∷ fields) =
    omega (arith, length-append (field_line field) (flat_map field_line fields), line_length field, length-lines fields)

-- ---- one more line, and the end

lines_push : (start : List ℕ) (fields : FieldList) (field : List ℕ × List ℕ)
    → lines_text start fields ++ field_line field ≡ lines_text start (fields ++ field ∷ [])
lines_push start fields field =
    append_assoc (start ++ crlf_bytes) (flat_map field_line fields) (field_line field)
    ∙ ap (λ (lines : List ℕ). start ++ crlf_bytes ++ lines)
    (ap (λ (line : List ℕ). flat_map field_line fields ++ line) (sym (append-nil (field_line field)))
    ∙ sym (flat_map-append field_line fields (field ∷ [])))

-- a field that was put last
pub pushed : (start : List ℕ) (fields : FieldList) (name value before after written : List ℕ) → before ≡ lines_text start fields
    → after ≡ before ++ field_line (name, written) → written ≡ value → after ≡ lines_text start (fields ++ (name, value) ∷ [])
pushed start fields name value before after written e push same =
    push ∙ ap (λ (lines : List ℕ). lines ++ field_line (name, written)) e
    ∙ ap (λ (text : List ℕ). lines_text start fields ++ field_line (name, text)) same
    ∙ lines_push start fields (name, value)

-- the last field, the empty line and the body
pub finished : (start : List ℕ) (fields : FieldList) (body lines last head text digits : List ℕ) → lines ≡ lines_text start fields
    → last ≡ lines ++ field_line (content_length, digits) → digits ≡ decimal (length body) → head ≡ last ++ crlf_bytes → text ≡ head ++ body
    → text ≡ message_text start fields body
finished start fields body lines last head text digits e push same empty end =
    end ∙ ap (λ (t : List ℕ). t ++ body)
    (empty ∙ ap (λ (t : List ℕ). t ++ crlf_bytes) (pushed start fields content_length (decimal (length body)) lines last digits e push same))
