-- What is written of texts, flags and objects has few marks: none in strings, and two at most for each member.
use Rattle.std.proofs.Common.{◌≡◌, ℕ, ◌+◌, ◌/◌, ◌%◌, ◌<◌, ◌≤◌, ◌==◌, Bool, true, false, cond, nat_lt, List, [], ◌∷◌, ◌++◌, refl, sym, ap, subst, ◌∙◌, inl, inr, arith, append_assoc, Result, Ok, Err, IfOk}
use Rattle.std.proofs.lemmas.Bool.{cases_Bool, true≢false}
use Rattle.std.proofs.lemmas.List.{append-nil}
use Rattle.std.proofs.lemmas.Bool.Decides.{nat_tests}
use Rattle.std.specs.Char.{digit_char}
use Rattle.json.specs.Print.{escape, escape_byte, escape_letter, quoted}
use Rattle.serde_json.specs.Data.{Data, Members, array, boolean, depth, item, member, no_items, no_members, null, object, string}
use Rattle.serde_json.specs.Read.{max_depth}
use Rattle.serde_json.specs.Written.{has_float, comma_if, compact_text, members_text}
use Rattle.sz_json.proofs.Objects.{IsPlain}
use Rattle.sz_json.proofs.Marks.{marks_from, marks_in-from}
use Rattle.std.specs.List.{list_any}
use Rattle.sz_json.specs.Bounded.{behind, IsBounded, IsBoundedJson, is_mark, left_of}
use Rattle.sz_json.specs.Json.{IsJson}
use Rattle.sz_json.specs.declared.bounded.Place.{Place}
use Rattle.sz_json.specs.declared.bounded.Place.TheVariants.{Outside, Inside}

-- ---- strings

same_byte : (x byte : ℕ) → (x == byte) ≡ true → x ≡ byte
same_byte x byte h = grind (arith, nat_tests)

other_byte : (x byte : ℕ) → nat_lt 0 (escape_letter byte) ≡ true → nat_lt 0 (escape_letter x) ≡ false → (x == byte) ≡ false
other_byte x byte escaped h = elim (cases_Bool (x == byte)) [
  | inl t ↦
      let found : nat_lt 0 (escape_letter byte) ≡ false = subst (λ (y : ℕ). nat_lt 0 (escape_letter y) ≡ false) (same_byte x byte t) h in
      absurd (true≢false (sym escaped ∙ found))
  | inr f ↦ f
]

digit_other : (digit byte : ℕ) → digit < 16 → (byte ≡ 34) → (digit_char digit == byte) ≡ false
digit_other digit byte small is = grind (arith, nat_tests)

digit_plain : (digit byte : ℕ) → digit < 16 → (byte ≡ 92) → (digit_char digit == byte) ≡ false
digit_plain digit byte small is = grind (arith, nat_tests)

-- a byte that is neither a quote nor a backslash leaves the string open
stays : (byte : ℕ) (rest : List ℕ) → (byte == 34) ≡ false → (byte == 92) ≡ false → marks_from Inside (byte ∷ rest) ≡ marks_from Inside rest
stays byte rest quote backslash = rw (quote, backslash) (omega arith)

control_left : (x : ℕ) (rest : List ℕ) → x < 32 → marks_from Inside (digit_char (x / 16) ∷ digit_char (x % 16) ∷ rest) ≡ marks_from Inside rest
control_left x rest small =
    let high : x / 16 < 16 = omega arith in
    let low : x % 16 < 16 = omega arith in
    stays (digit_char (x / 16)) (digit_char (x % 16) ∷ rest) (digit_other (x / 16) 34 high refl) (digit_plain (x / 16) 92 high refl)
    ∙ stays (digit_char (x % 16)) rest (digit_other (x % 16) 34 low refl) (digit_plain (x % 16) 92 low refl)

below : (x : ℕ) → nat_lt x 32 ≡ true → x < 32
below x h = grind (arith, nat_tests)

byte_left : (x : ℕ) (rest : List ℕ) → marks_from Inside (escape_byte x ++ rest) ≡ marks_from Inside rest
unfolding escape_byte
byte_left x rest = elim (cases_Bool (nat_lt 0 (escape_letter x))) [
  | inl short ↦ rw short (omega arith)
  | inr long ↦ elim (cases_Bool (nat_lt x 32)) [
    | inl control ↦ rw (long, control) (omega (arith, control_left x rest (below x control)))
    | inr plain ↦ rw (long, plain) (stays x rest (other_byte x 34 refl long) (other_byte x 92 refl long))
  ]
]

string_left : (text rest : List ℕ) → marks_from Inside (escape text ++ rest) ≡ marks_from Inside rest
string_left [] rest = refl
string_left (x ∷ text) rest = rw append_assoc (byte_left x (escape text ++ rest) ∙ string_left text rest)

-- ---- texts that leave the place as it is

-- the text has at most so many marks before whatever follows
abbrev pub AddsAtMost : ℕ → List ℕ → Type 0
AddsAtMost most text = (rest : List ℕ) → marks_from Outside (text ++ rest) ≤ most + marks_from Outside rest

adds_quoted : (text : List ℕ) → AddsAtMost 0 (quoted text)
adds_quoted text rest =
    let apart = ap (marks_from Inside) (append_assoc (escape text) (34 ∷ []) rest) in
    omega (arith, apart, string_left text (34 ∷ rest))

adds_append : (m n : ℕ) (a b : List ℕ) → AddsAtMost m a → AddsAtMost n b → AddsAtMost (m + n) (a ++ b)
adds_append m n a b first then rest = rw append_assoc (omega (arith, first (b ++ rest), then rest))

at_most_one : (b : Bool) → cond b 1 0 ≤ 1
at_most_one true = omega arith
at_most_one false = omega arith

adds_byte : (byte n : ℕ) (text : List ℕ) → behind Outside byte ≡ Outside → AddsAtMost n text → AddsAtMost (1 + n) (byte ∷ text)
adds_byte byte n text same h rest =
    let after : marks_from (behind Outside byte) (text ++ rest) ≡ marks_from Outside (text ++ rest) =
    ap (λ (place : Place). marks_from place (text ++ rest)) same in
    omega (arith, after, at_most_one (list_any is_mark (left_of Outside byte)), h rest)

adds_comma : (later : Bool) → AddsAtMost 1 (comma_if later)
adds_comma true rest = omega arith
adds_comma false rest = omega arith

-- ---- values

-- the text of the value adds at most so many
pub record IsLight (most : ℕ) (value : Data) : Type 0 where
  pub adds : AddsAtMost most (compact_text value)

-- and that of the members, with the bracket behind them
pub record AreLight (most : ℕ) (members : Members) : Type 0 where
  pub add : (later : Bool) → AddsAtMost most (members_text later members)

pub light_text : (text : List ℕ) → IsLight 0 (string text)
light_text text = record { adds = adds_quoted text }

pub light_flag : (flag : Bool) → IsLight 0 (boolean flag)
light_flag true = record { adds = λ rest. omega arith }
light_flag false = record { adds = λ rest. omega arith }

-- a leaf of type empty: a list of nothing
pub light_empty : IsLight 1 (array (item null no_items))
light_empty = record { adds = λ rest. omega arith }

pub light_no_members : (most : ℕ) → AreLight most no_members
light_no_members most = record { add = λ later rest. omega arith }

pub light_member : (m n : ℕ) (name : List ℕ) (value : Data) (members : Members) → IsLight m value → AreLight n members
    → AreLight (2 + (m + n)) (member name value members)
light_member m n name value members one all = record {
  add = λ later rest.
      let tail = compact_text value ++ members_text true members in
      let inner = adds_append m n (compact_text value) (members_text true members) one.adds (all.add true) in
      let after = adds_append 0 (1 + (m + n)) (quoted name) (58 ∷ tail) (adds_quoted name) (adds_byte 58 (m + n) tail refl inner) in
      omega (arith, adds_append 1 (0 + (1 + (m + n))) (comma_if later) (quoted name ++ (58 ∷ tail)) (adds_comma later) after rest);
}

pub light_object : (n : ℕ) (members : Members) → AreLight n members → IsLight (1 + n) (object members)
light_object n members all = record { adds = adds_byte 123 n (members_text false members) refl (all.add false) }

-- a light value is bounded JSON, once it is written
pub bounded_text : (most : ℕ) (value : Data) → IsLight most value → most ≤ 16384 → IsBounded (compact_text value)
bounded_text most value light few =
    let whole = rw append-nil at (light.adds []) in
    omega (arith, marks_in-from (compact_text value), whole)

-- so what is written of a plain and light value is read as what a source or a client gives
pub reads_bounded : {E : Type 0} (written : Result (List ℕ) E) (value : Data) (levels most : ℕ) → IsPlain levels value → levels ≤ 127 → IsLight most value
    → most ≤ 16384 → IfOk written (λ bytes. has_float value ≡ false → bytes ≡ compact_text value)
    → IfOk written (λ bytes. depth value ≤ max_depth → IsJson bytes value) → IfOk written (λ bytes. IsBoundedJson bytes value)
reads_bounded (Err fault) value levels most plain shallow light few compact json = tt
reads_bounded (Ok bytes) value levels most plain shallow light few compact json = record {
  bounded = subst (λ (text : List ℕ). IsBounded text) (sym (compact plain.no_float)) (bounded_text most value light few);
  json = json (omega (arith, plain.shallow));
}
