-- Decimal texts, in the words of `parse`.
use Rattle.std.proofs.Common.{arith, true, Option, ◌≡◌, ℕ, ◌^◌, ◌<◌, ◌≤◌, List, Result, Ok, Err, length, refl, rules, inl, inr, ap, ◌∙◌, get_or, sym}
use Rattle.std.specs.Prelude.{IsNone, ◌↔◌}
use Rattle.std.specs.Char.{is_ascii_digit}
use Rattle.std.specs.List.{AllPass}
use Rattle.std.specs.Result.{OkIff, result_ok}
use Rattle.std.specs.Str.{IsUtf8}
use Rattle.std.specs.Str.Parse.{ParsesUnsigned, digits_value}
use Rattle.std.specs.Fmt.{decimal}
use Rattle.std.proofs.lemmas.Bool.{cases_lt}
use Rattle.std.proofs.lemmas.Fmt.{IsAscii-from_digits, decimal-digits_value, decimal_nonempty, digits_decimal, digits_value-decimal, first_decimal, length-decimal-le}
use Rattle.std.proofs.lemmas.List.Elements.{All-cons, All-head, All-nil, All-tail}
use Rattle.std.proofs.lemmas.Str.{IsUtf8-from_ascii}
use Rattle.std.proofs.lemmas.Str.Parse.{IsDigitsTest, IsNumeralModel, numerals_by_value, parse_digits}
use Rattle.sz_base.specs.Number.{IsDecimal, IsNumber, IsNumeral}

abbrev pub AreDigits : List ℕ → Type 0
AreDigits text = AllPass is_ascii_digit text

abbrev is_digit : ℕ → Type 0
is_digit c = is_ascii_digit c ≡ true

digit_range : (c : ℕ) → is_digit c → (48 ≤ c) × (c ≤ 57)
digit_range c h = search rules

range_digit : (c : ℕ) → 48 ≤ c → c ≤ 57 → is_digit c
range_digit c low high = search rules

digits_test : IsDigitsTest AreDigits
digits_test = record {
  empty = All-nil is_digit;
  parts = λ c cs h. (digit_range c (All-head is_digit c cs h), All-tail is_digit c cs h);
  more = λ c cs h hs. All-cons is_digit c cs (range_digit c h.0 h.1) hs;
}

-- texts of digits alone, and what they write
pub own : IsNumeralModel AreDigits (digits_value 10)
own = numerals_by_value AreDigits digits_test

-- such a text is UTF-8
pub IsUtf8-numeral : (text : List ℕ) → IsNumeral text → IsUtf8 text
IsUtf8-numeral text h = IsUtf8-from_ascii text (IsAscii-from_digits text (own.to text h.digits))

-- what `parse` found, of a numeral
parsed : {E : Type 0} (text : List ℕ) (r : Result ℕ E)
    → OkIff r ((0 < length text) × (digits_value 10 text < 2 ^ 64)) (digits_value 10 text) → IsNumeral text
    → (IsNone (result_ok r) ↔ ((n : ℕ) → ¬ (IsNumber text n)))
parsed text (Ok x) found form = (
  λ none. cc none,
  λ no. absurd (no (digits_value 10 text) (record { decimal = record { form = form; value = refl }; below = found.0.1 })),
)
parsed text (Err e) refused form = (
  λ _ n h. refused (form.some, let value = h.decimal.value in let below = h.below in rw value at below),
  λ _. refl,
)

-- there is no number in a numeral that `parse` refuses, and one in any other
pub parsed_none : {E : Type 0} (text read : List ℕ) (r : Result ℕ E) (o : Option ℕ) → read ≡ text → o ≡ result_ok r
    → ParsesUnsigned 64 10 read r → IsNumeral text
    → (IsNone o ↔ ((n : ℕ) → ¬ (IsNumber text n)))
parsed_none text read r o same e parses form =
    let read_parses = rw same at parses in
    rw e (parsed text r (parse_digits own 64 text r read_parses form.digits) form)

-- the text of a number
pub IsDecimal-text : (text : List ℕ) (n : ℕ) → IsDecimal text n → n < 2 ^ 64 → decimal n ≡ text
IsDecimal-text text n h below =
    let value = h.value in
    let fits : digits_value 10 text < 2 ^ 64 = rw value at below in
    let one_zero : get_or text 0 0 ≡ 48 → length text ≡ 1 = λ zero. elim (cases_lt 1 (length text)) [
      | inl long ↦ absurd (h.form.no_leading_zero (omega arith) zero)
      | inr short ↦ let some = h.form.some in omega arith
    ] in
    ap decimal value ∙ decimal-digits_value own text h.form.digits h.form.some one_zero fits

-- what is written of a number is its text
pub IsDecimal-decimal : (n : ℕ) → n < 2 ^ 64 → IsDecimal (decimal n) n
IsDecimal-decimal n below = record {
  form = record {
    some = decimal_nonempty n below;
    digits = digits_decimal own n below;
    no_leading_zero = λ long. elim (cases_lt 0 n) [
      | inl some ↦ let first = first_decimal n some below in λ zero. absurd (omega (arith, first, zero))
      | inr none ↦ let short = length-decimal-le 1 n (omega arith) (omega arith) below in absurd (omega (arith, short))
    ];
  };
  value = sym (digits_value-decimal own n below);
}
