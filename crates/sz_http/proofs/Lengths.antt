-- The one length that fields declare.
use Rattle.std.proofs.Common.{◌≡◌, ℕ, ◌<◌, List, [], ◌∷◌, ◌++◌, length, take, drop, ap, subst, arith, length-append, Option, Result, Ok, Err, All, IfNone, ◌^◌}
use Rattle.std.specs.Char.{is_ascii_digit}
use Rattle.std.specs.List.{AllPass}
use Rattle.std.specs.Result.{OkIff, result_ok}
use Rattle.std.specs.Str.Parse.{ParsesUnsigned, digits_value}
use Rattle.std.proofs.lemmas.Str.Parse.{parse_digits}
use Rattle.sz_base.proofs.Numerals.{own}
use Rattle.std.proofs.lemmas.List.Elements.{All-cons, All-head, All-nil, All-tail}
use Rattle.sz_http.specs.Framing.{FieldList, values, content_length, IsLength, EachLengthIs, Contradict}
use Rattle.sz_http.proofs.Values.{values_split}

-- a front of the values has what all of them have
front_all : (P : List ℕ → Type 0) (front back : List (List ℕ)) → All P (front ++ back) → All P front
front_all P [] back all = All-nil P
front_all P (text ∷ front) back all =
    All-cons P text front (All-head P text (front ++ back) all) (front_all P front back (All-tail P text (front ++ back) all))

-- what a front of the fields contradicts, all of them do
pub contradict_all : (fields : FieldList) (i : ℕ) → Contradict (values content_length (take i fields)) → Contradict (values content_length fields)
contradict_all fields i clash = (
  omega (
    arith,
    ap length (values_split content_length fields i),
    length-append (values content_length (take i fields)) (values content_length (drop i fields)),
    clash.0,
  ),
  λ n each. clash.1 n (front_all (λ t. IsLength t n) (values content_length (take i fields)) (values content_length (drop i fields))
      (subst (λ (t : List (List ℕ)). EachLengthIs t n) (values_split content_length fields i) each)),
)

-- ---- the length of a text

refused : {E : Type 0} (text : List ℕ) (r : Result ℕ E) → OkIff r ((0 < length text) × (digits_value 10 text < 2 ^ 64)) (digits_value 10 text)
    → IfNone (result_ok r) ((n : ℕ) → IsLength text n → ⊥)
refused text (Ok n) found = tt
refused text (Err e) none = λ n is. none (is.some, subst (λ (m : ℕ). m < 2 ^ 64) is.value is.below)

-- digits that `parse` refuses write no length
pub no_length : {E : Type 0} (text read : List ℕ) (r : Result ℕ E) (o : Option ℕ) → read ≡ text → o ≡ result_ok r
    → ParsesUnsigned 64 10 read r → AllPass is_ascii_digit text → IfNone o ((n : ℕ) → IsLength text n → ⊥)
no_length text read r o same e parses digits =
    let read_parses = rw same at parses in
    rw e (refused text r (parse_digits own 64 text r read_parses digits))
