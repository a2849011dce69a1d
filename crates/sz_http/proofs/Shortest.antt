-- The fewest bytes that each form can have.
use Rattle.std.proofs.Common.{◌≡◌, ℕ, zero, suc, ◌+◌, ◌-◌, ◌≤◌, Bool, true, false, List, [], ◌∷◌, ◌++◌, length, drop, refl, ap, arith, length-append, length-drop, inl, inr}
use Rattle.std.proofs.lemmas.List.Elements.{All-nil, All-cons}
use Rattle.std.proofs.lemmas.Str.{IsUtf8-from_ascii}
use Rattle.std.proofs.lemmas.Str.Ascii.{IsAscii-cons, IsAscii-nil}
use Rattle.std.specs.List.{flat_map}
use Rattle.std.specs.Char.{is_ascii_digit}
use Rattle.httparse.specs.Grammar.{is_token_byte, is_uri_byte, is_value_byte, LineEnd, crlf, lf, print_end, print_blank, IsField, print_field, print_section}
use Rattle.httparse.proofs.OpenLemmas.{letter_is_token}
use Rattle.sz_http.specs.declared.kind.Kind.{Kind}
use Rattle.sz_http.specs.declared.kind.Kind.TheVariants.{Request, Reply, Trailer}
use Rattle.sz_http.specs.declared.head_place.Place.{Place}
use Rattle.sz_http.specs.declared.head_place.Place.TheVariants.{EmptyLines, EmptyLineEnd, Method, Target, Version, RequestLineEnd, StatusSpace, Code, Value, LineFeed, Line, Name, LastLineFeed, Whole, Nowhere}
use Rattle.sz_http.specs.Head.{most_fields}
use Rattle.sz_http.specs.Left.{Form, Nothing, Due, One, Run, Ends, ValueLeft, Blank, TargetLeft, Lines, ReasonLeft, DigitsLeft, AfterVersion, MinorLeft, MethodLeft, StartLine, is_minor, version_name}
use Rattle.sz_http.specs.HeadPlace.{Left, least_left, least_after_version, is_open}

-- ---- no text of a form is shorter

abbrev pub Needs : ℕ → Form → Type 0
Needs n K = (text rest : List ℕ) → K text rest → n + length rest ≤ length text

needs_due : (n : ℕ) (bytes : List ℕ) (K : Form) → Needs n K → Needs (length bytes + n) (Due bytes K)
needs_due n bytes K needs text rest x =
    omega (arith, ap length x.is, length-append bytes x.after, needs x.after rest x.left)

needs_one : (n : ℕ) (test : ℕ → Bool) (K : Form) → Needs n K → Needs (1 + n) (One test K)
needs_one n test K needs text rest x = omega (arith, ap length x.is, needs x.after rest x.left)

needs_run : (n : ℕ) (test : ℕ → Bool) (stop : ℕ) (K : Form) → Needs n K → Needs (1 + n) (Run test stop K)
needs_run n test stop K needs text rest x =
    omega (arith, ap length x.is, length-append x.run (stop ∷ x.after), needs x.after rest x.left)

needs_end : (end : LineEnd) → 1 ≤ length (print_end end)
needs_end crlf = omega arith
needs_end lf = omega arith

needs_ends : (n : ℕ) (K : Form) → Needs n K → Needs (1 + n) (Ends K)
needs_ends n K needs text rest x =
    omega (arith, ap length x.is, length-append (print_end x.end) x.after, needs_end x.end, needs x.after rest x.left)

needs_value : (n : ℕ) (K : Form) → Needs n K → Needs (1 + n) (ValueLeft K)
needs_value n K needs text rest x =
    omega (arith, ap length x.is, length-append x.run x.after, needs_ends n K needs x.after rest x.left)

needs_blank : (n : ℕ) (K : Form) → Needs n K → Needs n (Blank K)
needs_blank n K needs text rest x =
    omega (arith, ap length x.is, length-append (print_blank x.ends) x.after, needs x.after rest x.left)

needs_target : (n : ℕ) (before : List ℕ) (K : Form) → Needs n K → Needs (1 + n) (TargetLeft before K)
needs_target n before K needs text rest x =
    omega (arith, ap length x.is, length-append x.run (32 ∷ x.after), needs x.after rest x.left)

needs_whole_target : (n : ℕ) (K : Form) → Needs n K → Needs (2 + n) (TargetLeft [] K)
needs_whole_target n K needs text rest x =
    omega (arith, ap length x.is, length-append x.run (32 ∷ x.after), x.some, needs x.after rest x.left)

needs_lines : (room : ℕ) → Needs 1 (Lines room)
needs_lines room text rest x =
    omega (
      arith,
      ap length x.reads.1,
      length-append (print_section x.fields x.last) rest,
      length-append (flat_map print_field x.fields) (print_end x.last),
      needs_end x.last,
    )

needs_reason : Needs 2 ReasonLeft
needs_reason text rest (inl x) = needs_ends 1 (Lines most_fields) (needs_lines most_fields) text rest x
needs_reason text rest (inr x) =
    let n = needs_due 2 (32 ∷ []) (ValueLeft (Lines most_fields)) (needs_value 1 (Lines most_fields) (needs_lines most_fields)) text rest x in
    omega arith

needs_digits : (count : ℕ) → Needs (count + 2) (DigitsLeft count)
needs_digits zero text rest x = omega (arith, needs_reason text rest x)
needs_digits (suc count) text rest x =
    omega (arith, needs_one (count + 2) is_ascii_digit (DigitsLeft count) (needs_digits count) text rest x)

needs_after_version : (kind : Kind) → Needs (least_after_version kind) (AfterVersion kind)
needs_after_version Request = needs_ends 1 (Lines most_fields) (needs_lines most_fields)
needs_after_version Trailer = needs_ends 1 (Lines most_fields) (needs_lines most_fields)
needs_after_version Reply = needs_due 5 (32 ∷ []) (DigitsLeft 3) (needs_digits 3)

needs_minor : (kind : Kind) → Needs (1 + least_after_version kind) (MinorLeft kind)
needs_minor kind = needs_one (least_after_version kind) is_minor (AfterVersion kind) (needs_after_version kind)

needs_version : (kind : Kind) (count : ℕ) → Needs ((7 - count) + (1 + least_after_version kind)) (Due (drop count version_name) (MinorLeft kind))
needs_version kind count text rest x =
    let n = needs_due (1 + least_after_version kind) (drop count version_name) (MinorLeft kind) (needs_minor kind) text rest x in
    omega (arith, length-drop count version_name)

needs_method : (kind : Kind) → Needs (11 + least_after_version kind) (MethodLeft kind)
needs_method kind text rest x =
    let K = Due version_name (MinorLeft kind) in
    let n = needs_run (2 + ((7 - 0) + (1 + least_after_version kind))) is_token_byte 32 (TargetLeft [] (Due version_name (MinorLeft kind)))
    (needs_whole_target ((7 - 0) + (1 + least_after_version kind)) (Due version_name (MinorLeft kind)) (needs_version kind 0)) text rest x in
    omega arith

needs_start : (kind : Kind) → Needs 14 (StartLine kind)
needs_start Request = needs_one 13 is_token_byte (MethodLeft Request) (needs_method Request)
needs_start Trailer = needs_one 13 is_token_byte (MethodLeft Trailer) (needs_method Trailer)
needs_start Reply = needs_version Reply 0

pub needs_left : (kind : Kind) (bytes : List ℕ) (place : Place) → Needs (least_left kind place) (Left kind bytes place)
needs_left kind bytes EmptyLines = needs_blank 14 (StartLine kind) (needs_start kind)
needs_left kind bytes EmptyLineEnd = needs_due 14 (10 ∷ []) (Blank (StartLine kind)) (needs_blank 14 (StartLine kind) (needs_start kind))
needs_left kind bytes Method = needs_method kind
needs_left kind bytes (Target start) = λ text rest x.
    let whole = (7 - 0) + (1 + least_after_version kind) in
    let n = needs_target whole (drop start bytes) (Due version_name (MinorLeft kind)) (needs_version kind 0) text rest x.left in
    omega arith
needs_left kind bytes (Version count) = λ text rest x. omega (arith, needs_version kind count text rest x)
needs_left kind bytes RequestLineEnd = needs_ends 1 (Lines most_fields) (needs_lines most_fields)
needs_left kind bytes StatusSpace = needs_due 5 (32 ∷ []) (DigitsLeft 3) (needs_digits 3)
needs_left kind bytes (Code count) = needs_digits count
needs_left kind bytes (Value room) = needs_value 1 (Lines room) (needs_lines room)
needs_left kind bytes (LineFeed room) = needs_due 1 (10 ∷ []) (Lines room) (needs_lines room)
needs_left kind bytes (Line room) = needs_lines room
needs_left kind bytes (Name room) = needs_run 2 is_token_byte 58 (ValueLeft (Lines room)) (needs_value 1 (Lines room) (needs_lines room))
needs_left kind bytes LastLineFeed = needs_due 0 (10 ∷ []) Nothing (λ text rest x. omega (arith, ap length x))
needs_left kind bytes Whole = λ text rest x. omega (arith, ap length x)
needs_left kind bytes Nowhere = λ text rest x. absurd x

-- ---- some text of a form is no longer

abbrev pub Has : ℕ → Form → Type 0
Has n K = (text : List ℕ) × (length text ≡ n) × K text []

has_due : (n : ℕ) (bytes : List ℕ) (K : Form) → Has n K → Has (length bytes + n) (Due bytes K)
has_due n bytes K x = (
  bytes ++ x.0,
  omega (arith, length-append bytes x.0, x.1),
  record { after = x.0; is = refl; left = x.2 },
)

has_one : (n : ℕ) (test : ℕ → Bool) (byte : ℕ) (K : Form) → test byte ≡ true → Has n K → Has (1 + n) (One test K)
has_one n test byte K passes x = (
  byte ∷ x.0,
  omega (arith, x.1),
  record { byte = byte; after = x.0; passes = passes; is = refl; left = x.2 },
)

has_run : (n : ℕ) (test : ℕ → Bool) (stop : ℕ) (K : Form) → Has n K → Has (1 + n) (Run test stop K)
has_run n test stop K x = (
  stop ∷ x.0,
  omega (arith, x.1),
  record { run = []; after = x.0; pass = All-nil (λ v. test v ≡ true); is = refl; left = x.2 },
)

has_ends : (n : ℕ) (K : Form) → Has n K → Has (1 + n) (Ends K)
has_ends n K x = (
  10 ∷ x.0,
  omega (arith, x.1),
  record { end = lf; after = x.0; is = refl; left = x.2 },
)

has_value : (n : ℕ) (K : Form) → Has n K → Has (1 + n) (ValueLeft K)
has_value n K x =
    let ended = has_ends n K x in (
      ended.0,
      ended.1,
      record { run = []; pass = All-nil (λ v. is_value_byte v ≡ true); after = ended.0; is = refl; left = ended.2 },
    )

has_blank : (n : ℕ) (K : Form) → Has n K → Has n (Blank K)
has_blank n K x = (x.0, x.1, record { ends = []; after = x.0; is = refl; left = x.2 })

has_target : (n : ℕ) (K : Form) → Has n K → Has (2 + n) (TargetLeft [] K)
has_target n K x = (
  47 ∷ 32 ∷ x.0,
  omega (arith, x.1),
  record {
    run = 47 ∷ [];
    after = x.0;
    pass = All-cons (λ v. is_uri_byte v ≡ true) 47 [] refl (All-nil (λ v. is_uri_byte v ≡ true));
    some = omega arith;
    utf8 = IsUtf8-from_ascii (47 ∷ []) (IsAscii-cons 47 [] (omega arith) IsAscii-nil);
    is = refl;
    left = x.2;
  },
)

has_lines : (room : ℕ) → Has 1 (Lines room)
has_lines room = (
  10 ∷ [],
  refl,
  record { fields = []; last = lf; reads = (All-nil IsField, refl); few = omega arith },
)

has_reason : Has 2 ReasonLeft
has_reason =
    let x = has_ends 1 (Lines most_fields) (has_lines most_fields) in (x.0, x.1, inl x.2)

has_digits : (count : ℕ) → Has (count + 2) (DigitsLeft count)
has_digits zero = has_reason
has_digits (suc count) =
    let x = has_one (count + 2) is_ascii_digit 48 (DigitsLeft count) refl (has_digits count) in
    (x.0, omega (arith, x.1), x.2)

has_after_version : (kind : Kind) → Has (least_after_version kind) (AfterVersion kind)
has_after_version Request = has_ends 1 (Lines most_fields) (has_lines most_fields)
has_after_version Trailer = has_ends 1 (Lines most_fields) (has_lines most_fields)
has_after_version Reply = has_due 5 (32 ∷ []) (DigitsLeft 3) (has_digits 3)

has_minor : (kind : Kind) → Has (1 + least_after_version kind) (MinorLeft kind)
has_minor kind = has_one (least_after_version kind) is_minor 48 (AfterVersion kind) refl (has_after_version kind)

has_version : (kind : Kind) (count : ℕ) → Has ((7 - count) + 1 + least_after_version kind) (Due (drop count version_name) (MinorLeft kind))
has_version kind count =
    let x = has_due (1 + least_after_version kind) (drop count version_name) (MinorLeft kind) (has_minor kind) in
    (x.0, omega (arith, x.1, length-drop count version_name), x.2)

has_method : (kind : Kind) → Has (11 + least_after_version kind) (MethodLeft kind)
has_method kind =
    let x = has_run (2 + (8 + least_after_version kind)) is_token_byte 32 (TargetLeft [] (Due version_name (MinorLeft kind)))
    (has_target (8 + least_after_version kind) (Due version_name (MinorLeft kind)) (eight (has_version kind 0))) in
    (x.0, omega (arith, x.1), x.2)
  where
    eight : Has ((7 - 0) + 1 + least_after_version kind) (Due version_name (MinorLeft kind))
        → Has (8 + least_after_version kind) (Due version_name (MinorLeft kind))
    eight v = (v.0, omega (arith, v.1), v.2)

has_start : (kind : Kind) → Has 14 (StartLine kind)
has_start Request = has_one 13 is_token_byte 65 (MethodLeft Request) letter_is_token (has_method Request)
has_start Trailer = has_one 13 is_token_byte 65 (MethodLeft Trailer) letter_is_token (has_method Trailer)
has_start Reply = has_version Reply 0

-- but in a target, of which the form may ask for more bytes
abbrev pub is_in_target : Place → Bool
is_in_target (Target start) = true
is_in_target _ = false

pub has_left : (kind : Kind) (bytes : List ℕ) (place : Place) → is_open place ≡ true → is_in_target place ≡ false
    → Has (least_left kind place) (Left kind bytes place)
has_left kind bytes EmptyLines opened outside = has_blank 14 (StartLine kind) (has_start kind)
has_left kind bytes EmptyLineEnd opened outside = has_due 14 (10 ∷ []) (Blank (StartLine kind)) (has_blank 14 (StartLine kind) (has_start kind))
has_left kind bytes Method opened outside = has_method kind
has_left kind bytes (Target start) opened outside = absurd (cc)
has_left kind bytes (Version count) opened outside = has_version kind count
has_left kind bytes RequestLineEnd opened outside = has_ends 1 (Lines most_fields) (has_lines most_fields)
has_left kind bytes StatusSpace opened outside = has_due 5 (32 ∷ []) (DigitsLeft 3) (has_digits 3)
has_left kind bytes (Code count) opened outside = has_digits count
has_left kind bytes (Value room) opened outside = has_value 1 (Lines room) (has_lines room)
has_left kind bytes (LineFeed room) opened outside = has_due 1 (10 ∷ []) (Lines room) (has_lines room)
has_left kind bytes (Line room) opened outside = has_lines room
has_left kind bytes (Name room) opened outside = has_run 2 is_token_byte 58 (ValueLeft (Lines room)) (has_value 1 (Lines room) (has_lines room))
has_left kind bytes LastLineFeed opened outside = has_due 0 (10 ∷ []) Nothing ([], refl, refl)
has_left kind bytes Whole opened outside = absurd (cc)
has_left kind bytes Nowhere opened outside = absurd (cc)

-- where a byte can follow, one has to
pub least_open : (kind : Kind) (place : Place) → is_open place ≡ true → 1 ≤ least_left kind place
least_open kind EmptyLines opened = omega arith
least_open kind EmptyLineEnd opened = omega arith
least_open kind Method opened = omega arith
least_open kind (Target start) opened = omega arith
least_open kind (Version count) opened = omega arith
least_open kind RequestLineEnd opened = omega arith
least_open kind StatusSpace opened = omega arith
least_open kind (Code count) opened = omega arith
least_open kind (Value room) opened = omega arith
least_open kind (LineFeed room) opened = omega arith
least_open kind (Line room) opened = omega arith
least_open kind (Name room) opened = omega arith
least_open kind LastLineFeed opened = omega arith
least_open kind Whole opened = absurd (cc)
least_open kind Nowhere opened = absurd (cc)
