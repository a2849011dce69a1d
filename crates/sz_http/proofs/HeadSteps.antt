-- Where a byte leads from each place.
use Rattle.std.proofs.Common.{◌≡◌, ◌≢◌, ◌↔◌, ℕ, suc, ◌+◌, ◌-◌, ◌<◌, ◌≤◌, true, false, List, [], ◌∷◌, ◌++◌, length, take, drop, refl, sym, ap, ◌∙◌, subst, arith, ◌⊎◌, inl, inr, get_or}
use Rattle.std.proofs.lemmas.Bool.{cases_eq, ne_eqb, or_from}
use Rattle.std.proofs.lemmas.List.{drop_all, drop_more, drop-append-le, length_push, take_rest}
use Rattle.httparse.proofs.PieceLemmas.{space_ends_token, colon_ends_token}
use Rattle.std.specs.Char.{is_ascii_digit}
use Rattle.httparse.specs.Grammar.{is_token_byte, is_uri_byte, is_value_byte}
use Rattle.sz_http.specs.declared.kind.Kind.{Kind}
use Rattle.sz_http.specs.declared.kind.Kind.TheVariants.{Request, Reply, Trailer}
use Rattle.sz_http.specs.declared.head_place.Place.{Place}
use Rattle.sz_http.specs.declared.head_place.Place.TheVariants.{EmptyLines, EmptyLineEnd, Method, Target, Version, RequestLineEnd, StatusSpace, Code, Value, LineFeed, Line, Name, LastLineFeed, Whole, Nowhere}
use Rattle.sz_http.specs.Head.{most_fields}
use Rattle.sz_http.specs.Left.{Form, Due, Ends, ValueLeft, Blank, TargetLeft, Lines, NameLeft, ReasonLeft, DigitsLeft, AfterVersion, MinorLeft, MethodLeft, StartLine, is_minor, version_name}
use Rattle.sz_http.specs.HeadPlace.{Left, Leads, TargetFrom, IsWholeTarget}
use Rattle.sz_http.proofs.HeadForms.{due-none, due-last, due-other, one-pass, one-fail, run-pass, run-stop, run-other, ends-cr, ends-lf, ends-other, value-pass, value-end, blank-cr, blank-lf, blank-other, target-pass, target-stop, target-is-whole, target-other, lines-cr, lines-lf, lines-name, lines-full, lines-other, reason-space, reason-end, cr_no_token, lf_no_token}

-- no text goes on with the byte
pub nowhere : {kind : Kind} {bytes : List ℕ} {Before : Form} {byte : ℕ}
    → ((more rest : List ℕ) → Before (byte ∷ more) rest → ⊥) → Leads kind bytes Before byte Nowhere
nowhere none = record { same = λ more rest. (none more rest, λ y. absurd y) }

-- what leads on from one form leads on from another that has the same texts with the byte
pub leads_as : {kind : Kind} {bytes : List ℕ} {Before Other : Form} {byte : ℕ} {place : Place}
    → ((more rest : List ℕ) → Before (byte ∷ more) rest ↔ Other (byte ∷ more) rest)
    → Leads kind bytes Other byte place → Leads kind bytes Before byte place
leads_as alike leads = record {
  same = λ more rest.
      let a = alike more rest in let b = leads.same more rest in (λ x. b.0 (a.0 x), λ y. a.1 (b.1 y));
}

pub due_leads : (kind : Kind) (bytes : List ℕ) (byte due : ℕ) (next : Place) → byte ≡ due
    → Leads kind bytes (Due (due ∷ []) (Left kind bytes next)) byte next
due_leads kind bytes byte due next same =
    subst (λ (v : ℕ). Leads kind bytes (Due (v ∷ []) (Left kind bytes next)) byte next) same
    (record { same = λ more rest. due-last byte (Left kind bytes next) more rest })

pub due_refused : (kind : Kind) (bytes : List ℕ) (byte due : ℕ) (next : Place) → byte ≢ due
    → Leads kind bytes (Due (due ∷ []) (Left kind bytes next)) byte Nowhere
due_refused kind bytes byte due next other =
    nowhere {Before = Due (due ∷ []) (Left kind bytes next)} (λ more rest. due-other byte due [] (Left kind bytes next) more rest other)

start_no_cr : (kind : Kind) (text rest : List ℕ) → StartLine kind (13 ∷ text) rest → ⊥
start_no_cr Request text rest x = let passes = x.passes in let is = x.is in cr_no_token (cc)
start_no_cr Reply text rest x = due-other 13 72 (drop 1 version_name) (MinorLeft Reply) text rest (λ e. omega arith) x
start_no_cr Trailer text rest x = let passes = x.passes in let is = x.is in cr_no_token (cc)

start_no_lf : (kind : Kind) (text rest : List ℕ) → StartLine kind (10 ∷ text) rest → ⊥
start_no_lf Request text rest x = let passes = x.passes in let is = x.is in lf_no_token (cc)
start_no_lf Reply text rest x = due-other 10 72 (drop 1 version_name) (MinorLeft Reply) text rest (λ e. omega arith) x
start_no_lf Trailer text rest x = let passes = x.passes in let is = x.is in lf_no_token (cc)

pub empty_lines_cr : (kind : Kind) (bytes : List ℕ) (byte : ℕ) → byte ≡ 13 → Leads kind bytes (Blank (StartLine kind)) byte EmptyLineEnd
empty_lines_cr kind bytes byte is =
    subst (λ (v : ℕ). Leads kind bytes (Blank (StartLine kind)) v EmptyLineEnd) (sym is)
    (record { same = λ more rest. blank-cr (StartLine kind) more rest (λ text. start_no_cr kind text rest) })

pub empty_lines_lf : (kind : Kind) (bytes : List ℕ) (byte : ℕ) → byte ≡ 10 → Leads kind bytes (Blank (StartLine kind)) byte EmptyLines
empty_lines_lf kind bytes byte is =
    subst (λ (v : ℕ). Leads kind bytes (Blank (StartLine kind)) v EmptyLines) (sym is)
    (record { same = λ more rest. blank-lf (StartLine kind) more rest (λ text. start_no_lf kind text rest) })

pub empty_lines_other : (kind : Kind) (bytes : List ℕ) (byte : ℕ) (place : Place) → byte ≢ 13 → byte ≢ 10
    → Leads kind bytes (StartLine kind) byte place → Leads kind bytes (Blank (StartLine kind)) byte place
empty_lines_other kind bytes byte place not_cr not_lf =
    leads_as {Before = Blank (StartLine kind)} {Other = StartLine kind} (λ more rest. blank-other byte (StartLine kind) more rest not_cr not_lf)

pub start_method : (kind : Kind) (bytes : List ℕ) (byte : ℕ) → kind ≢ Reply → is_token_byte byte ≡ true
    → Leads kind bytes (StartLine kind) byte Method
start_method Request bytes byte other passes =
    record { same = λ more rest. one-pass is_token_byte byte (MethodLeft Request) more rest passes }
start_method Reply bytes byte other passes = absurd (other refl)
start_method Trailer bytes byte other passes =
    record { same = λ more rest. one-pass is_token_byte byte (MethodLeft Trailer) more rest passes }

pub start_refused : (kind : Kind) (bytes : List ℕ) (byte : ℕ) → kind ≢ Reply → is_token_byte byte ≡ false
    → Leads kind bytes (StartLine kind) byte Nowhere
start_refused Request bytes byte other fails =
    nowhere {Before = StartLine Request} (λ more rest. one-fail is_token_byte byte (MethodLeft Request) more rest fails)
start_refused Reply bytes byte other fails = absurd (other refl)
start_refused Trailer bytes byte other fails =
    nowhere {Before = StartLine Trailer} (λ more rest. one-fail is_token_byte byte (MethodLeft Trailer) more rest fails)

pub method_token : (kind : Kind) (bytes : List ℕ) (byte : ℕ) → is_token_byte byte ≡ true
    → Leads kind bytes (MethodLeft kind) byte Method
method_token kind bytes byte passes =
    record { same = λ more rest. run-pass is_token_byte 32 byte (TargetLeft [] (Due version_name (MinorLeft kind))) more rest passes space_ends_token }

target_begins : (kind : Kind) (bytes : List ℕ) (byte : ℕ) (more rest : List ℕ)
    → TargetLeft [] (Due version_name (MinorLeft kind)) more rest
    ↔ TargetFrom kind (length bytes + 1) (bytes ++ byte ∷ []) more rest
target_begins kind bytes byte more rest =
    let long : length (bytes ++ byte ∷ []) ≡ length bytes + 1 = length_push bytes byte in
    let empty : drop (length bytes + 1) (bytes ++ byte ∷ []) ≡ [] = drop_all (length bytes + 1) (bytes ++ byte ∷ []) (omega arith) in (
      λ x. record {
        inside = omega arith;
        left = subst (λ (t : List ℕ). TargetLeft t (Due version_name (MinorLeft kind)) more rest) (sym empty) x;
      },
      λ y. subst (λ (t : List ℕ). TargetLeft t (Due version_name (MinorLeft kind)) more rest) empty y.left,
    )

pub method_space : (kind : Kind) (bytes : List ℕ) (byte : ℕ) → byte ≡ 32
    → Leads kind (bytes ++ byte ∷ []) (MethodLeft kind) byte (Target (length bytes + 1))
method_space kind bytes byte is = record {
  same = λ more rest.
      let first = run-stop is_token_byte 32 (TargetLeft [] (Due version_name (MinorLeft kind))) more rest space_ends_token in
      let then = target_begins kind bytes byte more rest in (
        λ x. then.0 (first.0 (subst (λ (v : ℕ). MethodLeft kind (v ∷ more) rest) is x)),
        λ y. subst (λ (v : ℕ). MethodLeft kind (v ∷ more) rest) (sym is) (first.1 (then.1 y)),
      );
}

pub method_refused : (kind : Kind) (bytes : List ℕ) (byte : ℕ) → is_token_byte byte ≡ false → byte ≢ 32
    → Leads kind bytes (MethodLeft kind) byte Nowhere
method_refused kind bytes byte fails other =
    nowhere {Before = MethodLeft kind} (λ more rest. run-other is_token_byte 32 byte (TargetLeft [] (Due version_name (MinorLeft kind))) more rest fails other)

-- ---- targets

pub target_outside : (kind : Kind) (start : ℕ) (before bytes : List ℕ) (byte : ℕ) → length before < start
    → Leads kind bytes (TargetFrom kind start before) byte Nowhere
target_outside kind start before bytes byte past =
    nowhere {Before = TargetFrom kind start before} (λ more rest x. let inside = x.inside in omega arith)

pub target_goes_on : (kind : Kind) (start : ℕ) (bytes : List ℕ) (byte : ℕ) → start ≤ length bytes → is_uri_byte byte ≡ true
    → Leads kind (bytes ++ byte ∷ []) (TargetFrom kind start bytes) byte (Target start)
target_goes_on kind start bytes byte inside passes = record {
  same = λ more rest.
      let step = target-pass byte (drop start bytes) (Due version_name (MinorLeft kind)) more rest passes in
      let longer : drop start (bytes ++ byte ∷ []) ≡ drop start bytes ++ byte ∷ [] = drop-append-le start bytes (byte ∷ []) inside in (
        λ x. record {
          inside = omega (arith, length_push bytes byte);
          left = subst (λ (t : List ℕ). TargetLeft t (Due version_name (MinorLeft kind)) more rest) (sym longer) (step.0 x.left);
        },
        λ y. record {
          inside = inside;
          left = step.1 (subst (λ (t : List ℕ). TargetLeft t (Due version_name (MinorLeft kind)) more rest) longer y.left);
        },
      );
}

-- a slice that goes to the end, as code has it
pub whole_slice : (start : ℕ) (bytes : List ℕ) → IsWholeTarget (take (length bytes - start) (drop start bytes)) → IsWholeTarget (drop start bytes)
whole_slice start bytes = subst (λ (t : List ℕ). IsWholeTarget t) (take_rest bytes start)

pub slice_whole : (start : ℕ) (bytes : List ℕ) → IsWholeTarget (drop start bytes) → IsWholeTarget (take (length bytes - start) (drop start bytes))
slice_whole start bytes = subst (λ (t : List ℕ). IsWholeTarget t) (sym (take_rest bytes start))

pub target_ends : (kind : Kind) (start : ℕ) (before bytes : List ℕ) (byte : ℕ) → start ≤ length before → byte ≡ 32
    → IsWholeTarget (drop start before) → Leads kind bytes (TargetFrom kind start before) byte (Version 0)
target_ends kind start before bytes byte inside is whole =
    subst (λ (v : ℕ). Leads kind bytes (TargetFrom kind start before) v (Version 0)) (sym is) (record {
      same = λ more rest.
          let step = target-stop (drop start before) (Due version_name (MinorLeft kind)) more rest whole.0 whole.1 in (
            λ x. step.0 x.left,
            λ y. record { inside = inside; left = step.1 y },
          );
    })

pub target_refused : (kind : Kind) (start : ℕ) (before bytes : List ℕ) (byte : ℕ) → is_uri_byte byte ≡ false
    → (byte ≡ 32 → IsWholeTarget (drop start before) → ⊥) → Leads kind bytes (TargetFrom kind start before) byte Nowhere
target_refused kind start before bytes byte fails none =
    nowhere {Before = TargetFrom kind start before} (λ more rest x. judged (cases_eq byte 32) more rest x.left)
  where
    judged : (byte ≡ 32) ⊎ (byte ≡ 32 → ⊥) → (more rest : List ℕ)
        → TargetLeft (drop start before) (Due version_name (MinorLeft kind)) (byte ∷ more) rest → ⊥
    judged (inl is) more rest x =
        let whole = target-is-whole (drop start before) (Due version_name (MinorLeft kind)) more rest
        (subst (λ (v : ℕ). TargetLeft (drop start before) (Due version_name (MinorLeft kind)) (v ∷ more) rest) is x) in
        none is (whole.0, whole.1)
    judged (inr other) more rest x =
        target-other byte (drop start before) (Due version_name (MinorLeft kind)) more rest fails other x

-- ---- the version

-- the bytes that are due are one byte and those after it
due_split : (due : ℕ) (bytes : List ℕ) (K : Form) (text rest : List ℕ)
    → Due (due ∷ bytes) K text rest ↔ Due (due ∷ []) (Due bytes K) text rest
due_split due bytes K text rest = (
  λ x. record { after = bytes ++ x.after; is = x.is; left = record { after = x.after; is = refl; left = x.left } },
  λ y. record { after = y.left.after; is = y.is ∙ ap (λ (t : List ℕ). due ∷ t) y.left.is; left = y.left.left },
)

pub version_goes_on : (kind : Kind) (bytes : List ℕ) (count byte : ℕ) (place : Place) → count < 7
    → Leads kind bytes (Due (get_or version_name count 0 ∷ []) (Left kind bytes (Version (count + 1)))) byte place
    → Leads kind bytes (Due (drop count version_name) (MinorLeft kind)) byte place
version_goes_on kind bytes count byte place few =
    let first = drop_more version_name count 0 few in
    leads_as {Before = Due (drop count version_name) (MinorLeft kind)}
    {Other = Due (get_or version_name count 0 ∷ []) (Due (drop (count + 1) version_name) (MinorLeft kind))}
    (λ more rest. subst (λ (t : List ℕ). Due t (MinorLeft kind) (byte ∷ more) rest
    ↔ Due (get_or version_name count 0 ∷ []) (Due (drop (count + 1) version_name) (MinorLeft kind)) (byte ∷ more) rest)
    (sym first) (due_split (get_or version_name count 0) (drop (count + 1) version_name) (MinorLeft kind) (byte ∷ more) rest))

pub version_named : (kind : Kind) (bytes : List ℕ) (count byte : ℕ) (place : Place) → 7 ≤ count
    → Leads kind bytes (MinorLeft kind) byte place → Leads kind bytes (Due (drop count version_name) (MinorLeft kind)) byte place
version_named kind bytes count byte place past =
    leads_as {Before = Due (drop count version_name) (MinorLeft kind)} {Other = MinorLeft kind}
    (λ more rest. subst (λ (t : List ℕ). Due t (MinorLeft kind) (byte ∷ more) rest ↔ MinorLeft kind (byte ∷ more) rest)
    (sym (drop_all count version_name past)) (due-none (MinorLeft kind) (byte ∷ more) rest))

pub minor_refused : (kind : Kind) (bytes : List ℕ) (byte : ℕ) → byte ≢ 48 → byte ≢ 49 → Leads kind bytes (MinorLeft kind) byte Nowhere
minor_refused kind bytes byte not_0 not_1 =
    let fails : is_minor byte ≡ false = or_from _ _ (ne_eqb byte 48 not_0) (ne_eqb byte 49 not_1) in
    nowhere {Before = MinorLeft kind} (λ more rest. one-fail is_minor byte (AfterVersion kind) more rest fails)

is_minor_digit : (byte : ℕ) → ((byte ≡ 48 → ⊥) × (byte ≡ 49)) ⊎ (byte ≡ 48) → is_minor byte ≡ true
is_minor_digit byte (inl e) = subst (λ (v : ℕ). is_minor v ≡ true) (sym e.1) refl
is_minor_digit byte (inr e) = subst (λ (v : ℕ). is_minor v ≡ true) (sym e) refl

pub minor_reply : (kind : Kind) (bytes : List ℕ) (byte : ℕ) → ((byte ≡ 48 → ⊥) × (byte ≡ 49)) ⊎ (byte ≡ 48) → kind ≡ Reply
    → Leads kind bytes (MinorLeft kind) byte StatusSpace
minor_reply kind bytes byte digit is =
    subst (λ (k : Kind). Leads k bytes (MinorLeft k) byte StatusSpace) (sym is)
    (record { same = λ more rest. one-pass is_minor byte (AfterVersion Reply) more rest (is_minor_digit byte digit) })

pub minor_request : (kind : Kind) (bytes : List ℕ) (byte : ℕ) → ((byte ≡ 48 → ⊥) × (byte ≡ 49)) ⊎ (byte ≡ 48)
    → (kind ≡ Request) ⊎ (kind ≡ Trailer) → Leads kind bytes (MinorLeft kind) byte RequestLineEnd
minor_request kind bytes byte digit (inl is) =
    subst (λ (k : Kind). Leads k bytes (MinorLeft k) byte RequestLineEnd) (sym is)
    (record { same = λ more rest. one-pass is_minor byte (AfterVersion Request) more rest (is_minor_digit byte digit) })
minor_request kind bytes byte digit (inr is) =
    subst (λ (k : Kind). Leads k bytes (MinorLeft k) byte RequestLineEnd) (sym is)
    (record { same = λ more rest. one-pass is_minor byte (AfterVersion Trailer) more rest (is_minor_digit byte digit) })

-- ---- the status code

pub code_digit : (kind : Kind) (bytes : List ℕ) (count byte : ℕ) → count ≢ 0 → is_ascii_digit byte ≡ true
    → Leads kind bytes (DigitsLeft count) byte (Code (count - 1))
code_digit kind bytes count byte some passes =
    let more_than : suc (count - 1) ≡ count = omega arith in
    subst (λ (n : ℕ). Leads kind bytes (DigitsLeft n) byte (Code (count - 1))) more_than
    (record { same = λ more rest. one-pass is_ascii_digit byte (DigitsLeft (count - 1)) more rest passes })

pub code_refused : (kind : Kind) (bytes : List ℕ) (count byte : ℕ) → count ≢ 0 → is_ascii_digit byte ≡ false
    → Leads kind bytes (DigitsLeft count) byte Nowhere
code_refused kind bytes count byte some fails =
    let more_than : suc (count - 1) ≡ count = omega arith in
    subst (λ (n : ℕ). Leads kind bytes (DigitsLeft n) byte Nowhere) more_than
    (nowhere {Before = DigitsLeft (suc (count - 1))} (λ more rest. one-fail is_ascii_digit byte (DigitsLeft (count - 1)) more rest fails))

pub reason_begins : (kind : Kind) (bytes : List ℕ) (byte : ℕ) → byte ≡ 32 → Leads kind bytes ReasonLeft byte (Value most_fields)
reason_begins kind bytes byte is =
    subst (λ (v : ℕ). Leads kind bytes ReasonLeft v (Value most_fields)) (sym is) (record { same = λ more rest. reason-space more rest })

pub no_reason : (kind : Kind) (bytes : List ℕ) (byte : ℕ) (place : Place) → byte ≢ 32
    → Leads kind bytes (Ends (Lines most_fields)) byte place → Leads kind bytes ReasonLeft byte place
no_reason kind bytes byte place other =
    leads_as {Before = ReasonLeft} {Other = Ends (Lines most_fields)} (λ more rest. reason-end byte more rest other)

-- ---- values and the ends of lines

pub value_goes_on : (kind : Kind) (bytes : List ℕ) (room byte : ℕ) → is_value_byte byte ≡ true
    → Leads kind bytes (ValueLeft (Lines room)) byte (Value room)
value_goes_on kind bytes room byte passes = record { same = λ more rest. value-pass byte (Lines room) more rest passes }

pub value_ends : (kind : Kind) (bytes : List ℕ) (room byte : ℕ) (place : Place) → is_value_byte byte ≡ false
    → Leads kind bytes (Ends (Lines room)) byte place → Leads kind bytes (ValueLeft (Lines room)) byte place
value_ends kind bytes room byte place fails =
    leads_as {Before = ValueLeft (Lines room)} {Other = Ends (Lines room)} (λ more rest. value-end byte (Lines room) more rest fails)

pub end_cr : (kind : Kind) (bytes : List ℕ) (room byte : ℕ) → byte ≡ 13 → Leads kind bytes (Ends (Lines room)) byte (LineFeed room)
end_cr kind bytes room byte is =
    subst (λ (v : ℕ). Leads kind bytes (Ends (Lines room)) v (LineFeed room)) (sym is) (record { same = λ more rest. ends-cr (Lines room) more rest })

pub end_lf : (kind : Kind) (bytes : List ℕ) (room byte : ℕ) → byte ≡ 10 → Leads kind bytes (Ends (Lines room)) byte (Line room)
end_lf kind bytes room byte is =
    subst (λ (v : ℕ). Leads kind bytes (Ends (Lines room)) v (Line room)) (sym is) (record { same = λ more rest. ends-lf (Lines room) more rest })

pub end_refused : (kind : Kind) (bytes : List ℕ) (room byte : ℕ) → byte ≢ 13 → byte ≢ 10 → Leads kind bytes (Ends (Lines room)) byte Nowhere
end_refused kind bytes room byte not_cr not_lf =
    nowhere {Before = Ends (Lines room)} (λ more rest. ends-other byte (Lines room) more rest not_cr not_lf)

-- ---- field lines

pub line_cr : (kind : Kind) (bytes : List ℕ) (room byte : ℕ) → byte ≡ 13 → Leads kind bytes (Lines room) byte LastLineFeed
line_cr kind bytes room byte is =
    subst (λ (v : ℕ). Leads kind bytes (Lines room) v LastLineFeed) (sym is) (record { same = λ more rest. lines-cr room more rest })

pub line_lf : (kind : Kind) (bytes : List ℕ) (room byte : ℕ) → byte ≡ 10 → Leads kind bytes (Lines room) byte Whole
line_lf kind bytes room byte is =
    subst (λ (v : ℕ). Leads kind bytes (Lines room) v Whole) (sym is) (record { same = λ more rest. lines-lf room more rest })

pub line_name : (kind : Kind) (bytes : List ℕ) (room byte : ℕ) → 0 < room → is_token_byte byte ≡ true
    → Leads kind bytes (Lines room) byte (Name (room - 1))
line_name kind bytes room byte some passes =
    let more_than : suc (room - 1) ≡ room = omega arith in
    subst (λ (n : ℕ). Leads kind bytes (Lines n) byte (Name (room - 1))) more_than
    (record { same = λ more rest. lines-name byte (room - 1) more rest passes })

pub line_full : (kind : Kind) (bytes : List ℕ) (room byte : ℕ) → room ≤ 0 → byte ≢ 13 → byte ≢ 10
    → Leads kind bytes (Lines room) byte Nowhere
line_full kind bytes room byte full not_cr not_lf =
    nowhere {Before = Lines room} (λ more rest. lines-full byte room more rest full not_cr not_lf)

pub line_refused : (kind : Kind) (bytes : List ℕ) (room byte : ℕ) → byte ≢ 13 → byte ≢ 10 → is_token_byte byte ≡ false
    → Leads kind bytes (Lines room) byte Nowhere
line_refused kind bytes room byte not_cr not_lf fails =
    nowhere {Before = Lines room} (λ more rest. lines-other byte room more rest not_cr not_lf fails)

pub name_goes_on : (kind : Kind) (bytes : List ℕ) (room byte : ℕ) → is_token_byte byte ≡ true
    → Leads kind bytes (NameLeft room) byte (Name room)
name_goes_on kind bytes room byte passes =
    record { same = λ more rest. run-pass is_token_byte 58 byte (ValueLeft (Lines room)) more rest passes colon_ends_token }

pub name_ends : (kind : Kind) (bytes : List ℕ) (room byte : ℕ) → byte ≡ 58 → Leads kind bytes (NameLeft room) byte (Value room)
name_ends kind bytes room byte is =
    subst (λ (v : ℕ). Leads kind bytes (NameLeft room) v (Value room)) (sym is)
    (record { same = λ more rest. run-stop is_token_byte 58 (ValueLeft (Lines room)) more rest colon_ends_token })

pub name_refused : (kind : Kind) (bytes : List ℕ) (room byte : ℕ) → is_token_byte byte ≡ false → byte ≢ 58
    → Leads kind bytes (NameLeft room) byte Nowhere
name_refused kind bytes room byte fails other =
    nowhere {Before = NameLeft room} (λ more rest. run-other is_token_byte 58 byte (ValueLeft (Lines room)) more rest fails other)

-- ---- the kinds

pub not_reply : (kind : Kind) → (kind ≡ Request) ⊎ (kind ≡ Trailer) → kind ≢ Reply
not_reply kind (inl is) e = cc
not_reply kind (inr is) e = cc

pub empty_lines_reply : (kind : Kind) (bytes : List ℕ) (byte : ℕ) (place : Place) → byte ≢ 13 → byte ≢ 10 → kind ≡ Reply
    → Leads kind bytes (Due (drop 0 version_name) (MinorLeft kind)) byte place → Leads kind bytes (Blank (StartLine kind)) byte place
empty_lines_reply Request bytes byte place not_cr not_lf is leads = absurd (cc)
empty_lines_reply Trailer bytes byte place not_cr not_lf is leads = absurd (cc)
empty_lines_reply Reply bytes byte place not_cr not_lf is leads = empty_lines_other Reply bytes byte place not_cr not_lf leads
