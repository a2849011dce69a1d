-- Where a byte leads from each form.
use Rattle.std.proofs.Common.{◌≡◌, ◌≢◌, ◌↔◌, ℕ, suc, ◌<◌, ◌≤◌, Bool, true, false, List, [], ◌∷◌, ◌++◌, length, refl, sym, ap, ◌∙◌, subst, arith, append_assoc, append-nil, inl, inr}
use Rattle.std.proofs.lemmas.Bool.{false≢true, both_ways}
use Rattle.std.proofs.lemmas.List.Elements.{All-head, All-tail, All-cons, All-nil}
use Rattle.std.specs.Prelude.{All, IsUtf8}
use Rattle.std.specs.List.{flat_map}
use Rattle.httparse.specs.Grammar.{is_token_byte, is_uri_byte, is_value_byte, AllPass, LineEnd, crlf, lf, print_end, print_blank, Field, print_field, IsField, print_section, ReadsSection}
use Rattle.httparse.proofs.PieceLemmas.{print_field-append, token_is_no_newline}
use Rattle.sz_http.specs.Head.{most_fields}
use Rattle.sz_http.specs.Left.{Form, Nothing, Due, One, Run, Ends, ValueLeft, Blank, TargetLeft, Lines, NameLeft, ReasonLeft}

-- a list of one byte more
more_bytes : {b c : ℕ} {xs ys : List ℕ} → b ∷ xs ≡ c ∷ ys → (b ≡ c) × (xs ≡ ys)
more_bytes e = (cc, cc)

-- ---- bytes that are due

pub due-same : (b : ℕ) (bytes : List ℕ) (K : Form) (more rest : List ℕ)
    → Due (b ∷ bytes) K (b ∷ more) rest ↔ Due bytes K more rest
due-same b bytes K more rest = (
  λ x. record { after = x.after; is = (more_bytes x.is).1; left = x.left },
  λ y. record { after = y.after; is = ap (λ (t : List ℕ). b ∷ t) y.is; left = y.left },
)

pub due-none : (K : Form) (more rest : List ℕ) → Due [] K more rest ↔ K more rest
due-none K more rest = (
  λ x. subst (λ (t : List ℕ). K t rest) (sym x.is) x.left,
  λ y. record { after = more; is = refl; left = y },
)

pub due-last : (b : ℕ) (K : Form) (more rest : List ℕ) → Due (b ∷ []) K (b ∷ more) rest ↔ K more rest
due-last b K more rest =
    let first = due-same b [] K more rest in
    let then = due-none K more rest in
    (λ x. then.0 (first.0 x), λ y. first.1 (then.1 y))

pub due-other : (b c : ℕ) (bytes : List ℕ) (K : Form) (more rest : List ℕ) → b ≢ c → Due (c ∷ bytes) K (b ∷ more) rest → ⊥
due-other b c bytes K more rest other x = other (more_bytes x.is).0

-- ---- one byte of a class

pub one-pass : (test : ℕ → Bool) (b : ℕ) (K : Form) (more rest : List ℕ) → test b ≡ true
    → One test K (b ∷ more) rest ↔ K more rest
one-pass test b K more rest passes = (
  λ x. subst (λ (t : List ℕ). K t rest) (sym (more_bytes x.is).1) x.left,
  λ y. record { byte = b; after = more; passes = passes; is = refl; left = y },
)

pub one-fail : (test : ℕ → Bool) (b : ℕ) (K : Form) (more rest : List ℕ) → test b ≡ false
    → One test K (b ∷ more) rest → ⊥
one-fail test b K more rest fails x = let same = (more_bytes x.is).0 in let passes = x.passes in cc

-- ---- a run of bytes of a class

run-first : (test : ℕ → Bool) (stop b : ℕ) (K : Form) (run after more rest : List ℕ) → test b ≡ true → test stop ≡ false
    → AllPass test run → b ∷ more ≡ run ++ stop ∷ after → K after rest → Run test stop K more rest
run-first test stop b K [] after more rest passes stops pass is left = let same = (more_bytes is).0 in absurd (cc)
run-first test stop b K (y ∷ run) after more rest passes stops pass is left = record {
  run = run;
  after = after;
  pass = All-tail (λ v. test v ≡ true) y run pass;
  is = (more_bytes is).1;
  left = left;
}

pub run-pass : (test : ℕ → Bool) (stop b : ℕ) (K : Form) (more rest : List ℕ) → test b ≡ true → test stop ≡ false
    → Run test stop K (b ∷ more) rest ↔ Run test stop K more rest
run-pass test stop b K more rest passes stops = (
  λ x. run-first test stop b K x.run x.after more rest passes stops x.pass x.is x.left,
  λ y. record {
    run = b ∷ y.run;
    after = y.after;
    pass = All-cons (λ v. test v ≡ true) b y.run passes y.pass;
    is = ap (λ (t : List ℕ). b ∷ t) y.is;
    left = y.left;
  },
)

run-ended : (test : ℕ → Bool) (stop : ℕ) (K : Form) (run after more rest : List ℕ) → test stop ≡ false
    → AllPass test run → stop ∷ more ≡ run ++ stop ∷ after → K after rest → K more rest
run-ended test stop K [] after more rest stops pass is left = subst (λ (t : List ℕ). K t rest) (sym (more_bytes is).1) left
run-ended test stop K (y ∷ run) after more rest stops pass is left =
    let passes = All-head (λ v. test v ≡ true) y run pass in let same = (more_bytes is).0 in absurd (cc)

pub run-stop : (test : ℕ → Bool) (stop : ℕ) (K : Form) (more rest : List ℕ) → test stop ≡ false
    → Run test stop K (stop ∷ more) rest ↔ K more rest
run-stop test stop K more rest stops = (
  λ x. run-ended test stop K x.run x.after more rest stops x.pass x.is x.left,
  λ y. record { run = []; after = more; pass = All-nil (λ v. test v ≡ true); is = refl; left = y },
)

run-none : (test : ℕ → Bool) (stop b : ℕ) (run after more : List ℕ) → test b ≡ false → b ≢ stop
    → AllPass test run → b ∷ more ≡ run ++ stop ∷ after → ⊥
run-none test stop b [] after more fails other pass is = other (more_bytes is).0
run-none test stop b (y ∷ run) after more fails other pass is =
    let passes = All-head (λ v. test v ≡ true) y run pass in let same = (more_bytes is).0 in cc

pub run-other : (test : ℕ → Bool) (stop b : ℕ) (K : Form) (more rest : List ℕ) → test b ≡ false → b ≢ stop
    → Run test stop K (b ∷ more) rest → ⊥
run-other test stop b K more rest fails other x = run-none test stop b x.run x.after more fails other x.pass x.is

-- ---- the end of a line

end-cr : (K : Form) (end : LineEnd) (after more rest : List ℕ) → 13 ∷ more ≡ print_end end ++ after → K after rest
    → Due (10 ∷ []) K more rest
end-cr K crlf after more rest is left = record { after = after; is = (more_bytes is).1; left = left }
end-cr K lf after more rest is left = let same : ◌≡◌ {A = ℕ} 13 10 = (more_bytes is).0 in absurd (omega arith)

pub ends-cr : (K : Form) (more rest : List ℕ) → Ends K (13 ∷ more) rest ↔ Due (10 ∷ []) K more rest
ends-cr K more rest = (
  λ x. end-cr K x.end x.after more rest x.is x.left,
  λ y. record { end = crlf; after = y.after; is = ap (λ (t : List ℕ). 13 ∷ t) y.is; left = y.left },
)

end-lf : (K : Form) (end : LineEnd) (after more rest : List ℕ) → 10 ∷ more ≡ print_end end ++ after → K after rest
    → K more rest
end-lf K crlf after more rest is left = let same : ◌≡◌ {A = ℕ} 10 13 = (more_bytes is).0 in absurd (omega arith)
end-lf K lf after more rest is left = subst (λ (t : List ℕ). K t rest) (sym (more_bytes is).1) left

pub ends-lf : (K : Form) (more rest : List ℕ) → Ends K (10 ∷ more) rest ↔ K more rest
ends-lf K more rest = (
  λ x. end-lf K x.end x.after more rest x.is x.left,
  λ y. record { end = lf; after = more; is = refl; left = y },
)

end-first : (b : ℕ) (end : LineEnd) (after more : List ℕ) → b ∷ more ≡ print_end end ++ after → (b ≢ 13) × (b ≢ 10) → ⊥
end-first b crlf after more is other = other.0 (more_bytes is).0
end-first b lf after more is other = other.1 (more_bytes is).0

pub ends-other : (b : ℕ) (K : Form) (more rest : List ℕ) → b ≢ 13 → b ≢ 10 → Ends K (b ∷ more) rest → ⊥
ends-other b K more rest not_cr not_lf x = end-first b x.end x.after more x.is (not_cr, not_lf)

-- ---- values

cr_no_value : (b : ℕ) → is_value_byte b ≡ true → (b ≢ 13) × (b ≢ 10)
cr_no_value b passes = (
  λ e. false≢true (subst (λ (v : ℕ). is_value_byte v ≡ true) e passes),
  λ e. false≢true (subst (λ (v : ℕ). is_value_byte v ≡ true) e passes),
)

value-first : (b : ℕ) (K : Form) (run after more rest : List ℕ) → is_value_byte b ≡ true → AllPass is_value_byte run
    → b ∷ more ≡ run ++ after → Ends K after rest → ValueLeft K more rest
value-first b K [] after more rest passes pass is left =
    absurd (end-first b left.end left.after more (is ∙ left.is) (cr_no_value b passes))
value-first b K (y ∷ run) after more rest passes pass is left = record {
  run = run;
  pass = All-tail (λ v. is_value_byte v ≡ true) y run pass;
  after = after;
  is = (more_bytes is).1;
  left = left;
}

pub value-pass : (b : ℕ) (K : Form) (more rest : List ℕ) → is_value_byte b ≡ true
    → ValueLeft K (b ∷ more) rest ↔ ValueLeft K more rest
value-pass b K more rest passes = (
  λ x. value-first b K x.run x.after more rest passes x.pass x.is x.left,
  λ y. record {
    run = b ∷ y.run;
    pass = All-cons (λ v. is_value_byte v ≡ true) b y.run passes y.pass;
    after = y.after;
    is = ap (λ (t : List ℕ). b ∷ t) y.is;
    left = y.left;
  },
)

value-ended : (b : ℕ) (K : Form) (run after more rest : List ℕ) → is_value_byte b ≡ false → AllPass is_value_byte run
    → b ∷ more ≡ run ++ after → Ends K after rest → Ends K (b ∷ more) rest
value-ended b K [] after more rest fails pass is left = subst (λ (t : List ℕ). Ends K t rest) (sym is) left
value-ended b K (y ∷ run) after more rest fails pass is left =
    let passes = All-head (λ v. is_value_byte v ≡ true) y run pass in
    absurd (both_ways (is_value_byte b) fails (subst (λ (v : ℕ). is_value_byte v ≡ true) (sym (more_bytes is).0) passes))

pub value-end : (b : ℕ) (K : Form) (more rest : List ℕ) → is_value_byte b ≡ false
    → ValueLeft K (b ∷ more) rest ↔ Ends K (b ∷ more) rest
value-end b K more rest fails = (
  λ x. value-ended b K x.run x.after more rest fails x.pass x.is x.left,
  λ y. record { run = []; pass = All-nil (λ v. is_value_byte v ≡ true); after = b ∷ more; is = refl; left = y },
)

-- ---- empty lines

blank-first-cr : (K : Form) (ends : List LineEnd) (after more rest : List ℕ) → ((text : List ℕ) → K (13 ∷ text) rest → ⊥)
    → 13 ∷ more ≡ print_blank ends ++ after → K after rest → Due (10 ∷ []) (Blank K) more rest
blank-first-cr K [] after more rest none is left = absurd (none more (subst (λ (t : List ℕ). K t rest) (sym is) left))
blank-first-cr K (crlf ∷ ends) after more rest none is left = record {
  after = print_blank ends ++ after;
  is = (more_bytes is).1;
  left = record { ends = ends; after = after; is = refl; left = left };
}
blank-first-cr K (lf ∷ ends) after more rest none is left =
    let same : ◌≡◌ {A = ℕ} 13 10 = (more_bytes is).0 in absurd (omega arith)

pub blank-cr : (K : Form) (more rest : List ℕ) → ((text : List ℕ) → K (13 ∷ text) rest → ⊥)
    → Blank K (13 ∷ more) rest ↔ Due (10 ∷ []) (Blank K) more rest
blank-cr K more rest none = (
  λ x. blank-first-cr K x.ends x.after more rest none x.is x.left,
  λ y. record {
    ends = crlf ∷ y.left.ends;
    after = y.left.after;
    is = ap (λ (t : List ℕ). 13 ∷ t) (y.is ∙ ap (λ (t : List ℕ). 10 ∷ t) y.left.is);
    left = y.left.left;
  },
)

blank-first-lf : (K : Form) (ends : List LineEnd) (after more rest : List ℕ) → ((text : List ℕ) → K (10 ∷ text) rest → ⊥)
    → 10 ∷ more ≡ print_blank ends ++ after → K after rest → Blank K more rest
blank-first-lf K [] after more rest none is left = absurd (none more (subst (λ (t : List ℕ). K t rest) (sym is) left))
blank-first-lf K (crlf ∷ ends) after more rest none is left =
    let same : ◌≡◌ {A = ℕ} 10 13 = (more_bytes is).0 in absurd (omega arith)
blank-first-lf K (lf ∷ ends) after more rest none is left =
    record { ends = ends; after = after; is = (more_bytes is).1; left = left }

pub blank-lf : (K : Form) (more rest : List ℕ) → ((text : List ℕ) → K (10 ∷ text) rest → ⊥)
    → Blank K (10 ∷ more) rest ↔ Blank K more rest
blank-lf K more rest none = (
  λ x. blank-first-lf K x.ends x.after more rest none x.is x.left,
  λ y. record {
    ends = lf ∷ y.ends;
    after = y.after;
    is = ap (λ (t : List ℕ). 10 ∷ t) y.is;
    left = y.left;
  },
)

blank-first : (b : ℕ) (K : Form) (ends : List LineEnd) (after more rest : List ℕ) → (b ≢ 13) × (b ≢ 10)
    → b ∷ more ≡ print_blank ends ++ after → K after rest → K (b ∷ more) rest
blank-first b K [] after more rest other is left = subst (λ (t : List ℕ). K t rest) (sym is) left
blank-first b K (crlf ∷ ends) after more rest other is left = absurd (other.0 (more_bytes is).0)
blank-first b K (lf ∷ ends) after more rest other is left = absurd (other.1 (more_bytes is).0)

pub blank-other : (b : ℕ) (K : Form) (more rest : List ℕ) → b ≢ 13 → b ≢ 10
    → Blank K (b ∷ more) rest ↔ K (b ∷ more) rest
blank-other b K more rest not_cr not_lf = (
  λ x. blank-first b K x.ends x.after more rest (not_cr, not_lf) x.is x.left,
  λ y. record { ends = []; after = b ∷ more; is = refl; left = y },
)

-- ---- targets

target-first : (b : ℕ) (before : List ℕ) (K : Form) (run after more rest : List ℕ) → is_uri_byte b ≡ true
    → AllPass is_uri_byte run → 0 < length (before ++ run) → IsUtf8 (before ++ run)
    → b ∷ more ≡ run ++ 32 ∷ after → K after rest → TargetLeft (before ++ b ∷ []) K more rest
target-first b before K [] after more rest passes pass some utf8 is left =
    absurd (false≢true (subst (λ (v : ℕ). is_uri_byte v ≡ true) (more_bytes is).0 passes))
target-first b before K (y ∷ run) after more rest passes pass some utf8 is left =
    let e : before ++ y ∷ run ≡ (before ++ b ∷ []) ++ run =
    ap (λ (v : ℕ). before ++ v ∷ run) (sym (more_bytes is).0) ∙ sym (append_assoc before (b ∷ []) run) in
    record {
      run = run;
      after = after;
      pass = All-tail (λ v. is_uri_byte v ≡ true) y run pass;
      some = subst (λ (t : List ℕ). 0 < length t) e some;
      utf8 = subst IsUtf8 e utf8;
      is = (more_bytes is).1;
      left = left;
    }

pub target-pass : (b : ℕ) (before : List ℕ) (K : Form) (more rest : List ℕ) → is_uri_byte b ≡ true
    → TargetLeft before K (b ∷ more) rest ↔ TargetLeft (before ++ b ∷ []) K more rest
target-pass b before K more rest passes = (
  λ x. target-first b before K x.run x.after more rest passes x.pass x.some x.utf8 x.is x.left,
  λ y. let e = append_assoc before (b ∷ []) y.run in record {
    run = b ∷ y.run;
    after = y.after;
    pass = All-cons (λ v. is_uri_byte v ≡ true) b y.run passes y.pass;
    some = subst (λ (t : List ℕ). 0 < length t) e y.some;
    utf8 = subst IsUtf8 e y.utf8;
    is = ap (λ (t : List ℕ). b ∷ t) y.is;
    left = y.left;
  },
)

target-ended : (before : List ℕ) (K : Form) (run after more rest : List ℕ) → AllPass is_uri_byte run
    → 0 < length (before ++ run) → IsUtf8 (before ++ run) → 32 ∷ more ≡ run ++ 32 ∷ after → K after rest
    → (0 < length before) × IsUtf8 before × K more rest
target-ended before K [] after more rest pass some utf8 is left = (
  subst (λ (t : List ℕ). 0 < length t) (append-nil before) some,
  subst IsUtf8 (append-nil before) utf8,
  subst (λ (t : List ℕ). K t rest) (sym (more_bytes is).1) left,
)
target-ended before K (y ∷ run) after more rest pass some utf8 is left =
    let passes = All-head (λ v. is_uri_byte v ≡ true) y run pass in
    absurd (false≢true (subst (λ (v : ℕ). is_uri_byte v ≡ true) (sym (more_bytes is).0) passes))

pub target-is-whole : (before : List ℕ) (K : Form) (more rest : List ℕ) → TargetLeft before K (32 ∷ more) rest
    → (0 < length before) × IsUtf8 before × K more rest
target-is-whole before K more rest x = target-ended before K x.run x.after more rest x.pass x.some x.utf8 x.is x.left

pub target-stop : (before : List ℕ) (K : Form) (more rest : List ℕ) → 0 < length before → IsUtf8 before
    → TargetLeft before K (32 ∷ more) rest ↔ K more rest
target-stop before K more rest some utf8 = (
  λ x. (target-is-whole before K more rest x).2,
  λ y. record {
    run = [];
    after = more;
    pass = All-nil (λ v. is_uri_byte v ≡ true);
    some = subst (λ (t : List ℕ). 0 < length t) (sym (append-nil before)) some;
    utf8 = subst IsUtf8 (sym (append-nil before)) utf8;
    is = refl;
    left = y;
  },
)

pub target-other : (b : ℕ) (before : List ℕ) (K : Form) (more rest : List ℕ) → is_uri_byte b ≡ false → b ≢ 32
    → TargetLeft before K (b ∷ more) rest → ⊥
target-other b before K more rest fails other x = run-none is_uri_byte 32 b x.run x.after more fails other x.pass x.is

-- ---- field lines

-- a section that begins with a field, from its first name on
section_split : (f : Field) (fields : List Field) (last : LineEnd) (rest : List ℕ)
    → print_section (f ∷ fields) last ++ rest
    ≡ f.name ++ 58 ∷ (f.raw ++ (print_end f.end ++ (print_section fields last ++ rest)))
section_split f fields last rest =
    ap (λ (t : List ℕ). t ++ rest) (append_assoc (print_field f) (flat_map print_field fields) (print_end last))
    ∙ append_assoc (print_field f) (flat_map print_field fields ++ print_end last) rest
    ∙ print_field-append f (print_section fields last ++ rest)

-- a name has a first byte, which is one of a token
name_first : (b : ℕ) (name after more : List ℕ) → 0 < length name → AllPass is_token_byte name
    → b ∷ more ≡ name ++ 58 ∷ after → is_token_byte b ≡ true
name_first b [] after more some pass is = absurd (omega arith)
name_first b (y ∷ name) after more some pass is =
    let passes = All-head (λ v. is_token_byte v ≡ true) y name pass in let same = (more_bytes is).0 in cc

field_first : (b : ℕ) (f : Field) (fields : List Field) (last : LineEnd) (more rest : List ℕ)
    → ReadsSection (b ∷ more) (f ∷ fields) last rest → is_token_byte b ≡ true
field_first b f fields last more rest reads =
    let field = All-head IsField f fields reads.0 in
    name_first b f.name _ more field.name.0 field.name.1 (reads.1 ∙ section_split f fields last rest)

pub cr_no_token : is_token_byte 13 ≡ true → ⊥
cr_no_token passes = let fails : true ≡ false = token_is_no_newline 13 passes in cc

pub lf_no_token : is_token_byte 10 ≡ true → ⊥
lf_no_token passes = let fails : true ≡ false = token_is_no_newline 10 passes in cc

line-cr : (fields : List Field) (last : LineEnd) (more rest : List ℕ) → ReadsSection (13 ∷ more) fields last rest
    → Due (10 ∷ []) Nothing more rest
line-cr [] last more rest reads = end-cr Nothing last rest more rest reads.1 refl
line-cr (f ∷ fields) last more rest reads = absurd (cr_no_token (field_first 13 f fields last more rest reads))

pub lines-cr : (room : ℕ) (more rest : List ℕ) → Lines room (13 ∷ more) rest ↔ Due (10 ∷ []) Nothing more rest
lines-cr room more rest = (
  λ x. line-cr x.fields x.last more rest x.reads,
  λ y. record {
    fields = [];
    last = crlf;
    reads = (All-nil IsField, ap (λ (t : List ℕ). 13 ∷ t) (y.is ∙ ap (λ (t : List ℕ). 10 ∷ t) y.left));
    few = omega arith;
  },
)

line-lf : (fields : List Field) (last : LineEnd) (more rest : List ℕ) → ReadsSection (10 ∷ more) fields last rest
    → more ≡ rest
line-lf [] last more rest reads = end-lf Nothing last rest more rest reads.1 refl
line-lf (f ∷ fields) last more rest reads = absurd (lf_no_token (field_first 10 f fields last more rest reads))

pub lines-lf : (room : ℕ) (more rest : List ℕ) → Lines room (10 ∷ more) rest ↔ Nothing more rest
lines-lf room more rest = (
  λ x. line-lf x.fields x.last more rest x.reads,
  λ y. record {
    fields = [];
    last = lf;
    reads = (All-nil IsField, ap (λ (t : List ℕ). 10 ∷ t) y);
    few = omega arith;
  },
)

named : (b room : ℕ) (name raw : List ℕ) (end : LineEnd) (fields : List Field) (last : LineEnd) (more rest : List ℕ)
    → 0 < length name → AllPass is_token_byte name → AllPass is_value_byte raw → All IsField fields → length fields ≤ room
    → b ∷ more ≡ name ++ 58 ∷ (raw ++ (print_end end ++ (print_section fields last ++ rest))) → NameLeft room more rest
named b room [] raw end fields last more rest some pass value all few is = absurd (omega arith)
named b room (y ∷ name) raw end fields last more rest some pass value all few is = record {
  run = name;
  after = raw ++ (print_end end ++ (print_section fields last ++ rest));
  pass = All-tail (λ v. is_token_byte v ≡ true) y name pass;
  is = (more_bytes is).1;
  left = record {
    run = raw;
    pass = value;
    after = print_end end ++ (print_section fields last ++ rest);
    is = refl;
    left = record {
      end = end;
      after = print_section fields last ++ rest;
      is = refl;
      left = record { fields = fields; last = last; reads = (all, refl); few = few };
    };
  };
}

line-name : (b room : ℕ) (fields : List Field) (last : LineEnd) (more rest : List ℕ) → is_token_byte b ≡ true
    → ReadsSection (b ∷ more) fields last rest → length fields ≤ suc room → NameLeft room more rest
line-name b room [] last more rest passes reads few =
    absurd (end-first b last rest more reads.1 (λ e. cr_no_token (cc), λ e. lf_no_token (cc)))
line-name b room (f ∷ fields) last more rest passes reads few =
    let field = All-head IsField f fields reads.0 in
    named b room f.name f.raw f.end fields last more rest field.name.0 field.name.1 field.raw
    (All-tail IsField f fields reads.0) (omega arith) (reads.1 ∙ section_split f fields last rest)

name-line : (b room : ℕ) (more rest : List ℕ) → is_token_byte b ≡ true → NameLeft room more rest → Lines (suc room) (b ∷ more) rest
name-line b room more rest passes y =
    let value = y.left in
    let ends = value.left in
    let lines = ends.left in
    let f : Field = record { name = b ∷ y.run; raw = value.run; end = ends.end } in
    let field : IsField f = record {
      name = (omega arith, All-cons (λ v. is_token_byte v ≡ true) b y.run passes y.pass);
      raw = value.pass;
    } in
    record {
      fields = f ∷ lines.fields;
      last = lines.last;
      reads = (
        All-cons IsField f lines.fields field lines.reads.0,
        ap (λ (t : List ℕ). b ∷ t) (y.is ∙ ap (λ (t : List ℕ). y.run ++ 58 ∷ t)
            (value.is ∙ ap (λ (t : List ℕ). value.run ++ t)
            (ends.is ∙ ap (λ (t : List ℕ). print_end ends.end ++ t) lines.reads.1)))
            ∙ sym (section_split f lines.fields lines.last rest),
      );
      few = omega (arith, lines.few);
    }

pub lines-name : (b room : ℕ) (more rest : List ℕ) → is_token_byte b ≡ true
    → Lines (suc room) (b ∷ more) rest ↔ NameLeft room more rest
lines-name b room more rest passes = (
  λ x. line-name b room x.fields x.last more rest passes x.reads x.few,
  name-line b room more rest passes,
)

no_line : (b : ℕ) (fields : List Field) (last : LineEnd) (more rest : List ℕ) → b ≢ 13 → b ≢ 10
    → ReadsSection (b ∷ more) fields last rest → (0 < length fields) × (is_token_byte b ≡ true)
no_line b [] last more rest not_cr not_lf reads = absurd (end-first b last rest more reads.1 (not_cr, not_lf))
no_line b (f ∷ fields) last more rest not_cr not_lf reads = (omega arith, field_first b f fields last more rest reads)

pub lines-full : (b room : ℕ) (more rest : List ℕ) → room ≤ 0 → b ≢ 13 → b ≢ 10 → Lines room (b ∷ more) rest → ⊥
lines-full b room more rest full not_cr not_lf x =
    let some = (no_line b x.fields x.last more rest not_cr not_lf x.reads).0 in omega (arith, x.few)

pub lines-other : (b room : ℕ) (more rest : List ℕ) → b ≢ 13 → b ≢ 10 → is_token_byte b ≡ false
    → Lines room (b ∷ more) rest → ⊥
lines-other b room more rest not_cr not_lf fails x =
    let passes = (no_line b x.fields x.last more rest not_cr not_lf x.reads).1 in cc

-- ---- after the status code

pub reason-space : (more rest : List ℕ) → ReasonLeft (32 ∷ more) rest ↔ ValueLeft (Lines most_fields) more rest
reason-space more rest = (forth, λ y. inr ((due-last 32 (ValueLeft (Lines most_fields)) more rest).1 y))
  where
    forth : ReasonLeft (32 ∷ more) rest → ValueLeft (Lines most_fields) more rest
    forth (inl x) = absurd (ends-other 32 (Lines most_fields) more rest (λ e. omega arith) (λ e. omega arith) x)
    forth (inr x) = (due-last 32 (ValueLeft (Lines most_fields)) more rest).0 x

pub reason-end : (b : ℕ) (more rest : List ℕ) → b ≢ 32 → ReasonLeft (b ∷ more) rest ↔ Ends (Lines most_fields) (b ∷ more) rest
reason-end b more rest other = (forth, λ y. inl y)
  where
    forth : ReasonLeft (b ∷ more) rest → Ends (Lines most_fields) (b ∷ more) rest
    forth (inl x) = x
    forth (inr x) = absurd (due-other b 32 [] (ValueLeft (Lines most_fields)) more rest other x)
