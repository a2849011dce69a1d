-- A head from its first byte on.
use Rattle.std.proofs.Common.{◌≡◌, ◌↔◌, ℕ, zero, suc, ◌+◌, ◌<◌, ◌≤◌, ◌⊎◌, true, List, [], ◌∷◌, ◌++◌, length, refl, sym, ap, ◌∙◌, arith, inl, inr, Option, Some, None}
use Rattle.std.proofs.lemmas.Bool.{or_cases, eqb-true}
use Rattle.std.proofs.lemmas.List.Elements.{All-head, All-tail, All-cons, All-nil}
use Rattle.std.specs.Prelude.{All, ◌==◌}
use Rattle.std.specs.Char.{is_ascii_digit}
use Rattle.httparse.specs.Grammar.{is_token_byte, is_value_byte, AllPass, LineEnd, print_end, print_blank, print_version, print_reason, reason_phrase, Field, IsField, print_section, RequestHead, ReadsRequest, IsRequestHead, ResponseHead, ReadsResponse, IsResponseHead}
use Rattle.httparse.proofs.GrammarLemmas.{print_request-append, print_response-append}
use Rattle.sz_http.specs.declared.kind.Kind.TheVariants.{Request, Reply, Trailer}
use Rattle.sz_http.specs.Head.{Reads, most_fields}
use Rattle.sz_http.specs.Left.{Form, Due, One, Run, Ends, Blank, TargetLeft, Lines, ReasonLeft, DigitsLeft, MinorLeft, StartLine, is_minor, version_name}

-- ---- the minor version

minor_passes : (minor : ℕ) → minor ≤ 1 → is_minor (48 + minor) ≡ true
minor_passes zero least = refl
minor_passes (suc zero) least = refl
minor_passes (suc (suc minor)) least = absurd (omega arith)

minor_of : (byte : ℕ) → is_minor byte ≡ true → (minor : ℕ) × (minor ≤ 1) × (byte ≡ 48 + minor)
minor_of byte passes = by (or_cases _ _ passes)
  where
    by : ((byte == 48) ≡ true) ⊎ ((byte == 49) ≡ true) → (minor : ℕ) × (minor ≤ 1) × (byte ≡ 48 + minor)
    by (inl e) = (0, omega arith, eqb-true byte 48 e)
    by (inr e) = (1, omega arith, eqb-true byte 49 e)

version_left : (minor : ℕ) (K : Form) (after rest : List ℕ) → minor ≤ 1 → K after rest
    → Due version_name (One is_minor K) (print_version minor ++ after) rest
version_left minor K after rest least left = record {
  after = (48 + minor) ∷ after;
  is = refl;
  left = record { byte = 48 + minor; after = after; passes = minor_passes minor least; is = refl; left = left };
}

-- ---- requests

method_left : (K : Form) (method after rest : List ℕ) → 0 < length method → AllPass is_token_byte method → K after rest
    → One is_token_byte (Run is_token_byte 32 K) (method ++ 32 ∷ after) rest
method_left K [] after rest some pass left = absurd (omega arith)
method_left K (m ∷ method) after rest some pass left = record {
  byte = m;
  after = method ++ 32 ∷ after;
  passes = All-head (λ v. is_token_byte v ≡ true) m method pass;
  is = refl;
  left = record {
    run = method;
    after = after;
    pass = All-tail (λ v. is_token_byte v ≡ true) m method pass;
    is = refl;
    left = left;
  };
}

request_left : (text rest : List ℕ) (h : RequestHead) → ReadsRequest text h rest → length h.fields ≤ most_fields
    → Blank (StartLine Request) text rest
request_left text rest h reads few =
    let section = print_section h.fields h.last ++ rest in
    let version = print_version h.minor ++ (print_end h.line_end ++ section) in
    let lines : Lines most_fields section rest =
    record { fields = h.fields; last = h.last; reads = (reads.0.fields, refl); few = few } in
    let ends : Ends (Lines most_fields) (print_end h.line_end ++ section) rest =
    record { end = h.line_end; after = section; is = refl; left = lines } in
    let target : TargetLeft [] (Due version_name (MinorLeft Request)) (h.target ++ 32 ∷ version) rest =
    record {
      run = h.target;
      after = version;
      pass = reads.0.target.1;
      some = reads.0.target.0;
      utf8 = reads.0.target_text;
      is = refl;
      left = version_left h.minor (Ends (Lines most_fields)) (print_end h.line_end ++ section) rest reads.0.minor ends;
    } in
    record {
      ends = h.blank;
      after = h.method ++ 32 ∷ (h.target ++ 32 ∷ version);
      is = reads.1 ∙ print_request-append h rest;
      left = method_left (TargetLeft [] (Due version_name (MinorLeft Request))) h.method (h.target ++ 32 ∷ version) rest
          reads.0.method.0 reads.0.method.1 target;
    }

request_read : (text rest : List ℕ) → Blank (StartLine Request) text rest → Reads Request text rest
request_read text rest x =
    let one = x.left in
    let run = one.left in
    let target = run.left in
    let name = target.left in
    let digit = name.left in
    let ends = digit.left in
    let lines = ends.left in
    let minor = minor_of digit.byte digit.passes in
    let h : RequestHead = record {
      blank = x.ends;
      method = one.byte ∷ run.run;
      target = target.run;
      minor = minor.0;
      line_end = ends.end;
      fields = lines.fields;
      last = lines.last;
    } in
    let valid : IsRequestHead h = record {
      method = (omega arith, All-cons (λ v. is_token_byte v ≡ true) one.byte run.run one.passes run.pass);
      target = (target.some, target.pass);
      target_text = target.utf8;
      minor = minor.1;
      fields = lines.reads.0;
    } in
    let after_digit : digit.after ≡ print_end ends.end ++ (print_section lines.fields lines.last ++ rest) =
    ends.is ∙ ap (λ (t : List ℕ). print_end ends.end ++ t) lines.reads.1 in
    let after_target : target.after ≡ print_version minor.0 ++ (print_end ends.end ++ (print_section lines.fields lines.last ++ rest)) =
    name.is ∙ ap (λ (t : List ℕ). version_name ++ t)
    (digit.is ∙ ap (λ (v : ℕ). v ∷ digit.after) minor.2 ∙ ap (λ (t : List ℕ). (48 + minor.0) ∷ t) after_digit) in
    let e = x.is ∙ ap (λ (t : List ℕ). print_blank x.ends ++ t)
    (one.is ∙ ap (λ (t : List ℕ). one.byte ∷ t)
    (run.is ∙ ap (λ (t : List ℕ). run.run ++ 32 ∷ t)
    (target.is ∙ ap (λ (t : List ℕ). target.run ++ 32 ∷ t) after_target))) in
    (h, (valid, e ∙ sym (print_request-append h rest)), lines.few)

-- ---- replies

digits_left : (digits after rest : List ℕ) → length digits ≡ 3 → AllPass is_ascii_digit digits → ReasonLeft after rest
    → DigitsLeft 3 (digits ++ after) rest
digits_left [] after rest three pass left = absurd (omega arith)
digits_left (a ∷ []) after rest three pass left = absurd (omega arith)
digits_left (a ∷ b ∷ []) after rest three pass left = absurd (omega arith)
digits_left (a ∷ b ∷ c ∷ d ∷ digits) after rest three pass left = absurd (omega arith)
digits_left (a ∷ b ∷ c ∷ []) after rest three pass left = record {
  byte = a;
  after = b ∷ c ∷ after;
  passes = pass 0 0 (omega arith);
  is = refl;
  left = record {
    byte = b;
    after = c ∷ after;
    passes = pass 1 0 (omega arith);
    is = refl;
    left = record { byte = c; after = after; passes = pass 2 0 (omega arith); is = refl; left = left };
  };
}

reason_left : (reason : Option (List ℕ)) (after rest : List ℕ) → AllPass is_value_byte (reason_phrase reason)
    → Ends (Lines most_fields) after rest → ReasonLeft (print_reason reason ++ after) rest
reason_left None after rest pass left = inl left
reason_left (Some phrase) after rest pass left = inr (record {
  after = phrase ++ after;
  is = refl;
  left = record { run = phrase; pass = pass; after = after; is = refl; left = left };
})

reply_left : (text rest : List ℕ) (h : ResponseHead) → ReadsResponse text h rest → length h.fields ≤ most_fields
    → Blank (StartLine Reply) text rest
reply_left text rest h reads few =
    let section = print_section h.fields h.last ++ rest in
    let ended = print_end h.line_end ++ section in
    let reason = print_reason h.reason ++ ended in
    let lines : Lines most_fields section rest =
    record { fields = h.fields; last = h.last; reads = (reads.0.fields, refl); few = few } in
    let ends : Ends (Lines most_fields) ended rest = record { end = h.line_end; after = section; is = refl; left = lines } in
    let digits = digits_left h.digits reason rest reads.0.digits.0 reads.0.digits.1 (reason_left h.reason ended rest reads.0.reason ends) in
    let spaced : Due (32 ∷ []) (DigitsLeft 3) (32 ∷ (h.digits ++ reason)) rest =
    record { after = h.digits ++ reason; is = refl; left = digits } in
    record {
      ends = h.blank;
      after = print_version h.minor ++ 32 ∷ (h.digits ++ reason);
      is = reads.1 ∙ print_response-append h rest;
      left = version_left h.minor (Due (32 ∷ []) (DigitsLeft 3)) (32 ∷ (h.digits ++ reason)) rest reads.0.minor spaced;
    }

-- the phrase that is left after the status code, with the end of the line and the fields
record Reason (text rest : List ℕ) : Type 0 where
  reason : Option (List ℕ)
  end : LineEnd
  fields : List Field
  last : LineEnd
  pass : AllPass is_value_byte (reason_phrase reason)
  is : text ≡ print_reason reason ++ (print_end end ++ (print_section fields last ++ rest))
  all : All IsField fields
  few : length fields ≤ most_fields

reason_read : (text rest : List ℕ) → ReasonLeft text rest → Reason text rest
reason_read text rest (inl x) = record {
  reason = None;
  end = x.end;
  fields = x.left.fields;
  last = x.left.last;
  pass = All-nil (λ v. is_value_byte v ≡ true);
  is = x.is ∙ ap (λ (t : List ℕ). print_end x.end ++ t) x.left.reads.1;
  all = x.left.reads.0;
  few = x.left.few;
}
reason_read text rest (inr x) =
    let value = x.left in
    let ends = value.left in
    let lines = ends.left in
    record {
      reason = Some value.run;
      end = ends.end;
      fields = lines.fields;
      last = lines.last;
      pass = value.pass;
      is = x.is ∙ ap (λ (t : List ℕ). 32 ∷ t) (value.is ∙ ap (λ (t : List ℕ). value.run ++ t)
          (ends.is ∙ ap (λ (t : List ℕ). print_end ends.end ++ t) lines.reads.1));
      all = lines.reads.0;
      few = lines.few;
    }

reply_read : (text rest : List ℕ) → Blank (StartLine Reply) text rest → Reads Reply text rest
reply_read text rest x =
    let name = x.left in
    let digit = name.left in
    let space = digit.left in
    let a = space.left in
    let b = a.left in
    let c = b.left in
    let reason = reason_read c.after rest c.left in
    let minor = minor_of digit.byte digit.passes in
    let P : ℕ → Type 0 = λ v. is_ascii_digit v ≡ true in
    let h : ResponseHead = record {
      blank = x.ends;
      minor = minor.0;
      digits = a.byte ∷ b.byte ∷ c.byte ∷ [];
      reason = reason.reason;
      line_end = reason.end;
      fields = reason.fields;
      last = reason.last;
    } in
    let valid : IsResponseHead h = record {
      minor = minor.1;
      digits = (refl, All-cons P a.byte (b.byte ∷ c.byte ∷ []) a.passes (All-cons P b.byte (c.byte ∷ []) b.passes (All-cons P c.byte [] c.passes (All-nil P))));
      reason = reason.pass;
      fields = reason.all;
    } in
    let after_space : space.after ≡ (a.byte ∷ b.byte ∷ c.byte ∷ []) ++ (print_reason reason.reason ++ (print_end reason.end ++ (print_section reason.fields reason.last ++ rest))) =
    a.is ∙ ap (λ (t : List ℕ). a.byte ∷ t) (b.is ∙ ap (λ (t : List ℕ). b.byte ∷ t) (c.is ∙ ap (λ (t : List ℕ). c.byte ∷ t) reason.is)) in
    let after_digit = space.is ∙ ap (λ (t : List ℕ). 32 ∷ t) after_space in
    let e = x.is ∙ ap (λ (t : List ℕ). print_blank x.ends ++ t)
    (name.is ∙ ap (λ (t : List ℕ). version_name ++ t)
    (digit.is ∙ ap (λ (v : ℕ). v ∷ digit.after) minor.2 ∙ ap (λ (t : List ℕ). (48 + minor.0) ∷ t) after_digit)) in
    (h, (valid, e ∙ sym (print_response-append h rest)), reason.few)

-- ---- each kind

pub request_starts : (text rest : List ℕ) → Reads Request text rest ↔ Blank (StartLine Request) text rest
request_starts text rest = (λ x. request_left text rest x.0 x.1 x.2, request_read text rest)

pub reply_starts : (text rest : List ℕ) → Reads Reply text rest ↔ Blank (StartLine Reply) text rest
reply_starts text rest = (λ x. reply_left text rest x.0 x.1 x.2, reply_read text rest)

pub trailer_starts : (text rest : List ℕ) → Reads Trailer text rest ↔ Lines most_fields text rest
trailer_starts text rest = (
  λ x. record { fields = x.0; last = x.1; reads = x.2; few = x.3 },
  λ y. (y.fields, y.last, y.reads, y.few),
)
