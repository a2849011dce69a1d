-- A message that is written is one: a head of the grammar with its parts, which frames the body.
use Rattle.std.proofs.Common.{◌≡◌, ℕ, ◌+◌, ◌<◌, ◌≤◌, ◌^◌, List, [], ◌∷◌, ◌++◌, length, map, codes, Some, Ok, refl, sym, ap, ◌∙◌, subst, arith, All, inl, IsUtf8, append_assoc, append-nil, length-append}
use Rattle.std.proofs.lemmas.List.Elements.{All-cons, All-nil}
use Rattle.std.specs.Char.{is_ascii_digit}
use Rattle.std.specs.Fmt.{decimal}
use Rattle.std.specs.List.{flat_map}
use Rattle.std.specs.Str.Parse.{digits_value}
use Rattle.httparse.specs.Ascii.{crlf_bytes}
use Rattle.httparse.specs.Grammar.{AllPass, crlf, is_uri_byte, is_value_byte, IsToken, print_field, print_request, print_response, ReadsRequest, ReadsResponse, RequestHead, ResponseHead}
use Rattle.http.specs.StatusCode.{code_digits}
use Rattle.sz_base.proofs.Numerals.{IsDecimal-decimal}
use Rattle.sz_http.specs.Head.{IsHead, most_bytes}
use Rattle.sz_http.specs.Parts.{HasParts, Parts}
use Rattle.sz_http.specs.declared.kind.Kind.{Kind}
use Rattle.sz_http.specs.declared.kind.Kind.TheVariants.{Request, Reply}
use Rattle.sz_http.specs.Framing.{content_encoding, content_length, EachIs, FieldList, Frames, IsLength, IsSameText, transfer_encoding, values}
use Rattle.sz_http.specs.declared.framing.Framing.TheVariants.{Length}
use Rattle.sz_rest.proofs.Fields.{are_fields, ArePlainFields, length-lines, lines_length, parts_written, printed, written_field}
use Rattle.sz_rest.specs.Message.{field_line, head_text, IsMessage, lines_text, message_text, start_line, version, with_length}

-- The fields are plain and few, say how long the body is and name no coding; the head with this start line is no
-- longer than it may be.
pub record Suits (start : List ℕ) (fields : FieldList) (body : List ℕ) : Type 0 where
  pub plain : ArePlainFields fields
  pub few : length fields ≤ 64
  pub short : length start + lines_length fields + 4 ≤ 65536
  pub one_length : values content_length fields ≡ decimal (length body) ∷ []
  pub not_chunked : values transfer_encoding fields ≡ []
  pub not_coded : values content_encoding fields ≡ []

length-head : (start : List ℕ) (fields : FieldList) → length (head_text start fields) ≡ length start + lines_length fields + 4
length-head start fields =
    omega (
      arith,
      length-append (lines_text start fields) crlf_bytes,
      length-append (start ++ crlf_bytes) (flat_map field_line fields),
      length-append start crlf_bytes,
      length-lines fields,
    )

-- the lines and the empty line, as the grammar prints them
printed_head : (start : List ℕ) (fields : FieldList)
    → head_text start fields ≡ (start ++ crlf_bytes ++ (flat_map print_field (map written_field fields) ++ crlf_bytes)) ++ []
printed_head start fields =
    append_assoc (start ++ crlf_bytes) (flat_map field_line fields) crlf_bytes
    ∙ ap (λ (lines : List ℕ). start ++ crlf_bytes ++ (lines ++ crlf_bytes)) (sym (printed fields))
    ∙ sym (append-nil _)

length-map-written : (fields : FieldList) → length (map written_field fields) ≡ length fields
length-map-written [] = refl
length-map-written (field ∷ fields) = omega (arith, length-map-written fields)

within : (start : List ℕ) (fields : FieldList) (body : List ℕ) → Suits start fields body → length (head_text start fields) ≤ most_bytes + 0
within start fields body h = omega (arith, length-head start fields, h.short)

-- ---- the body is framed

is_length : (n : ℕ) → n < 2 ^ 64 → IsLength (decimal n) n
is_length n h =
    let numeral = IsDecimal-decimal n h in
    record { some = omega (arith, numeral.form.some); digits = numeral.form.digits; value = numeral.value; below = h }

each_of_none : (name value : List ℕ) (fields : FieldList) → values name fields ≡ [] → EachIs name value fields
each_of_none name value fields none =
    subst (λ (found : List (List ℕ)). All (λ text. IsSameText text value) found) (sym none) (All-nil (λ text. IsSameText text value))

framed : (kind : Kind) (start : List ℕ) (fields : FieldList) (body : List ℕ) → Suits start fields body → length body < 2 ^ 64
    → (limit : ℕ) → length body ≤ limit → Frames kind fields limit (Ok (Length (length body)))
framed kind start fields body h small limit most =
    let n = length body in
    let each : All (λ text. IsLength text n) (decimal n ∷ []) =
    All-cons (λ text. IsLength text n) (decimal n) [] (is_length n small) (All-nil (λ text. IsLength text n)) in (
      (each_of_none transfer_encoding (codes "chunked") fields h.not_chunked, each_of_none content_encoding (codes "identity") fields h.not_coded),
      λ coded. absurd (omega (arith, ap length h.not_chunked, coded)),
      inl (
        omega (arith, ap length h.one_length),
        subst (λ (found : List (List ℕ)). All (λ text. IsLength text n) found) (sym h.one_length) each,
      ),
      most,
    )

-- ---- a request

pub record IsRequestStart (method target : List ℕ) : Type 0 where
  pub is_token : IsToken method
  pub some : 0 < length target
  pub is_target : AllPass is_uri_byte target
  pub is_text : IsUtf8 target

abbrev pub request_head : List ℕ → List ℕ → FieldList → RequestHead
request_head method target fields = record {
  blank = [];
  method = method;
  target = target;
  minor = 1;
  line_end = crlf;
  fields = map written_field fields;
  last = crlf;
}

abbrev pub request_parts : List ℕ → List ℕ → FieldList → Parts
request_parts method target fields = record { method = method; target = target; status = 0; minor = 1; fields = fields }

reads_request : (method target : List ℕ) (fields : FieldList) → IsRequestStart method target → ArePlainFields fields
    → ReadsRequest (head_text (start_line method target version) fields) (request_head method target fields) []
unfolding print_request
reads_request method target fields start plain = (
  record {
    method = start.is_token;
    target = (start.some, start.is_target);
    target_text = start.is_text;
    minor = omega arith;
    fields = are_fields fields plain;
  },
  printed_head (start_line method target version) fields,
)

request_has_parts : (method target : List ℕ) (fields : FieldList) → IsRequestStart method target → ArePlainFields fields
    → HasParts Request (head_text (start_line method target version) fields) (request_parts method target fields)
request_has_parts method target fields start plain = (
  request_head method target fields,
  reads_request method target fields start plain,
  ap (λ (found : FieldList). request_parts method target found) (sym (parts_written fields plain)),
)

request_is_head : (method target : List ℕ) (fields : FieldList) (body : List ℕ) → IsRequestStart method target
    → Suits (start_line method target version) fields body → IsHead Request (head_text (start_line method target version) fields)
request_is_head method target fields body start suits = record {
  reads = (
    request_head method target fields,
    reads_request method target fields start suits.plain,
    omega (arith, length-map-written fields, suits.few),
  );
  fits = within (start_line method target version) fields body suits;
}

pub request_is_message : (method target : List ℕ) (fields : FieldList) (body : List ℕ) → IsRequestStart method target
    → Suits (start_line method target version) (with_length fields body) body → length body < 2 ^ 64
    → IsMessage Request (message_text (start_line method target version) fields body) (request_parts method target (with_length fields body)) body
request_is_message method target fields body start suits small = record {
  head = head_text (start_line method target version) (with_length fields body);
  whole = refl;
  is_head = request_is_head method target (with_length fields body) body start suits;
  has_parts = request_has_parts method target (with_length fields body) start suits.plain;
  framed = framed Request (start_line method target version) (with_length fields body) body suits small;
}

-- ---- a reply

pub record IsReplyStart (status : ℕ) (phrase : List ℕ) : Type 0 where
  pub digits : AllPass is_ascii_digit (code_digits status)
  pub value : digits_value 10 (code_digits status) ≡ status
  pub is_phrase : AllPass is_value_byte phrase

abbrev pub reply_head : ℕ → List ℕ → FieldList → ResponseHead
reply_head status phrase fields = record {
  blank = [];
  minor = 1;
  digits = code_digits status;
  reason = Some phrase;
  line_end = crlf;
  fields = map written_field fields;
  last = crlf;
}

abbrev pub reply_parts : ℕ → FieldList → Parts
reply_parts status fields = record { method = []; target = []; status = status; minor = 1; fields = fields }

reads_reply : (status : ℕ) (phrase : List ℕ) (fields : FieldList) → IsReplyStart status phrase → ArePlainFields fields
    → ReadsResponse (head_text (start_line version (code_digits status) phrase) fields) (reply_head status phrase fields) []
unfolding print_response
reads_reply status phrase fields start plain = (
  record { minor = omega arith; digits = (refl, start.digits); reason = start.is_phrase; fields = are_fields fields plain },
  printed_head (start_line version (code_digits status) phrase) fields,
)

reply_has_parts : (status : ℕ) (phrase : List ℕ) (fields : FieldList) → IsReplyStart status phrase → ArePlainFields fields
    → HasParts Reply (head_text (start_line version (code_digits status) phrase) fields) (reply_parts status fields)
reply_has_parts status phrase fields start plain = (
  reply_head status phrase fields,
  reads_reply status phrase fields start plain,
  ap (λ (n : ℕ). reply_parts n fields) (sym start.value)
      ∙ ap (λ (found : FieldList). reply_parts (digits_value 10 (code_digits status)) found) (sym (parts_written fields plain)),
)

reply_is_head : (status : ℕ) (phrase : List ℕ) (fields : FieldList) (body : List ℕ) → IsReplyStart status phrase
    → Suits (start_line version (code_digits status) phrase) fields body
    → IsHead Reply (head_text (start_line version (code_digits status) phrase) fields)
reply_is_head status phrase fields body start suits = record {
  reads = (
    reply_head status phrase fields,
    reads_reply status phrase fields start suits.plain,
    omega (arith, length-map-written fields, suits.few),
  );
  fits = within (start_line version (code_digits status) phrase) fields body suits;
}

pub reply_is_message : (status : ℕ) (phrase : List ℕ) (fields : FieldList) (body : List ℕ) → IsReplyStart status phrase
    → Suits (start_line version (code_digits status) phrase) (with_length fields body) body → length body < 2 ^ 64
    → IsMessage Reply (message_text (start_line version (code_digits status) phrase) fields body) (reply_parts status (with_length fields body)) body
reply_is_message status phrase fields body start suits small = record {
  head = head_text (start_line version (code_digits status) phrase) (with_length fields body);
  whole = refl;
  is_head = reply_is_head status phrase (with_length fields body) body start suits;
  has_parts = reply_has_parts status phrase (with_length fields body) start suits.plain;
  framed = framed Reply (start_line version (code_digits status) phrase) (with_length fields body) body suits small;
}
