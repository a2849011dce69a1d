-- What is written of a request is a message that a server reads as it is meant.
use Rattle.std.proofs.Common.{◌≡◌, ℕ, ◌<◌, ◌≤◌, ◌^◌, Bool, true, List, [], ◌∷◌, length, codes, Option, refl, inl, inr, arith, length-append, lit≤}
use Rattle.std.proofs.lemmas.Bool.Decides.{nat_tests}
use Rattle.std.proofs.lemmas.Fmt.{length-decimal-le}
use Rattle.std.proofs.lemmas.List.Elements.{All-append, All-cons, All-weaker}
use Rattle.std.proofs.lemmas.Str.{IsUtf8-from_ascii}
use Rattle.std.proofs.lemmas.Str.Ascii.{IsAscii-from_all}
use Rattle.std.specs.Char.{is_ascii_digit}
use Rattle.std.specs.Fmt.{decimal}
use Rattle.std.specs.List.{list_all}
use Rattle.http_header.proofs.TokenLemmas.{AllPass-from_test}
use Rattle.httparse.specs.Grammar.{AllPass, is_token_byte, is_uri_byte, IsToken}
use Rattle.sz_base.proofs.Numerals.{IsDecimal-decimal}
use Rattle.sz_base.specs.Host.{IsHost, is_ipv6_byte, is_name_byte}
use Rattle.sz_base.specs.Serial.{IsSerial, is_serial_byte}
use Rattle.sz_base.specs.Target.{target_text}
use Rattle.sz_base.specs.declared.target.Target.{Target}
use Rattle.sz_http.specs.Framing.{content_length}
use Rattle.sz_json.specs.Bounded.{IsBoundedJson}
use Rattle.sz_rest.proofs.Fields.{ArePlainFields, is_visible, IsPlainField}
use Rattle.sz_rest.proofs.Messages.{IsRequestStart, request_is_message, request_parts, Suits}
use Rattle.sz_rest.specs.Asked.{AsksFor}
use Rattle.sz_rest.specs.Message.{message_text, with_length, yang_json}
use Rattle.sz_rest.specs.Request.{AreFormed, operation_path, post, request_fields, request_line, request_value, serial_field}

-- ---- bytes that are seen

name_byte : (byte : ℕ) → is_name_byte byte ≡ true → is_visible byte ≡ true
name_byte byte h = grind (arith, nat_tests)

ipv6_byte : (byte : ℕ) → is_ipv6_byte byte ≡ true → is_visible byte ≡ true
ipv6_byte byte h = grind (arith, nat_tests)

serial_byte : (byte : ℕ) → is_serial_byte byte ≡ true → is_visible byte ≡ true
serial_byte byte h = grind (arith, nat_tests)

digit : (byte : ℕ) → is_ascii_digit byte ≡ true → is_visible byte ≡ true
digit byte h = grind (arith, nat_tests)

abbrev Visible : ℕ → Type 0
Visible byte = is_visible byte ≡ true

seen : (test : ℕ → Bool) → ((byte : ℕ) → test byte ≡ true → Visible byte) → (text : List ℕ) → AllPass test text → AllPass is_visible text
seen test each text h = All-weaker (λ b. test b ≡ true) Visible each text h

host_seen : (host : List ℕ) → IsHost host → AllPass is_visible host
host_seen host (inl name) = seen is_name_byte name_byte host name.allowed
host_seen host (inr (inner, brackets, text)) =
    let inside = seen is_ipv6_byte ipv6_byte inner text.allowed in
    rw brackets (All-cons Visible 91 _ refl (All-append Visible inner (93 ∷ []) inside (AllPass-from_test is_visible (93 ∷ []) refl)))

pub number_seen : (n : ℕ) → n < 2 ^ 64 → AllPass is_visible (decimal n)
number_seen n h = seen is_ascii_digit digit (decimal n) (IsDecimal-decimal n h).form.digits

target_seen : (target : Target) → IsHost target.host → target.port < 2 ^ 16 → AllPass is_visible (target_text target)
target_seen target host port =
    All-append Visible target.host (58 ∷ decimal target.port) (host_seen target.host host)
    (All-cons Visible 58 (decimal target.port) refl (number_seen target.port (omega arith)))

-- ---- lengths

host_short : (host : List ℕ) → IsHost host → length host ≤ 255
host_short host (inl name) = name.most
host_short host (inr (inner, brackets, text)) = rw brackets (omega (arith, length-append inner (93 ∷ []), text.most))

pub number_short : (n : ℕ) → n < 2 ^ 64 → length (decimal n) ≤ 20
number_short n h = length-decimal-le 20 n (omega arith) (omega arith) h

target_short : (target : Target) → IsHost target.host → target.port < 2 ^ 16 → length (target_text target) ≤ 276
target_short target host port =
    omega (
      arith,
      length-append target.host (58 ∷ decimal target.port),
      host_short target.host host,
      number_short target.port (omega arith),
    )

-- ---- the message

token : (name : List ℕ) → 0 < length name → list_all is_token_byte name ≡ true → IsToken name
token name some h = (some, AllPass-from_test is_token_byte name h)

pub plain_length : (body : List ℕ) → length body < 2 ^ 64 → IsPlainField (content_length, decimal (length body))
unfolding is_token_byte
plain_length body small = record { name = token content_length (omega arith) refl; value = number_seen (length body) small }

pub plain_type : IsPlainField (codes "Content-Type", yang_json)
unfolding is_token_byte
plain_type = record { name = token (codes "Content-Type") (omega arith) refl; value = AllPass-from_test is_visible yang_json refl }

plain_fields : (target : Target) (serial body : List ℕ) → IsHost target.host → target.port < 2 ^ 16 → IsSerial serial → length body < 2 ^ 64
    → ArePlainFields (with_length (request_fields target serial) body)
unfolding is_token_byte
plain_fields target serial body host port is_serial small = (
  record { name = token (codes "Host") (omega arith) refl; value = target_seen target host port },
  (
    record { name = token serial_field (omega arith) refl; value = seen is_serial_byte serial_byte serial is_serial.allowed },
    (
      plain_type,
      (
        record { name = token (codes "Accept") (omega arith) refl; value = AllPass-from_test is_visible yang_json refl },
        (
          record { name = token (codes "Connection") (omega arith) refl; value = AllPass-from_test is_visible (codes "close") refl },
          (plain_length body small, tt),
        ),
      ),
    ),
  ),
)

suits : (target : Target) (serial body : List ℕ) → IsHost target.host → target.port < 2 ^ 16 → IsSerial serial → length body < 2 ^ 64
    → Suits request_line (with_length (request_fields target serial) body) body
suits target serial body host port is_serial small = record {
  plain = plain_fields target serial body host port is_serial small;
  few = lit≤ tt;
  short = omega (arith, target_short target host port, is_serial.most, number_short (length body) small);
  one_length = refl;
  not_chunked = refl;
  not_coded = refl;
}

starts : IsRequestStart post operation_path
unfolding is_token_byte
starts = record {
  is_token = token post (omega arith) refl;
  some = omega arith;
  is_target = AllPass-from_test is_uri_byte operation_path refl;
  is_text = IsUtf8-from_ascii operation_path (IsAscii-from_all operation_path
      (All-weaker (λ b. is_visible b ≡ true) (λ b. b < 128) below operation_path (AllPass-from_test is_visible operation_path refl)));
}
  where
    below : (byte : ℕ) → is_visible byte ≡ true → byte < 128
    below byte h = grind (arith, nat_tests)

pub asks : (target : Target) (serial : List ℕ) (nonce : Option (List ℕ)) (body : List ℕ) → AreFormed target serial
    → length body < 2 ^ 64 → IsBoundedJson body (request_value nonce) → AsksFor serial (message_text request_line (request_fields target serial) body)
asks target serial nonce body formed small json = (
  request_parts post operation_path (with_length (request_fields target serial) body),
  body,
  request_is_message post operation_path (request_fields target serial) body starts
      (suits target serial body formed.host formed.port formed.form small) small,
  record { target = refl; method = refl; device = record { one = refl; form = formed.form }; input = inr (request_value nonce, json, refl) },
)
