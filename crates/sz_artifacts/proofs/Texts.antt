-- A host is ASCII, and so UTF-8.
use Rattle.std.proofs.Common.{◌≡◌, ℕ, ◌<◌, true, List, ◌++◌, ◌∷◌, [], inl, inr, arith}
use Rattle.std.proofs.lemmas.Bool.Decides.{nat_tests}
use Rattle.std.proofs.lemmas.Str.{IsUtf8-from_ascii}
use Rattle.std.proofs.lemmas.Str.Ascii.{IsAscii-cons, IsAscii-from_all, IsAscii-push}
use Rattle.std.specs.List.{AllPass}
use Rattle.std.specs.Prelude.{IsUtf8}
use Rattle.std.specs.Str.{IsAscii}
use Rattle.sz_base.specs.Host.{in_brackets, is_ipv6_byte, is_name_byte, IsHost}

name_byte_ascii : (byte : ℕ) → is_name_byte byte ≡ true → byte < 128
name_byte_ascii byte h = grind (arith, nat_tests)

ipv6_byte_ascii : (byte : ℕ) → is_ipv6_byte byte ≡ true → byte < 128
ipv6_byte_ascii byte h = grind (arith, nat_tests)

name_ascii : (text : List ℕ) → AllPass is_name_byte text → IsAscii text
name_ascii text h = IsAscii-from_all text (λ k d within. name_byte_ascii _ (h k d within))

ipv6_ascii : (text : List ℕ) → AllPass is_ipv6_byte text → IsAscii text
ipv6_ascii text h = IsAscii-from_all text (λ k d within. ipv6_byte_ascii _ (h k d within))

pub host_is_utf8 : (host : List ℕ) → IsHost host → IsUtf8 host
host_is_utf8 host h = elim h [
  | inl name ↦ IsUtf8-from_ascii host (name_ascii host name.allowed)
  | inr brackets ↦
      let within : IsAscii (in_brackets brackets.0) =
      IsAscii-cons 91 (brackets.0 ++ 93 ∷ []) (omega arith) (IsAscii-push brackets.0 93 (ipv6_ascii brackets.0 brackets.2.allowed) (omega arith)) in
      IsUtf8-from_ascii host (rw brackets.1 within)
]
