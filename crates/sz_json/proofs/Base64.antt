-- The form of bytes is base64 as RFC 4648 has it.
use Rattle.std.proofs.Common.{◌≡◌, ℕ, ◌<◌, ◌&&◌, Bool, true, false, List, [], ◌∷◌, Option, Some, None, option_and_then, nat_lt, if◌then◌else◌, zero, suc, refl, subst, inl, inr, arith}
use Rattle.std.proofs.lemmas.Bool.{cases_Bool}
use Rattle.std.proofs.lemmas.Bool.Decides.{nat_tests}
use Rattle.std.proofs.lemmas.Slice.Eq.{bytes_eq-Decides}
use Rattle.std.specs.List.{list_all}
use Rattle.std.specs.Result.{result_ok}
use Rattle.base64.specs.Engines.{standard}
use Rattle.base64.specs.GeneralPurpose.{decode_of, IsBytes}
use Rattle.sz_base.proofs.Padded.{decodes}
use Rattle.sz_base.specs.Encoding.{base64_text, IsBase64}
use Rattle.sz_json.specs.Form.{base64_of, is_base64}

abbrev octets : List ℕ → Bool
octets bytes = list_all (λ byte. nat_lt byte 256) bytes

are_bytes : (bytes : List ℕ) → octets bytes ≡ true → IsBytes bytes
are_bytes [] h i = omega arith
are_bytes (byte ∷ bytes) h zero = grind (arith, nat_tests)
are_bytes (byte ∷ bytes) h (suc i) = are_bytes bytes (grind (arith, nat_tests)) i

pass_as_bytes : (bytes : List ℕ) → IsBytes bytes → octets bytes ≡ true
pass_as_bytes [] h = refl
pass_as_bytes (byte ∷ bytes) h =
    let first : byte < 256 = h 0 in
    let rest = pass_as_bytes bytes (λ i. h (suc i)) in
    grind (arith, nat_tests)

-- the text of bytes has the form, for them
pub base64_of-text : (text bytes : List ℕ) → IsBase64 text bytes → base64_of text ≡ Some bytes
unfolding base64_of
base64_of-text text bytes h =
    let all = pass_as_bytes bytes h.bytes_fit in
    let same = (bytes_eq-Decides text (base64_text bytes)).1 h.spelled in
    rw (decodes text bytes h, all, same)

kept : {A : Type 0} (p : A → Bool) (o : Option A) (x : A) → option_and_then (λ found. if p found then Some found else None) o ≡ Some x → p x ≡ true
kept p None x h = cc
kept p (Some found) x h = elim (cases_Bool (p found)) [
  | inl passes ↦ let same : found ≡ x = cc (rw passes at h) in subst (λ y. p y ≡ true) same passes
  | inr fails ↦ cc (rw fails at h)
]

both : (p q : Bool) → (p && q) ≡ true → (p ≡ true) × (q ≡ true)
both true q h = (refl, h)
both false q h = cc

-- a text that has the form, has it for its bytes
pub IsBase64-base64_of : (text bytes : List ℕ) → base64_of text ≡ Some bytes → IsBase64 text bytes
unfolding base64_of
IsBase64-base64_of text bytes h =
    let tests = both _ _ (kept (is_base64 text) (result_ok (decode_of standard text)) bytes h) in
    record { bytes_fit = are_bytes bytes tests.0; spelled = (bytes_eq-Decides text (base64_text bytes)).0 tests.1 }

none_from : {A : Type 0} (o : Option A) → ((x : A) → o ≡ Some x → ⊥) → o ≡ None
none_from None h = refl
none_from (Some x) h = absurd (h x refl)

-- any other text has it not
pub base64_of-none : (text : List ℕ) → ((bytes : List ℕ) → IsBase64 text bytes → ⊥) → base64_of text ≡ None
base64_of-none text h = none_from (base64_of text) (λ bytes e. h bytes (IsBase64-base64_of text bytes e))

-- what is read as bytes is read again from their text
pub base64_of-again : (text : Option (List ℕ)) (bytes : List ℕ) → option_and_then base64_of text ≡ Some bytes → base64_of (base64_text bytes) ≡ Some bytes
base64_of-again None bytes h = cc
base64_of-again (Some text) bytes h =
    let is = IsBase64-base64_of text bytes h in
    base64_of-text (base64_text bytes) bytes (record { bytes_fit = is.bytes_fit; spelled = refl })
