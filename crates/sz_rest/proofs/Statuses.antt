-- The statuses that are written: their digits, their phrases and how long their lines are.
use Rattle.std.proofs.Common.{◌≡◌, ◌==◌, ◌&&◌, ℕ, ◌≤◌, Bool, true, false, List, [], ◌∷◌, length, nat_le, nat_lt, unwrap_or, refl, subst, inl, inr}
use Rattle.std.proofs.lemmas.Bool.{cases_Bool, eqb-true, false≢true, leb-true, ltb-true}
use Rattle.std.specs.Char.{is_ascii_digit}
use Rattle.std.specs.List.{list_all, list_any}
use Rattle.std.specs.Str.Parse.{digits_value}
use Rattle.http.specs.StatusCode.{code_digits, IsStatusCode, reason_phrase}
use Rattle.http_header.proofs.TokenLemmas.{AllPass-from_test}
use Rattle.httparse.specs.Grammar.{is_value_byte}
use Rattle.sz_rest.proofs.Messages.{IsReplyStart}
use Rattle.sz_rest.specs.ReplyText.{IsRefusal, refusals, status_line}

abbrev pub phrase_of : ℕ → List ℕ
phrase_of status = unwrap_or (reason_phrase status) []

-- the status can be written
pub record IsKnown (status : ℕ) : Type 0 where
  pub code : IsStatusCode status
  pub start : IsReplyStart status (phrase_of status)
  pub short : length (status_line status) ≤ 50

-- the same as tests, which compute at a status
abbrev is_code : ℕ → Bool
is_code status = nat_le 100 status && nat_lt status 1000

abbrev is_start : ℕ → Bool
is_start status =
    digits_value 10 (code_digits status) == status
    && (list_all is_ascii_digit (code_digits status) && list_all is_value_byte (phrase_of status))

abbrev is_known : ℕ → Bool
is_known status = is_code status && (is_start status && nat_le (length (status_line status)) 50)

both : (p q : Bool) → (p && q) ≡ true → (p ≡ true) × (q ≡ true)
both true q h = (refl, h)
both false q h = cc

code_known : (status : ℕ) → is_code status ≡ true → IsStatusCode status
code_known status h = let parts = both _ _ h in (leb-true 100 status parts.0, ltb-true status 1000 parts.1)

start_known : (status : ℕ) → is_start status ≡ true → IsReplyStart status (phrase_of status)
start_known status h =
    let parts = both _ _ h in
    let bytes = both _ _ parts.1 in
    record {
      digits = AllPass-from_test is_ascii_digit (code_digits status) bytes.0;
      value = eqb-true (digits_value 10 (code_digits status)) status parts.0;
      is_phrase = AllPass-from_test is_value_byte (phrase_of status) bytes.1;
    }

known : (status : ℕ) → is_known status ≡ true → IsKnown status
known status h =
    let parts = both _ _ h in
    let more = both _ _ parts.1 in
    record {
      code = code_known status parts.0;
      start = start_known status more.0;
      short = leb-true (length (status_line status)) 50 more.1;
    }

pub known_200 : IsKnown 200
known_200 = known 200 refl

-- what passes for each of the list passes for one that is among them
among : (test : ℕ → Bool) (list : List ℕ) (status : ℕ) → list_all test list ≡ true → list_any (λ x. x == status) list ≡ true
    → test status ≡ true
among test [] status all h = absurd (false≢true h)
among test (x ∷ xs) status all h =
    let parts = both _ _ all in
    elim (cases_Bool (x == status)) [
      | inl same ↦ subst (λ n. test n ≡ true) (eqb-true x status same) parts.0
      | inr other ↦ among test xs status parts.1 (rw other at h)
    ]

pub refusal_known : (status : ℕ) → IsRefusal status → IsKnown status
refusal_known status h = known status (among is_known refusals status refl h)
