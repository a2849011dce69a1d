-- A text, split at its last colon.
use Rattle.std.proofs.Common.{◌≡◌, ◌≢◌, ℕ, suc, Result, Ok, Err, ◌+◌, ◌-◌, ◌<◌, true, List, [], ◌∷◌, ◌++◌, length, get_or, take, drop, refl, sym, ap, ◌∙◌, arith, inl, inr, length-append}
use Rattle.std.specs.Char.{is_ascii_digit}
use Rattle.std.specs.List.{AllPass}
use Rattle.std.proofs.lemmas.Bool.{cases_lt}
use Rattle.std.proofs.lemmas.List.{append_assoc, drop_at, drop_more, get_or-append-add, get_or_at, take-append-drop, take_at}
use Rattle.std.specs.Prelude.{◌↔◌}
use Rattle.sz_base.specs.Host.{IsHost}
use Rattle.sz_base.specs.declared.fault.BaseFault.{BaseFault}
use Rattle.sz_base.specs.declared.fault.BaseFault.TheVariants.{Form, OutOfMemory}
use Rattle.sz_base.specs.Byte.{IsLastColon}
use Rattle.sz_base.specs.Reading.{GivesUnlessMemory, ReadsValue}
use Rattle.sz_base.specs.Target.{IsPort, IsTarget, target_text}
use Rattle.sz_base.proofs.Numerals.{IsDecimal-text}
use Rattle.sz_base.specs.declared.target.Target.{Target}

-- no digit is a colon
no_colon : (digits : List ℕ) (k : ℕ) → AllPass is_ascii_digit digits → k < length digits → get_or digits k 0 ≢ 58
no_colon digits k allowed inside e =
    let digit = allowed k 0 inside in
    let colon : is_ascii_digit 58 ≡ true = rw e at digit in
    cc colon

-- a colon behind the split would be a digit
no_colon_behind : (host digits : List ℕ) (k n : ℕ) → AllPass is_ascii_digit digits → n < length digits
    → k ≡ length host + suc n → get_or (host ++ 58 ∷ digits) k 0 ≢ 58
no_colon_behind host digits k n allowed inside place e =
    let here = rw place at e in
    no_colon digits n allowed inside (sym (get_or-append-add host (58 ∷ digits) (suc n) 0) ∙ here)

-- with digits alone behind it, a colon is the last
digits_follow : (host digits : List ℕ) → AllPass is_ascii_digit digits → IsLastColon (host ++ 58 ∷ digits) (length host)
digits_follow host digits allowed =
    let size = length-append host (58 ∷ digits) in
    record {
      inside = omega (arith, size);
      colon = get_or_at host 58 digits 0 (length host) refl;
      last = λ k after inside.
          no_colon_behind host digits k (k - length host - 1) allowed (omega (arith, size)) (omega arith);
    }

-- there is one last colon
one_last : (text : List ℕ) (m n : ℕ) → IsLastColon text m → IsLastColon text n → m ≡ n
one_last text m n a b =
    elim (cases_lt m n) [
      | inl below ↦ absurd (a.last n below b.inside b.colon)
      | inr above ↦
          elim (cases_lt n m) [
            | inl below ↦ absurd (b.last m below a.inside a.colon)
            | inr same ↦ omega arith
          ]
    ]

-- the two sides of the last colon
pub sides : (text host digits : List ℕ) (place : ℕ) → text ≡ host ++ 58 ∷ digits → AllPass is_ascii_digit digits
    → IsLastColon text place → (host ≡ take place text) × (digits ≡ drop (place + 1) text)
sides text host digits place e allowed last =
    let here = digits_follow host digits allowed in
    let there = rw e at last in
    let same : length host ≡ place = one_last (host ++ 58 ∷ digits) (length host) place here there in
    let front : length (host ++ 58 ∷ []) ≡ place + 1 = omega (arith, length-append host (58 ∷ []), same) in
    let whole : text ≡ (host ++ 58 ∷ []) ++ digits = e ∙ sym (append_assoc host (58 ∷ []) digits) in (
      rw e (sym (take_at host (58 ∷ digits) place same)),
      rw whole (sym (drop_at (host ++ 58 ∷ []) digits (place + 1) front)),
    )

-- a text with a colon, as what stands before it and behind it
at_colon : (text : List ℕ) (place : ℕ) → place < length text → get_or text place 0 ≡ 58
    → text ≡ take place text ++ 58 ∷ drop (place + 1) text
at_colon text place inside colon =
    let rest = drop_more text place 0 inside in
    sym (take-append-drop place text) ∙ ap (λ (xs : List ℕ). take place text ++ xs) (rw colon at rest)

-- without a colon there is no target
pub no_target : (text : List ℕ) → ((k : ℕ) → k < length text → get_or text k 0 ≢ 58)
    → (target : Target) → IsTarget target text → ⊥
no_target text none target h =
    let last = digits_follow target.host h.digits h.port.decimal.form.digits in
    let here = rw (← h.split) at last in
    none (length target.host) here.inside here.colon

-- a target's host and port, by the last colon of its text
pub target_host : (text : List ℕ) (place : ℕ) → IsLastColon text place → (target : Target) → IsTarget target text
    → target.host ≡ take place text
target_host text place last target h =
    (sides text target.host h.digits place h.split h.port.decimal.form.digits last).0

pub target_port : (text : List ℕ) (place : ℕ) → IsLastColon text place → (target : Target) → IsTarget target text
    → IsPort (drop (place + 1) text) target.port
target_port text place last target h =
    let digits = (sides text target.host h.digits place h.split h.port.decimal.form.digits last).1 in
    rw digits at h.port

-- a host before the last colon and a port behind it are a target
pub made_target : (text : List ℕ) (place port : ℕ) → IsLastColon text place → IsHost (take place text)
    → IsPort (drop (place + 1) text) port → IsTarget (record { host = take place text; port = port }) text
made_target text place port last host behind = record {
  digits = drop (place + 1) text;
  split = at_colon text place last.inside last.colon;
  host = host;
  port = behind;
}

abbrev host_refusal : BaseFault → Result (List ℕ) BaseFault
host_refusal fault = Err fault

abbrev target_refusal : BaseFault → Result Target BaseFault
target_refusal fault = Err fault

-- where a port stands behind the last colon, the host's refusal is the target's
pub refused_with_host : (text : List ℕ) (place port : ℕ) → IsLastColon text place
    → IsPort (drop (place + 1) text) port → (fault : BaseFault)
    → ((host_refusal fault ≡ host_refusal Form) ↔ ¬ (IsHost (take place text)))
    → ((target_refusal fault ≡ target_refusal Form) ↔ ((target : Target) → ¬ (IsTarget target text)))
refused_with_host text place port last behind fault host = (
  λ e target h.
      let same : fault ≡ Form = cc e in
      let none = host.0 (ap host_refusal same) in
      let host_is = target_host text place last target h in
      none (rw host_is at h.host),
  λ none.
      let same : fault ≡ Form =
      let e = host.1 (λ h. none _ (made_target text place port last h behind)) in cc e in
      ap target_refusal same,
)

-- the place of the last colon in a target's text
target_place : (target : Target) (text : List ℕ) → IsTarget target text → IsLastColon text (length target.host)
target_place target text h =
    let last = digits_follow target.host h.digits h.port.decimal.form.digits in
    let split = sym h.split in
    rw split at last

same_target : (a b : Target) → a.host ≡ b.host → a.port ≡ b.port → a ≡ b
same_target a b hosts ports =
    let with_host : List ℕ → Target = λ host. record { host = host; port = a.port } in
    let with_port : ℕ → Target = λ port. record { host = b.host; port = port } in
    ap with_host hosts ∙ ap with_port ports

-- a text is one target
pub one_target : (text : List ℕ) (a b : Target) → IsTarget a text → IsTarget b text → a ≡ b
one_target text a b ha hb =
    let place = target_place a text ha in
    let hosts = target_host text (length a.host) place a ha ∙ sym (target_host text (length a.host) place b hb) in
    let port_a = target_port text (length a.host) place a ha in
    let port_b = target_port text (length a.host) place b hb in
    same_target a b hosts (port_a.decimal.value ∙ sym port_b.decimal.value)

-- and a target has one text
pub one_target_text : (target : Target) (text : List ℕ) → IsTarget target text → text ≡ target_text target
one_target_text target text h =
    let high = h.port.high in
    let digits = IsDecimal-text h.digits target.port h.port.decimal (omega (arith, high)) in
    h.split ∙ ap (λ (xs : List ℕ). target.host ++ 58 ∷ xs) (sym digits)

abbrev ok_target : Target → Result Target BaseFault
ok_target target = Ok target

-- what is read is the target that the text stands for
pub target_again : (target : Target) (text : List ℕ) (answer : Result Target BaseFault) → IsTarget target text
    → ReadsValue (λ read. IsTarget read text) answer → GivesUnlessMemory answer target
target_again target text (Ok read) h reads = inl (ap ok_target (one_target text read target reads.ok h))
target_again target text (Err Form) h reads = absurd (reads.refused.0 refl target h)
target_again target text (Err OutOfMemory) h reads = inr refl
