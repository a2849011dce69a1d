-- Lists of rules, test by test.
use Rattle.std.proofs.Common.{◌≡◌, ℕ, ◌<◌, ◌≤◌, Bool, true, false, List, [], ◌∷◌, ◌++◌, Option, Some, None, Result, Ok, Err, nat_le, nat_eq, ◌↔◌, refl, sym, ◌∙◌, arith}
use Rattle.std.specs.Result.{IsOk}
use Rattle.sz_lms.specs.declared.fault.HssFault.{HssFault}
use Rattle.sz_lms.specs.View.{broken_rule}
use Rattle.sz_lms.specs.Rules.{Rule, Scheme, TreeType, first_failing, where_known}

pub test-fails : (test : Bool) (rule : Rule) (rest : List (Bool × Rule)) → test ≡ false → Some rule ≡ first_failing ((test, rule) ∷ rest)
unfolding first_failing
test-fails test rule rest e = rw e refl

pub test-passes : (test : Bool) (rule : Rule) (rest : List (Bool × Rule)) → test ≡ true → first_failing ((test, rule) ∷ rest) ≡ first_failing rest
unfolding first_failing
test-passes test rule rest e = rw e refl

pub nat_le-true : (a b : ℕ) → a ≤ b → nat_le a b ≡ true
nat_le-true a b h = grind arith

pub nat_le-false : (a b : ℕ) → b < a → nat_le a b ≡ false
nat_le-false a b h = grind arith

-- a rule that fails in front of others is the first
pub front-fails : (front rest : List (Bool × Rule)) (rule : Rule) → first_failing front ≡ Some rule → first_failing (front ++ rest) ≡ Some rule
unfolding first_failing
front-fails [] rest rule e = cc
front-fails ((true, r) ∷ front) rest rule e = front-fails front rest rule e
front-fails ((false, r) ∷ front) rest rule e = e

-- rules that hold in front of others can be left out
pub front-passes : (front rest : List (Bool × Rule)) → first_failing front ≡ None → first_failing (front ++ rest) ≡ first_failing rest
unfolding first_failing
front-passes [] rest e = refl
front-passes ((true, r) ∷ front) rest e = front-passes front rest e
front-passes ((false, r) ∷ front) rest e = cc

-- where the types are unknown, that is the rule
pub unknown : (types : Option TreeType) (tests : TreeType → List (Bool × Rule)) → None ≡ types →
    Some Scheme ≡ first_failing (where_known types tests)
unfolding first_failing
unknown None tests e = refl
unknown (Some type) tests e = cc

pub known : (types : Option TreeType) (type : TreeType) (tests : TreeType → List (Bool × Rule)) → types ≡ Some type →
    where_known types tests ≡ tests type
known types type tests e = rw e refl

-- one test alone
pub alone-passes : (test : Bool) (rule : Rule) → test ≡ true → None ≡ first_failing ((test, rule) ∷ [])
unfolding first_failing
alone-passes test rule e = rw e refl

pub alone-fails : (test : Bool) (rule : Rule) → test ≡ false → Some rule ≡ first_failing ((test, rule) ∷ [])
alone-fails test rule e = test-fails test rule [] e

pub equal-true : (a b : ℕ) → a ≡ b → nat_eq a b ≡ true
equal-true a b e = grind arith

pub equal-false : (a b : ℕ) → (a ≡ b → ⊥) → nat_eq a b ≡ false
equal-false a b h = grind arith

-- an answer that names no rule is an Ok
pub unbroken : {T : Type 0} (r : Result T HssFault) → broken_rule r ≡ None → IsOk r
unbroken (Ok x) e = refl
unbroken (Err fault) e = cc

unbroken-ok : {T : Type 0} (r : Result T HssFault) → IsOk r → broken_rule r ≡ None
unbroken-ok (Ok x) e = refl
unbroken-ok (Err fault) e = cc

-- an answer that is the first of some rules is Ok exactly where they say what is valid
pub ok-iff : {T : Type 0} (r : Result T HssFault) (first : Option Rule) (P : Type 0) →
    broken_rule r ≡ first → ((first ≡ None) ↔ P) → (IsOk r ↔ P)
ok-iff r first P e law = (λ ok. law.0 (sym e ∙ unbroken-ok r ok), λ p. unbroken r (e ∙ law.1 p))
