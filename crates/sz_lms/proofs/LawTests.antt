-- The first test that fails: over one more test, over joined lists, and where types are known.
use Rattle.std.proofs.Common.{◌≡◌, Bool, true, false, cond, List, [], ◌∷◌, ◌++◌, Option, Some, None, sym, refl}
use Rattle.std.proofs.lemmas.Bool.{false≢true}
use Rattle.std.proofs.lemmas.Option.{none-some}
use Rattle.sz_lms.specs.Rules.{Rule, Scheme, first_failing, where_known}

-- no test fails
abbrev pub Pass : List (Bool × Rule) → Type 0
Pass tests = first_failing tests ≡ None

chosen : {A : Type 0} (b : Bool) (rest : Option A) (x : A) → cond b rest (Some x) ≡ None → (b ≡ true) × (rest ≡ None)
chosen true rest x h = (refl, h)
chosen false rest x h = absurd (none-some x (sym h))

pub pass_one : (b : Bool) (r : Rule) (tests : List (Bool × Rule)) → Pass ((b, r) ∷ tests) → (b ≡ true) × Pass tests
unfolding first_failing
pass_one b r tests h = chosen b (first_failing tests) r h

pub one_passes : (b : Bool) (r : Rule) (tests : List (Bool × Rule)) → b ≡ true → Pass tests → Pass ((b, r) ∷ tests)
unfolding first_failing
one_passes b r tests t h = rw t h

pub none_passes : Pass []
unfolding first_failing
none_passes = refl

pub pass_append : (front back : List (Bool × Rule)) → Pass (front ++ back) → Pass front × Pass back
unfolding first_failing
pass_append [] back h = (refl, h)
pass_append (test ∷ front) back h =
    let parts = chosen test.0 (first_failing (front ++ back)) test.1 h in
    let rest = pass_append front back parts.1 in
    (rw parts.0 rest.0, rest.1)

pub append_passes : (front back : List (Bool × Rule)) → Pass front → Pass back → Pass (front ++ back)
unfolding first_failing
append_passes [] back f h = h
append_passes (test ∷ front) back f h =
    let parts = chosen test.0 (first_failing front) test.1 f in
    rw parts.0 (append_passes front back parts.1 h)

-- ---- where types are known

pub pass_known : {T : Type 0} (o : Option T) (rules : T → List (Bool × Rule)) → Pass (where_known o rules)
    → (type : T) × (o ≡ Some type) × Pass (rules type)
pass_known None rules h = absurd (false≢true (pass_one false Scheme [] h).0)
pass_known (Some type) rules h = (type, refl, h)

pub known_passes : {T : Type 0} (o : Option T) (rules : T → List (Bool × Rule)) (type : T) → o ≡ Some type
    → Pass (rules type) → Pass (where_known o rules)
known_passes o rules type e h = rw e h

-- the tests of known types, once it is known which
pub pass_at : {T : Type 0} (o : Option T) (rules : T → List (Bool × Rule)) (type : T) → o ≡ Some type
    → Pass (where_known o rules) → Pass (rules type)
pass_at o rules type e h = rw e at h
