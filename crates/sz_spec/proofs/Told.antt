-- Relations between two optional meanings.
use Rattle.std.proofs.Common.{◌≡◌, Option, Some, None}
use Rattle.std.specs.Option.{option_map}
use Rattle.sz_spec.specs.Told.{WhereTold}

-- what two calls in a row do to a meaning
pub WhereTold-join : {A : Type 0} → (P Q R : A → A → Type 0) (a b c : Option A) → ((x y z : A) → P x y → Q y z → R x z) → WhereTold P a b
    → WhereTold Q b c → WhereTold R a c
WhereTold-join P Q R None None c join first second = second
WhereTold-join P Q R None (Some y) c join first second = absurd (cc)
WhereTold-join P Q R (Some x) None c join first second = absurd first
WhereTold-join P Q R (Some x) (Some y) None join first second = absurd second
WhereTold-join P Q R (Some x) (Some y) (Some z) join first second = join x y z first second

-- a meaning to which something was done
pub WhereTold-map : {A : Type 0} → (P : A → A → Type 0) (change : A → A) (a b : Option A) → ((x : A) → P x (change x)) → b ≡ option_map change a
    → WhereTold P a b
WhereTold-map P change None b each same = same
WhereTold-map P change (Some x) b each same = rw same (each x)
