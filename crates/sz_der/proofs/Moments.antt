-- Seconds of times that texts name.
use Rattle.std.proofs.Common.{◌≡◌, Option, Some, None, sym, subst, ap, ℤ}
use Rattle.std.specs.Option.{SomeIff}
use Rattle.sz_calendar.specs.CivilTime.{CivilTime, IsReal, unix_seconds}

-- the answer for a real time
some : (answer : Option ℤ) (time : CivilTime) → IsReal time → SomeIff answer (IsReal time) (unix_seconds time) → answer ≡ Some (unix_seconds time)
some None time real iff = absurd (iff real)
some (Some seconds) time real iff = ap (λ (x : ℤ). Some x) iff.1

pub some_from_SomeIff : (answer : Option ℤ) (time read : CivilTime) → time ≡ read → IsReal time → SomeIff answer (IsReal read) (unix_seconds read) →
    answer ≡ Some (unix_seconds time)
some_from_SomeIff answer time read same real iff =
    let iffs : CivilTime → Type 0 = λ (t : CivilTime). SomeIff answer (IsReal t) (unix_seconds t) in
    some answer time real (subst iffs (sym same) iff)
