-- Which calls of an object fail.
use Rattle.std.specs.Prelude.{ℕ, List, Bool, if◌then◌else◌, Contains}
use Rattle.sz_spec.specs.Cause.{risen}

-- The numbers of the calls that fail, counted from 1 over all calls of the object; how many calls there
-- were; how many of them failed.
pub record Plan : Type 0 where
  pub fail : List ℕ
  pub calls : ℕ
  pub faults : ℕ

-- one more, where a count stands still at its end
abbrev pub one_more : ℕ → ℕ
one_more count = risen count 1

-- no call was made yet
abbrev pub first_plan : List ℕ → Plan
first_plan fail = record { fail = fail; calls = 0; faults = 0 }

-- the next call is one of those that fail
abbrev pub FailsNext : Plan → Type 0
FailsNext plan = Contains plan.fail (one_more plan.calls)

-- one call later, which failed or did not
abbrev pub after_call : Plan → Bool → Plan
after_call plan failed = record {
  fail = plan.fail;
  calls = one_more plan.calls;
  faults = if failed then one_more plan.faults else plan.faults;
}
