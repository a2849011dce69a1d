use Rattle.std.proofs.Common.{◌≡◌, ◌-◌, ◌*◌, ◌^◌, ◌≤◌, sum_by}
use Rattle.sz_lms.specs.Bits.{digits}
use Rattle.sz_lms.specs.View.{facts_of}
use Rattle.sz_lms.proofs.digits.missing_sum.Given as goal

abbrev pub invariant-loop-i : goal.invariant-loop-i
invariant-loop-i l = record {
  sum : l.missing ≡ sum_by (λ one. 2 ^ (facts_of l.kind).width - 1 - one) (digits (facts_of l.kind).width l.i l.digest);
  small : l.missing ≤ (2 ^ (facts_of l.kind).width - 1) * l.i;
}
