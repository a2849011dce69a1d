use Rattle.std.proofs.Common.{◌≡◌, ◌-◌, ◌^◌, ◌∙◌, refl, sym, zero-add, arith}
use Rattle.std.proofs.lemmas.List.FromFn.{sum_by-map-range_with_len_more}
use Rattle.sz_lms.specs.Bits.{digit}
use Rattle.sz_lms.specs.View.{facts_of}
use Rattle.sz_lms.proofs.digits.missing_sum.Goals as goal

pub loop-i-preserved : goal.loop-i-preserved
loop-i-preserved c =
    let w = (facts_of c.args.kind).width in
    let here = c.loop-i in
    let more = sum_by-map-range_with_len_more (λ one. 2 ^ w - 1 - one) (digit w c.args.digest.now) 0 here.i here.i (zero-add here.i) in
    let step : c.from-missing.result ≡ 2 ^ w - 1 - digit w c.args.digest.now here.i =
    c.from-missing.ensures ∙ rw (c.last_digit.ensures, c.digit.ensures.value) refl in
    record {
      sum = rw (here.invariant.sum, step) (sym more);
      small = omega (arith, here.invariant.small, step);
    }
