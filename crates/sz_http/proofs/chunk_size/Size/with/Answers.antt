-- One more digit stays below the next power, and sixteen of them below the size of the number.
use Rattle.std.proofs.Common.{ℕ, ◌+◌, ◌*◌, ◌^◌, ◌<◌, ◌≤◌, arith, pow-add}
use Rattle.std.proofs.Math.Nat.{pow-le-pow_right}
use Rattle.sz_http.proofs.chunk_size.Size.with.Goals as goal

digit_more : (size digit at : ℕ) → size < 16 ^ at → digit < 16 → size * 16 + digit < 16 ^ (at + 1)
digit_more size digit at below small = omega (arith, pow-add 16 at 1)

below_top : (at : ℕ) → at < 16 → 16 ^ (at + 1) ≤ 2 ^ 64
below_top at h = pow-le-pow_right {n = 16} (omega arith) {j = 16} (omega arith)

pub overflow_mul-result : goal.overflow_mul-result
overflow_mul-result c =
    let self = c.args.self in
    omega (arith, digit_more self.value 0 self.count self.fits (omega arith), below_top self.count c.if-self-ge-MOST_DIGITS.false)

pub overflow_add-result-2 : goal.overflow_add-result-2
overflow_add-result-2 c =
    let self = c.args.self in
    omega (arith, digit_more self.value c.args.digit self.count self.fits c.requires, below_top self.count c.if-self-ge-MOST_DIGITS.false)
