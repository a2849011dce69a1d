use Rattle.std.proofs.Common.{◌≡◌, ℕ, ◌*◌, ◌%◌, ◌^◌, ◌≤◌, ap, ◌∙◌, arith, pow_mono}
use Rattle.sz_hss.proofs.level.leaves_of.Goals as goal

pub returns : goal.returns
returns c =
    let heights = c.heights_of.result in
    let small : 2 ^ heights ≤ 35184372088832 = pow_mono c.heights_of.ensures.small in
    let whole : 1 * 2 ^ heights % 18446744073709551616 ≡ 2 ^ heights = omega arith in
    whole ∙ ap (λ (n : ℕ). 2 ^ n) c.heights_of.ensures.sum
