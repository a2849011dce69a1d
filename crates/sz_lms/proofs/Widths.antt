-- What the four types of one-time signatures have in common.
use Rattle.std.proofs.Common.{ℕ, ◌+◌, ◌*◌, ◌<◌, ◌≤◌, arith}
use Rattle.sz_lms.specs.declared.types.OtsType.{OtsType}
use Rattle.sz_lms.specs.declared.types.OtsType.TheVariants.{W1, W2, W4, W8}
use Rattle.sz_lms.specs.View.{facts_of}

-- Q and its checksum have a digit for each chain
pub digits-enough : (kind : OtsType) (i : ℕ) → i < (facts_of kind).chains → (facts_of kind).width * (i + 1) ≤ 272
digits-enough W1 i h = omega arith
digits-enough W2 i h = omega arith
digits-enough W4 i h = omega arith
digits-enough W8 i h = omega arith
