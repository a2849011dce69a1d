use Rattle.std.proofs.Common.{refl, arith}
use Rattle.sz_base.proofs.Numerals.{IsDecimal-decimal}
use Rattle.sz_base.proofs.Splits.{one_target, one_target_text, target_again}
use Rattle.sz_base.proofs.laws.targets_read_back.Goals as goal

pub returns-clause-again : goal.returns-clause-again
returns-clause-again c = target_again

pub returns-clause-one_reading : goal.returns-clause-one_reading
returns-clause-one_reading c = one_target

pub returns-clause-one_text : goal.returns-clause-one_text
returns-clause-one_text c = one_target_text

pub returns-clause-spelled : goal.returns-clause-spelled
returns-clause-spelled c = λ target host low high. record {
  digits = _;
  split = refl;
  host = host;
  port = record { decimal = IsDecimal-decimal target.port (omega (arith, high)); low = low; high = high };
}
