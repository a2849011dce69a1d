use Rattle.std.proofs.Common.{sym}
use Rattle.sz_base.proofs.Numerals.{IsDecimal-decimal, IsDecimal-text}
use Rattle.sz_base.proofs.laws.numbers_read_back.Goals as goal

pub returns-clause-one_text : goal.returns-clause-one_text
returns-clause-one_text c = λ n text h. sym (IsDecimal-text text n h.decimal h.below)

pub returns-clause-spelled : goal.returns-clause-spelled
returns-clause-spelled c = λ n below. record { decimal = IsDecimal-decimal n below; below = below }
