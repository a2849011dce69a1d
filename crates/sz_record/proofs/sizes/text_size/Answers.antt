use Rattle.std.proofs.Common.{arith}
use Rattle.sz_record.proofs.Totals.{text_length}
use Rattle.sz_record.proofs.sizes.text_size.Goals as goal

pub returns : goal.returns
returns c = omega (arith, text_length c.args.text.now)
