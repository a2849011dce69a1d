use Rattle.std.proofs.Common.{arith}
use Rattle.sz_record.proofs.Totals.{long_length}
use Rattle.sz_record.proofs.sizes.long_size.Goals as goal

pub returns : goal.returns
returns c = omega (arith, long_length c.args.long.now)
