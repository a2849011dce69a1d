use Rattle.std.proofs.Common.{arith}
use Rattle.sz_record.proofs.Totals.{absent_moment_length, moment_length}
use Rattle.sz_record.proofs.sizes.moment_size.Goals as goal

pub returns-in-None : goal.returns-in-None
returns-in-None c = omega (arith, absent_moment_length c.args.moment.now c.in-None.is)

pub returns-in-Some : goal.returns-in-Some
returns-in-Some c =
    omega (arith, moment_length c.args.moment.now c.in-Some.nonce c.in-Some.is, c.bytes_size.ensures)
