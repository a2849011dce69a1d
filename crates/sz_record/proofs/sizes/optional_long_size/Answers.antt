use Rattle.std.proofs.Common.{ap, arith, length}
use Rattle.sz_record.specs.Spelling.{long_bytes}
use Rattle.sz_record.proofs.Totals.{absent_length, optional_length}
use Rattle.sz_record.proofs.sizes.optional_long_size.Goals as goal

pub returns-in-None : goal.returns-in-None
returns-in-None c =
    rw c.in-None.is (omega (arith, absent_length long_bytes))

pub returns-in-Some : goal.returns-in-Some
returns-in-Some c =
    rw c.in-Some.is
    (omega (arith, optional_length long_bytes c.in-Some.long, c.long_size.ensures, ap (λ s. length (long_bytes s)) c.as_slice.ensures))
