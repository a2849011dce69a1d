use Rattle.std.proofs.Common.{arith}
use Rattle.sz_record.specs.Spelling.{committed_bytes, new_version}
use Rattle.sz_record.proofs.Totals.{absent_length, optional_length}
use Rattle.sz_record.proofs.sizes.optional_committed_size.Goals as goal

pub returns-in-None : goal.returns-in-None
returns-in-None c =
    rw c.in-None.is (omega (arith, absent_length (committed_bytes new_version)))

pub returns-in-Some : goal.returns-in-Some
returns-in-Some c =
    rw c.in-Some.is
    (omega (
      arith,
      optional_length (committed_bytes new_version) c.in-Some.committed,
      c.committed_size.ensures c.in-Some.committed.handling,
    ))
