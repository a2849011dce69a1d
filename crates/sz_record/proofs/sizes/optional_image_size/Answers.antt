use Rattle.std.proofs.Common.{arith, refl}
use Rattle.sz_record.specs.Spelling.{image_bytes, new_version}
use Rattle.sz_record.proofs.Totals.{absent_length, optional_length}
use Rattle.sz_record.proofs.sizes.optional_image_size.Goals as goal

pub returns-in-None : goal.returns-in-None
returns-in-None c =
    rw c.in-None.is (omega (arith, absent_length (image_bytes new_version)))

pub returns-in-Some : goal.returns-in-Some
returns-in-Some c =
    rw c.in-Some.is
    (omega (
      arith,
      optional_length (image_bytes new_version) c.in-Some.image,
      c.image_size.ensures c.in-Some.image refl refl refl,
    ))
