use Rattle.std.proofs.Common.{refl}
use Rattle.sz_base.proofs.Padded.{counted, refused}
use Rattle.sz_base.proofs.encodings.group_size.Goals as goal

pub returns-clause-some : goal.returns-clause-some
returns-clause-some c =
    let slice = c.decode_slice.ensures in
    rw c.ok.ensures.value
    (counted c.args.four.now _ _ _ c.fits-four c.told-four refl c.decode_slice.auto.output slice.value slice.written slice.bytes)

pub returns-clause-none : goal.returns-clause-none
returns-clause-none c =
    rw c.ok.ensures.value (refused c.args.four.now _ c.told-four c.decode_slice.ensures.value)
