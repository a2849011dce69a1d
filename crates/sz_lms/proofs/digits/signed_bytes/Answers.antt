use Rattle.std.proofs.Common.{◌∙◌, length, ap, refl}
use Rattle.sz_lms.proofs.Buffers.{put-two}
use Rattle.sz_lms.proofs.digits.signed_bytes.Goals as goal

pub returns : goal.returns
returns c =
    put-two c.args.digest.now c.to_be_bytes.result _ _ _ _ 32 2 c.told-digest (ap length c.to_be_bytes.ensures) refl refl
    c.put.ensures c.put-2.ensures
    ∙ rw (c.to_be_bytes.ensures, c.shift.ensures, c.missing_sum.ensures.sum) refl
