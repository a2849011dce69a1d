use Rattle.std.proofs.Common.{length, refl, ap, ◌∙◌}
use Rattle.sz_lms.proofs.Buffers.{put-four}
use Rattle.sz_lms.proofs.chain.step_input.Goals as goal

pub returns : goal.returns
returns c =
    put-four c.args.id.now c.to_be_bytes.result c.to_be_bytes-2.result c.args.value.now _ _ _ _ 0 _ _ _ _
    c.told-id (ap length c.to_be_bytes.ensures) (ap length c.to_be_bytes-2.ensures) c.told-value refl refl refl refl
    c.put.ensures c.put-2.ensures c.put-3.ensures c.put-4.ensures
    ∙ rw (c.to_be_bytes.ensures, c.to_be_bytes-2.ensures) refl
