use Rattle.sz_base.proofs.ReadPairs.{AreReadUpTo-more}
use Rattle.sz_base.proofs.encodings.colon_hex.Goals as goal

pub loop-k-preserved : goal.loop-k-preserved
loop-k-preserved c =
    AreReadUpTo-more c.args.text.now c.loop-k.bytes c.loop-k.k c.in_ok-bytes.field-0 c.loop-k-test.true c.loop-k.invariant
    c.in_ok-bytes.ensures.some c.in_ok-bytes.ensures.colon
