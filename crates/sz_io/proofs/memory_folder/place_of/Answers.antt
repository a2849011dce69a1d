use Rattle.std.proofs.Common.{◌≡◌, false, sym, ◌∙◌}
use Rattle.sz_io.proofs.Pairs.{ties, tested, first_in-take_more}
use Rattle.sz_io.proofs.memory_folder.place_of.Goals as goal

pub loop-place-preserved : goal.loop-place-preserved
loop-place-preserved c =
    let other : ties c.args.path.now c.as_slice.result.now ≡ false = sym (tested c.args.path.now c.as_slice.result.now) ∙ sym c.if-eq.ensures in
    first_in-take_more c.args.pairs.now c.args.path.now c.loop-place.place c.index-pairs-place.result c.loop-place-test.true c.loop-place.invariant
    (rw (← c.index-pairs-place.is, ← c.as_slice.ensures) other)
