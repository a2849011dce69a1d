use Rattle.std.proofs.Common.{◌≡◌, ℕ, ◌<◌, false, length, sym, ◌∙◌, arith}
use Rattle.std.proofs.lemmas.List.{get_or_default}
use Rattle.sz_disk.specs.Event.{is_covered}
use Rattle.sz_disk.proofs.Picks.{rank-le, picked-skip, picked-here}
use Rattle.sz_disk.proofs.choice.pick_over_copy.Goals as goal
use Rattle.sz_disk.proofs.choice.pick_over_copy.Goals.{then-index, else-index}

pub overflow_add-rank : goal.overflow_add-rank
overflow_add-rank c = omega (arith, rank-le c.args.pending.now c.loop-place.place, c.loop-place.invariant.counted, c.loop-place-test.true)

pub loop-place-preserved : goal.loop-place-preserved
loop-place-preserved c =
    let pending = c.args.pending.now in
    let place : ℕ = c.loop-place.place in
    let marks = c.in_ok-covered.covered.items in
    let lt : place < length c.loop-place.bytes = omega (arith, c.loop-place-test.true, c.loop-place.auto.bytes) in
    let marked : place < length marks = omega (arith, c.loop-place-test.true, c.in_ok-covered.ensures.long) in
    let covered : is_covered pending place ≡ c.index.result.now =
    sym (c.in_ok-covered.ensures.each place c.loop-place-test.true) ∙ get_or_default marks place false c.index.result.now marked ∙ sym c.index.ensures in
    let so = c.loop-place.invariant in
    let start = c.args.bytes.now in
    let bytes = c.loop-place.bytes in
    let old = c.in_ok-old in
    elim c.if-index.branch [
      | then-index w ↦ rw (w.bytes-is, w.rank-is)
          (picked-here c.args.choice pending place c.loop-place.rank start bytes old.old.items w.index-then-index.result.now w.picked_byte.result
          c.requires so c.loop-place-test.true (covered ∙ w.if-index.true) old.ensures.bytes w.index-then-index.ensures w.picked_byte.ensures)
      | else-index w ↦ rw (w.bytes-is, w.rank-is)
          (picked-skip c.args.choice pending place c.loop-place.rank start bytes so lt (covered ∙ w.if-index.false))
    ]
