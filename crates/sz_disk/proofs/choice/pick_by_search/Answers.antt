use Rattle.std.proofs.Common.{arith}
use Rattle.sz_disk.proofs.Picks.{rank-le, picked-step, picked-all}
use Rattle.sz_disk.proofs.choice.pick_by_search.Goals as goal

pub overflow_add-rank : goal.overflow_add-rank
overflow_add-rank c = omega (arith, rank-le c.args.pending.now c.loop-place.from, c.in-Some.ensures.after, c.in-Some.ensures.within)

pub loop-place-preserved : goal.loop-place-preserved
loop-place-preserved c =
    let e = c.picked_byte.ensures in
    picked-step c.args.choice c.args.pending.now c.loop-place.from c.loop-place.rank c.args.bytes.now c.loop-place.bytes
    (c.in-Some.place, c.in-Some.old) c.picked_byte.result c.loop-place.invariant c.in-Some.ensures e

pub returns : goal.returns
returns c =
    picked-all c.args.choice c.args.pending.now c.loop-place.from c.loop-place.rank c.args.bytes.now c.loop-place.bytes
    c.loop-place.invariant c.in_default.ensures
