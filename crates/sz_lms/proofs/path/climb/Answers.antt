use Rattle.std.proofs.Common.{◌≡◌, ◌+◌, ◌-◌, ◌*◌, ◌∙◌, sym, arith}
use Rattle.sz_lms.proofs.Climbs.{climb-end, climb-step}
use Rattle.sz_lms.proofs.path.climb.Goals as goal

pub loop-i-preserved : goal.loop-i-preserved
loop-i-preserved c =
    let here = c.loop-i in
    let width : 32 * here.i + 32 - 32 * here.i ≡ 32 = omega arith in
    climb-step c.args.id.now here.r here.node c.parent-node.result here.i c.args.height c.args.path.now c.loop-i-test.true (rw width at c.parent-node.ensures)
    ∙ here.invariant

pub returns : goal.returns
returns c =
    let here = c.loop-i in
    sym (climb-end c.args.id.now here.r here.node here.i c.args.height c.args.path.now c.loop-i-test.false) ∙ here.invariant
