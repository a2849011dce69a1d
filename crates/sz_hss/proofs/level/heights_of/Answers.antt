use Rattle.std.proofs.Common.{◌≤◌, arith}
use Rattle.std.proofs.lemmas.List.{length-map}
use Rattle.sz_hss.specs.View.{shape_of, shapes_of}
use Rattle.sz_hss.specs.declared.level.Level.{Level}
use Rattle.sz_hss.proofs.Walk.{heights_of-from, heights-small}
use Rattle.sz_hss.proofs.level.heights_of.Goals as goal

pub loop-level-preserved : goal.loop-level-preserved
loop-level-preserved c =
    let blank : Level = record { height = 0; width = 0 } in
    let from = heights_of-from c.args.levels.now c.loop-level.level-index blank c.loop-level-test.true in
    let height = c.from-heights.ensures in
    let fits : c.from-heights.result ≤ 255 = search arith in
    record { done = omega (arith, c.loop-level.invariant.done); small = omega (arith, c.loop-level.invariant.small) }

pub returns-clause-small : goal.returns-clause-small
returns-clause-small c =
    let levels = c.args.levels.now in
    let small = heights-small (shapes_of levels) c.requires.allowed in
    let long = length-map levels shape_of in
    omega (arith, c.loop-level.invariant.done, c.requires.few)
