use Rattle.std.proofs.Common.{[], ◌∷◌, ◌++◌}
use Rattle.sz_der.specs.Spots.{spot_of}
use Rattle.sz_der.proofs.Steps.{at_end_is, exit, not_at_end}
use Rattle.sz_cms.specs.MessageFault.{algorithm_fault}
use Rattle.sz_cms.proofs.Walk.{walks_end, walks_fault, walks_start, walks_step}
use Rattle.sz_cms.proofs.Readings.{shorter}
use Rattle.sz_cms.proofs.reading.read_algorithms.Goals as goal

pub loop-each-init : goal.loop-each-init
loop-each-init c =
    ([], walks_start (λ _. algorithm_fault) (spot_of c.args.first.now))

pub loop-each-smaller : goal.loop-each-smaller
loop-each-smaller c =
    let more = not_at_end c.loop-each.each c.is_at_end.result c.is_at_end.ensures c.loop-each-test.true in
    shorter c.loop-each.each c.take_algorithm.new.reader more c.in_ok-take_algorithm.ensures.next

pub loop-each-preserved : goal.loop-each-preserved
loop-each-preserved c =
    let start = spot_of c.args.first.now in
    let now = spot_of c.loop-each.each in
    let more = not_at_end c.loop-each.each c.is_at_end.result c.is_at_end.ensures c.loop-each-test.true in
    let inv = c.loop-each.invariant in (
      inv.0 ++ now ∷ [],
      rw c.in_ok-take_algorithm.ensures.next (walks_step (λ _. algorithm_fault) start inv.0 now inv.1 more c.in_ok-take_algorithm.ensures.ok),
    )

pub returns-in_err-take_algorithm-clause-fault : goal.returns-in_err-take_algorithm-clause-fault
returns-in_err-take_algorithm-clause-fault c =
    let start = spot_of c.args.first.now in
    let now = spot_of c.loop-each.each in
    let more = not_at_end c.loop-each.each c.is_at_end.result c.is_at_end.ensures c.loop-each-test.true in
    let inv = c.loop-each.invariant in
    exit _ _ c.in_err-take_algorithm.field-0.0 c.from_residual.ensures.1
    (walks_fault (λ _. algorithm_fault) start inv.0 now _ inv.1 more c.in_err-take_algorithm.ensures.fault)

pub returns-clause-ok : goal.returns-clause-ok
returns-clause-ok c =
    let start = spot_of c.args.first.now in
    let now = spot_of c.loop-each.each in
    let at_end = at_end_is c.loop-each.each (c.is_at_end.ensures.0 c.loop-each-test.false) in
    let inv = c.loop-each.invariant in
    (walks_end (λ _. algorithm_fault) start inv.0 now inv.1 at_end).0
