use Rattle.std.proofs.Common.{[], ◌∷◌, ◌++◌}
use Rattle.sz_der.specs.Spots.{spot_of}
use Rattle.sz_der.proofs.Steps.{at_end_is, exit, not_at_end}
use Rattle.sz_cms.specs.MessageFault.{attribute_fault}
use Rattle.sz_cms.proofs.Walk.{walks_end, walks_fault, walks_start, walks_step}
use Rattle.sz_cms.proofs.Readings.{shorter}
use Rattle.sz_cms.proofs.attributes.read_known.Goals as goal

pub loop-known-init : goal.loop-known-init
loop-known-init c =
    ([], walks_start attribute_fault (spot_of c.args.first.now), c.none-known.ensures)

pub loop-known-smaller : goal.loop-known-smaller
loop-known-smaller c =
    let more = not_at_end c.loop-known.each c.is_at_end.result c.is_at_end.ensures c.loop-known-test.true in
    shorter c.loop-known.each c.take_attribute.new.reader more c.in_ok-known.ensures.next

pub loop-known-preserved : goal.loop-known-preserved
loop-known-preserved c =
    let start = spot_of c.args.first.now in
    let now = spot_of c.loop-known.each in
    let more = not_at_end c.loop-known.each c.is_at_end.result c.is_at_end.ensures c.loop-known-test.true in
    let inv = c.loop-known.invariant in (
      inv.0 ++ now ∷ [],
      rw c.in_ok-known.ensures.next (walks_step attribute_fault start inv.0 now inv.1 more (c.in_ok-known.ensures.ok inv.0 inv.2)),
      c.in_ok-known.ensures.known inv.0 inv.2,
    )

pub returns-in_err-known-clause-fault : goal.returns-in_err-known-clause-fault
returns-in_err-known-clause-fault c =
    let start = spot_of c.args.first.now in
    let now = spot_of c.loop-known.each in
    let more = not_at_end c.loop-known.each c.is_at_end.result c.is_at_end.ensures c.loop-known-test.true in
    let inv = c.loop-known.invariant in
    exit _ _ c.in_err-known.field-0.0 c.from_residual.ensures.1
    (walks_fault attribute_fault start inv.0 now _ inv.1 more (c.in_err-known.ensures.fault inv.0 inv.2))

pub returns-clause-ok : goal.returns-clause-ok
returns-clause-ok c =
    let start = spot_of c.args.first.now in
    let now = spot_of c.loop-known.each in
    let at_end = at_end_is c.loop-known.each (c.is_at_end.ensures.0 c.loop-known-test.false) in
    let inv = c.loop-known.invariant in
    (walks_end attribute_fault start inv.0 now inv.1 at_end).0

pub returns-clause-known : goal.returns-clause-known
returns-clause-known c =
    let start = spot_of c.args.first.now in
    let now = spot_of c.loop-known.each in
    let at_end = at_end_is c.loop-known.each (c.is_at_end.ensures.0 c.loop-known-test.false) in
    let inv = c.loop-known.invariant in
    rw (walks_end attribute_fault start inv.0 now inv.1 at_end).1 inv.2
