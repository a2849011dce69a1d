use Rattle.std.proofs.Common.{◌≡◌, refl, sym, ap, ◌∙◌, List, [], ◌∷◌, ◌++◌, None, Some}
use Rattle.sz_der.specs.Spots.{Spot, spot_of, tag_at}
use Rattle.sz_der.specs.Tags.{sequence_tag}
use Rattle.sz_der.proofs.Steps.{at_end_is, exit, not_at_end}
use Rattle.sz_cms.specs.MessageFault.{choice_fault, Fault, sequences_at}
use Rattle.sz_cms.proofs.Walk.{walks_end, walks_fault, walks_start, walks_step}
use Rattle.sz_cms.proofs.Readings.{choice_fits, choice_other, choice_over, kept_other, no_room, pushed_kept, room_left, shorter}
use Rattle.sz_cms.proofs.reading.read_choices.Goals as goal

pub loop-each-init : goal.loop-each-init
loop-each-init g c =
    ([], walks_start (choice_fault g.row.MOST) (spot_of c.args.first.now), rw c.new-kept.ensures refl)

pub loop-each-smaller-then-item-eq-SEQUENCE : goal.loop-each-smaller-then-item-eq-SEQUENCE
loop-each-smaller-then-item-eq-SEQUENCE g c =
    let more = not_at_end c.loop-each.each c.is_at_end.result c.is_at_end.ensures c.loop-each-test.true in
    shorter c.loop-each.each c.take_item.new.reader more c.in_ok-item.ensures.next

pub loop-each-smaller : goal.loop-each-smaller
loop-each-smaller g c =
    let more = not_at_end c.loop-each.each c.is_at_end.result c.is_at_end.ensures c.loop-each-test.true in
    shorter c.loop-each.each c.take_item.new.reader more c.in_ok-item.ensures.next

pub loop-each-preserved-then-item-eq-SEQUENCE : goal.loop-each-preserved-then-item-eq-SEQUENCE
unfolding choice_fault
loop-each-preserved-then-item-eq-SEQUENCE g c =
    let start = spot_of c.args.first.now in
    let now = spot_of c.loop-each.each in
    let more = not_at_end c.loop-each.each c.is_at_end.result c.is_at_end.ensures c.loop-each-test.true in
    let inv = c.loop-each.invariant in
    let none : choice_fault g.row.MOST inv.0 now ≡ None = choice_fits g.row.MOST inv.0 now c.in_ok-item.ensures.ok
    (room_left g.row.MOST c.loop-each.kept inv.0 inv.2 c.is_full.result c.is_full.ensures.value c.if-is_full.false c.is_full.ensures.fits) in (
      inv.0 ++ now ∷ [],
      rw c.in_ok-item.ensures.next (walks_step (choice_fault g.row.MOST) start inv.0 now inv.1 more none),
      pushed_kept _ _ c.in_ok-item.item.whole inv.0 now c.push.ensures.items inv.2 c.in_ok-item.ensures.item.whole
          (sym c.in_ok-item.ensures.item.tag ∙ c.if-item-eq-SEQUENCE.true),
    )

pub loop-each-preserved : goal.loop-each-preserved
unfolding choice_fault
loop-each-preserved g c =
    let start = spot_of c.args.first.now in
    let now = spot_of c.loop-each.each in
    let more = not_at_end c.loop-each.each c.is_at_end.result c.is_at_end.ensures c.loop-each-test.true in
    let inv = c.loop-each.invariant in
    let other : tag_at now ≡ sequence_tag → ⊥ = λ e. c.if-item-eq-SEQUENCE.false (c.in_ok-item.ensures.item.tag ∙ e) in
    let none : choice_fault g.row.MOST inv.0 now ≡ None = choice_other g.row.MOST inv.0 now c.in_ok-item.ensures.ok other in (
      inv.0 ++ now ∷ [],
      rw c.in_ok-item.ensures.next (walks_step (choice_fault g.row.MOST) start inv.0 now inv.1 more none),
      inv.2 ∙ kept_other inv.0 now other,
    )

pub returns-in_err-item-clause-fault : goal.returns-in_err-item-clause-fault
unfolding choice_fault
returns-in_err-item-clause-fault g c =
    let start = spot_of c.args.first.now in
    let now = spot_of c.loop-each.each in
    let more = not_at_end c.loop-each.each c.is_at_end.result c.is_at_end.ensures c.loop-each-test.true in
    let inv = c.loop-each.invariant in
    exit _ _ c.in_err-item.field-0.0 c.from_residual.ensures.1
    (walks_fault (choice_fault g.row.MOST) start inv.0 now _ inv.1 more (rw c.in_err-item.ensures.fault refl))

pub returns-then-is_full-clause-fault : goal.returns-then-is_full-clause-fault
unfolding choice_fault
returns-then-is_full-clause-fault g c =
    let start = spot_of c.args.first.now in
    let now = spot_of c.loop-each.each in
    let more = not_at_end c.loop-each.each c.is_at_end.result c.is_at_end.ensures c.loop-each-test.true in
    let inv = c.loop-each.invariant in
    let full = no_room g.row.MOST c.loop-each.kept inv.0 inv.2 c.is_full.result c.is_full.ensures.value c.if-is_full.true in
    let is = sym c.in_ok-item.ensures.item.tag ∙ c.if-item-eq-SEQUENCE.true in
    walks_fault (choice_fault g.row.MOST) start inv.0 now _ inv.1 more
    (choice_over g.row.MOST inv.0 now c.in_ok-item.ensures.ok is full ∙ ap (λ (x : Fault). Some x) (sym (c.part_fault.ensures now c.in_ok-item.ensures.item)))

pub returns-clause-ok : goal.returns-clause-ok
returns-clause-ok g c =
    let start = spot_of c.args.first.now in
    let now = spot_of c.loop-each.each in
    let at_end = at_end_is c.loop-each.each (c.is_at_end.ensures.0 c.loop-each-test.false) in
    let inv = c.loop-each.invariant in
    (walks_end (choice_fault g.row.MOST) start inv.0 now inv.1 at_end).0

pub returns-clause-kept : goal.returns-clause-kept
returns-clause-kept g c =
    let start = spot_of c.args.first.now in
    let now = spot_of c.loop-each.each in
    let at_end = at_end_is c.loop-each.each (c.is_at_end.ensures.0 c.loop-each-test.false) in
    let inv = c.loop-each.invariant in
    inv.2 ∙ ap (λ (spots : List Spot). sequences_at spots) (sym (walks_end (choice_fault g.row.MOST) start inv.0 now inv.1 at_end).1)
