use Rattle.std.proofs.Common.{◌≡◌, refl, sym, ap, ◌∙◌, List, [], ◌∷◌, ◌++◌, None, Some, map}
use Rattle.sz_der.specs.Spots.{Spot, spot_of}
use Rattle.sz_der.proofs.Steps.{at_end_is, exit, not_at_end}
use Rattle.sz_cms.specs.MessageFault.{Fault, signer_fault}
use Rattle.sz_cms.specs.Places.{signer_at, signer_from}
use Rattle.sz_cms.specs.View.{signer_of}
use Rattle.sz_cms.proofs.Walk.{walks_end, walks_fault, walks_start, walks_step}
use Rattle.sz_cms.proofs.Readings.{few_signers, many_signers, pushed, shorter}
use Rattle.sz_cms.proofs.reading.read_signers.Goals as goal

pub loop-each-init : goal.loop-each-init
loop-each-init c =
    ([], walks_start signer_fault (spot_of c.args.first.now), rw c.new-signers.ensures refl)

pub loop-each-smaller : goal.loop-each-smaller
loop-each-smaller c =
    let more = not_at_end c.loop-each.each c.is_at_end.result c.is_at_end.ensures c.loop-each-test.true in
    shorter c.loop-each.each c.take_part.new.reader more c.in_ok-item.ensures.next

pub loop-each-preserved : goal.loop-each-preserved
unfolding signer_fault
loop-each-preserved c =
    let start = spot_of c.args.first.now in
    let now = spot_of c.loop-each.each in
    let more = not_at_end c.loop-each.each c.is_at_end.result c.is_at_end.ensures c.loop-each-test.true in
    let inv = c.loop-each.invariant in
    let none : signer_fault inv.0 now ≡ None = rw (
      c.in_ok-item.ensures.ok,
      few_signers c.loop-each.signers inv.0 inv.2 c.is_full.result c.is_full.ensures.value c.if-is_full.false c.is_full.ensures.fits,
      ← c.parts_of.ensures now c.in_ok-item.ensures.item,
      c.in_ok-signer.ensures.ok,
    ) refl in (
      inv.0 ++ now ∷ [],
      rw c.in_ok-item.ensures.next (walks_step signer_fault start inv.0 now inv.1 more none),
      pushed signer_of signer_at _ _ c.in_ok-signer.signer inv.0 now c.push.ensures.items inv.2
          (c.in_ok-signer.ensures.signer ∙ ap signer_from (c.parts_of.ensures now c.in_ok-item.ensures.item)),
    )

pub returns-in_err-item-clause-fault : goal.returns-in_err-item-clause-fault
unfolding signer_fault
returns-in_err-item-clause-fault c =
    let start = spot_of c.args.first.now in
    let now = spot_of c.loop-each.each in
    let more = not_at_end c.loop-each.each c.is_at_end.result c.is_at_end.ensures c.loop-each-test.true in
    let inv = c.loop-each.invariant in
    exit _ _ c.in_err-item.field-0.0 c.from_residual.ensures.1
    (walks_fault signer_fault start inv.0 now _ inv.1 more (rw c.in_err-item.ensures.fault refl))

pub returns-then-is_full-clause-fault : goal.returns-then-is_full-clause-fault
unfolding signer_fault
returns-then-is_full-clause-fault c =
    let start = spot_of c.args.first.now in
    let now = spot_of c.loop-each.each in
    let more = not_at_end c.loop-each.each c.is_at_end.result c.is_at_end.ensures c.loop-each-test.true in
    let inv = c.loop-each.invariant in
    let many = many_signers c.loop-each.signers inv.0 inv.2 c.is_full.result c.is_full.ensures.value c.if-is_full.true in
    walks_fault signer_fault start inv.0 now _ inv.1 more
    (rw (c.in_ok-item.ensures.ok, many) (ap (λ (x : Fault). Some x) (sym (c.part_fault.ensures now c.in_ok-item.ensures.item))))

pub returns-in_err-signer-clause-fault : goal.returns-in_err-signer-clause-fault
unfolding signer_fault
returns-in_err-signer-clause-fault c =
    let start = spot_of c.args.first.now in
    let now = spot_of c.loop-each.each in
    let more = not_at_end c.loop-each.each c.is_at_end.result c.is_at_end.ensures c.loop-each-test.true in
    let inv = c.loop-each.invariant in
    exit _ _ c.in_err-signer.field-0.0 c.from_residual-in_err-signer.ensures.1
    (walks_fault signer_fault start inv.0 now _ inv.1 more (rw (
      c.in_ok-item.ensures.ok,
      few_signers c.loop-each.signers inv.0 inv.2 c.is_full.result c.is_full.ensures.value c.if-is_full.false c.is_full.ensures.fits,
      ← c.parts_of.ensures now c.in_ok-item.ensures.item,
      c.in_err-signer.ensures.fault,
    ) refl))

pub returns-clause-ok : goal.returns-clause-ok
returns-clause-ok c =
    let start = spot_of c.args.first.now in
    let now = spot_of c.loop-each.each in
    let at_end = at_end_is c.loop-each.each (c.is_at_end.ensures.0 c.loop-each-test.false) in
    let inv = c.loop-each.invariant in
    (walks_end signer_fault start inv.0 now inv.1 at_end).0

pub returns-clause-signers : goal.returns-clause-signers
returns-clause-signers c =
    let start = spot_of c.args.first.now in
    let now = spot_of c.loop-each.each in
    let at_end = at_end_is c.loop-each.each (c.is_at_end.ensures.0 c.loop-each-test.false) in
    let inv = c.loop-each.invariant in
    inv.2 ∙ ap (λ (spots : List Spot). map signer_at spots) (sym (walks_end signer_fault start inv.0 now inv.1 at_end).1)
