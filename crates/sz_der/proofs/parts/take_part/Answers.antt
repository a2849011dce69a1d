use Rattle.std.proofs.Common.{◌∙◌}
use Rattle.sz_der.specs.Spots.{spot_of}
use Rattle.sz_der.proofs.Steps.{exit, found_is, part_is, part_is_not, part_no_item}
use Rattle.sz_der.proofs.parts.take_part.Goals as goal

pub returns-in_err-item-clause-fault : goal.returns-in_err-item-clause-fault
returns-in_err-item-clause-fault g c =
    exit _ _ c.in_err-item.field-0.0 c.from_residual.ensures.1
    (part_no_item _ c.args.other c.args.tag (spot_of c.args.reader.now) _ c.in_err-item.ensures.fault)

pub returns-then-item-tag-clause-ok : goal.returns-then-item-tag-clause-ok
returns-then-item-tag-clause-ok g c =
    part_is _ c.args.other c.args.tag (spot_of c.args.reader.now) c.in_ok-item.item c.in_ok-item.ensures.ok c.in_ok-item.ensures.item c.if-item-tag.true

pub returns-else-item-tag-clause-fault : goal.returns-else-item-tag-clause-fault
returns-else-item-tag-clause-fault g c =
    let is = c.in_ok-item.ensures.item in
    part_is_not _ c.args.other c.args.tag (spot_of c.args.reader.now) c.in_ok-item.item c.in_ok-item.ensures.ok is c.if-item-tag.false
    ∙ found_is (c.part_fault.ensures (spot_of c.args.reader.now) is)
