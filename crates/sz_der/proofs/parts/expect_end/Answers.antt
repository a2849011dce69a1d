use Rattle.std.proofs.Common.{refl}
use Rattle.sz_der.specs.Spots.{no_end, spot_of}
use Rattle.sz_der.proofs.Spots.{end_from_nothing}
use Rattle.sz_der.proofs.Steps.{exit, found_is, not_at_end}
use Rattle.sz_der.proofs.parts.expect_end.Goals as goal

pub returns-then-is_at_end-clause-ok : goal.returns-then-is_at_end-clause-ok
unfolding spot_of
returns-then-is_at_end-clause-ok g c = end_from_nothing _ c.args.other (spot_of c.args.reader.now) (c.if-is_at_end.ensures.0 refl)

pub returns-in_err-item-clause-fault : goal.returns-in_err-item-clause-fault
unfolding no_end
returns-in_err-item-clause-fault g c =
    exit _ _ c.in_err-item.field-0.0 c.from_residual.ensures.1
    (rw (not_at_end c.args.reader.now c.is_at_end.result c.is_at_end.ensures c.if-is_at_end.false, c.in_err-item.ensures.fault) refl)

pub returns-clause-fault : goal.returns-clause-fault
unfolding no_end
returns-clause-fault g c =
    rw (not_at_end c.args.reader.now c.is_at_end.result c.is_at_end.ensures c.if-is_at_end.false, c.in_ok-item.ensures.ok)
    (found_is (c.part_fault.ensures (spot_of c.args.reader.now) c.in_ok-item.ensures.item))
