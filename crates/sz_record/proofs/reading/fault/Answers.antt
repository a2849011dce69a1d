use Rattle.sz_record.proofs.Faults.{fault_at}
use Rattle.sz_record.proofs.reading.fault.Goals as goal

pub returns-in-At : goal.returns-in-At
returns-in-At c = λ space first.
    fault_at space c.args.payload.now c.args.wrong c.in-At.left _ _ c.in-At.is c.saturating_sub-place.ensures c.byte_at-value.ensures first
