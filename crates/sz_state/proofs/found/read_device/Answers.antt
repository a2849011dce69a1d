use Rattle.std.proofs.Common.{arith, refl, inr}
use Rattle.sz_state.proofs.found.read_device.Goals as goal

pub overflow_cast-result : goal.overflow_cast-result
overflow_cast-result c =
    let bad = c.in-Err-BadRecord.ensures.bad c.in-Err-BadRecord.place c.in-Err-BadRecord.value c.in-Err-BadRecord.field-0-is in
    omega (arith, bad.within, c.requires)

pub returns-in-Err-BadRecord-clause-refused : goal.returns-in-Err-BadRecord-clause-refused
returns-in-Err-BadRecord-clause-refused c =
    let bad = c.in-Err-BadRecord.ensures.bad c.in-Err-BadRecord.place c.in-Err-BadRecord.value c.in-Err-BadRecord.field-0-is in
    inr (c.in-Err-BadRecord.place, c.in-Err-BadRecord.value, refl, bad)
