-- The failures that the refusals of a device's disk stand for.
use Rattle.sz_commands.specs.Failure as failure
use Rattle.sz_state.specs.declared.fault.StateFault.{StateFault}
use Rattle.sz_state.specs.declared.fault.StateFault.TheVariants as state

-- a damage is told by a slot and the length there, or by a byte's place and the byte
abbrev pub failure_from : StateFault → failure.Failure
failure_from state.Failed = failure.DiskFault
failure_from state.NotInitialised = failure.NotInitialised
failure_from (state.Damaged slot sequence length) = failure.Damaged slot length
failure_from (state.BadRecord place value) = failure.Damaged place value
failure_from (state.InUse slot) = failure.SlotInUse slot
failure_from (state.Exhausted sequence) = failure.LastSequence
failure_from state.OutOfMemory = failure.OutOfMemory
failure_from (state.TooLarge size) = failure.TooLarge size
