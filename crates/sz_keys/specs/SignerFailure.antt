-- The failures that the faults of a signer stand for.
use Rattle.sz_commands.specs.Failure as failure
use Rattle.sz_signer.specs.declared.fault.SignFault.{SignFault}
use Rattle.sz_signer.specs.declared.fault.SignFault.TheVariants.{Failed, Exhausted, OutOfMemory, NotFormatted, Damaged, InUse, EntropyFault, CellExhausted, TooSmall, BadKey}

-- a damage is told by a slot and the length there, or by a byte's place and the byte
abbrev pub failure_from : SignFault → failure.Failure
failure_from Failed = failure.DiskFault
failure_from (Exhausted next end) = failure.Exhausted next end
failure_from OutOfMemory = failure.OutOfMemory
failure_from NotFormatted = failure.NotInitialised
failure_from (Damaged slot sequence length) = failure.Damaged slot length
failure_from InUse = failure.InUse
failure_from EntropyFault = failure.EntropyFault
failure_from (CellExhausted sequence) = failure.LastSequence
failure_from (TooSmall size) = failure.SizeRefused size
failure_from (BadKey place byte) = failure.Damaged place byte
