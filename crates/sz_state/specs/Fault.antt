-- Which of a call's answers blame the disk, and what the faults of the layers below become.
use Rattle.std.specs.Prelude.{Bool, true, false, Result, Ok, Err}
use Rattle.sz_cell.specs.declared.fault.AttachFault.{AttachFault}
use Rattle.sz_cell.specs.declared.fault.AttachFault.TheVariants.{Failed as attach_fault, NotFormatted, Damaged as damaged_cell}
use Rattle.sz_cell.specs.declared.fault.ClearFault.{ClearFault}
use Rattle.sz_cell.specs.declared.fault.ClearFault.TheVariants.{Failed as clear_fault, Exhausted as exhausted_cell}
use Rattle.sz_cell.specs.declared.fault.FormatFault.{FormatFault}
use Rattle.sz_cell.specs.declared.fault.FormatFault.TheVariants.{Failed as format_fault, InUse as cell_in_use}
use Rattle.sz_state.specs.declared.fault.StateFault.{StateFault}
use Rattle.sz_state.specs.declared.fault.StateFault.TheVariants.{Failed, NotInitialised, Damaged, BadRecord, InUse, Exhausted, OutOfMemory, TooLarge}

abbrev pub blames_disk : StateFault → Bool
blames_disk Failed = true
blames_disk NotInitialised = false
blames_disk (Damaged slot sequence length) = false
blames_disk (BadRecord place value) = false
blames_disk (InUse slot) = false
blames_disk (Exhausted sequence) = false
blames_disk OutOfMemory = false
blames_disk (TooLarge size) = false

abbrev pub state_failed : {T : Type 0} → Result T StateFault → Bool
state_failed (Ok value) = false
state_failed (Err fault) = blames_disk fault

abbrev pub of_attach : AttachFault → StateFault
of_attach attach_fault = Failed
of_attach NotFormatted = NotInitialised
of_attach (damaged_cell slot sequence length) = Damaged slot sequence length

abbrev pub of_format : FormatFault → StateFault
of_format format_fault = Failed
of_format (cell_in_use slot) = InUse slot

abbrev pub of_clear : ClearFault → StateFault
of_clear clear_fault = Failed
of_clear (exhausted_cell sequence) = Exhausted sequence
