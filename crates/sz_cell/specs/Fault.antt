-- Which of a call's answers blame the disk.
use Rattle.std.specs.Prelude.{Bool, true, false, Result, Ok, Err}
use Rattle.sz_cell.specs.declared.fault.FormatFault.{FormatFault}
use Rattle.sz_cell.specs.declared.fault.FormatFault.TheVariants.{Failed as format_fault, InUse}
use Rattle.sz_cell.specs.declared.fault.AttachFault.{AttachFault}
use Rattle.sz_cell.specs.declared.fault.AttachFault.TheVariants.{Failed as attach_fault, NotFormatted, Damaged}
use Rattle.sz_cell.specs.declared.fault.ClearFault.{ClearFault}
use Rattle.sz_cell.specs.declared.fault.ClearFault.TheVariants.{Failed as clear_fault, Exhausted}

abbrev pub format_failed : {T : Type 0} → Result T FormatFault → Bool
format_failed (Ok value) = false
format_failed (Err format_fault) = true
format_failed (Err (InUse slot)) = false

abbrev pub attach_failed : {T : Type 0} → Result T AttachFault → Bool
attach_failed (Ok value) = false
attach_failed (Err attach_fault) = true
attach_failed (Err NotFormatted) = false
attach_failed (Err (Damaged slot sequence length)) = false

abbrev pub clear_failed : {T : Type 0} → Result T ClearFault → Bool
clear_failed (Ok value) = false
clear_failed (Err clear_fault) = true
clear_failed (Err (Exhausted sequence)) = false
