-- Which of a signer's answers blame what, and which faults they hand on.
use Rattle.std.specs.Prelude.{Bool, true, false, ◌||◌, Result, Err}
use Rattle.sz_cell.specs.declared.fault.AttachFault.{AttachFault}
use Rattle.sz_cell.specs.declared.fault.AttachFault.TheVariants as attach
use Rattle.sz_cell.specs.declared.fault.ClearFault.{ClearFault}
use Rattle.sz_cell.specs.declared.fault.ClearFault.TheVariants as clear
use Rattle.sz_cell.specs.declared.fault.FormatFault.{FormatFault}
use Rattle.sz_cell.specs.declared.fault.FormatFault.TheVariants as format
use Rattle.sz_hss.specs.declared.reading.BadKey.{BadKey as WrongByte}
use Rattle.sz_signer.specs.declared.fault.SignFault.{SignFault}
use Rattle.sz_signer.specs.declared.fault.SignFault.TheVariants.{Failed, Exhausted, OutOfMemory, NotFormatted, Damaged, InUse, EntropyFault, CellExhausted, TooSmall, BadKey}

abbrev pub of_key : WrongByte → SignFault
of_key bad = BadKey bad.place bad.value

abbrev pub of_format : FormatFault → SignFault
of_format format.Failed = Failed
of_format (format.InUse slot) = InUse

abbrev pub of_attach : AttachFault → SignFault
of_attach attach.Failed = Failed
of_attach attach.NotFormatted = NotFormatted
of_attach (attach.Damaged slot sequence length) = Damaged slot sequence length

abbrev pub of_clear : ClearFault → SignFault
of_clear clear.Failed = Failed
of_clear (clear.Exhausted sequence) = CellExhausted sequence

-- the answer blames the disk
abbrev pub disk_failed : {T : Type 0} → Result T SignFault → Bool
disk_failed (Err Failed) = true
disk_failed _ = false

-- the answer blames the source of random bytes
abbrev pub entropy_failed : {T : Type 0} → Result T SignFault → Bool
entropy_failed (Err EntropyFault) = true
entropy_failed _ = false

-- the answer says that the disk is too small
abbrev pub is_too_small : {T : Type 0} → Result T SignFault → Bool
is_too_small (Err (TooSmall size)) = true
is_too_small _ = false

-- the answer says that as many leaf numbers are not left
abbrev pub is_exhausted : {T : Type 0} → Result T SignFault → Bool
is_exhausted (Err (Exhausted next end)) = true
is_exhausted _ = false

-- memory ran out
abbrev pub ran_out : {T : Type 0} → Result T SignFault → Bool
ran_out (Err OutOfMemory) = true
ran_out _ = false

-- Answers that `create` gives before its first call on the disk.
abbrev pub comes_first : {T : Type 0} → Result T SignFault → Bool
comes_first result = entropy_failed result || (is_too_small result || ran_out result)

-- what can keep a stored key from being read
abbrev pub IsReadFault : SignFault → Type 0
IsReadFault Failed = Unit {0}
IsReadFault OutOfMemory = Unit {0}
IsReadFault (BadKey place value) = Unit {0}
IsReadFault _ = ⊥
