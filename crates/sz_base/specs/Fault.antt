-- Which of a call's answers blame the object of the outside.
use Rattle.std.specs.Prelude.{Bool, true, false, Result, Ok, Err}
use Rattle.sz_base.specs.declared.fault.PutFault.{PutFault}
use Rattle.sz_base.specs.declared.fault.PutFault.TheVariants.{Failed, OutOfMemory}

-- a put failed by its object, and not for want of memory
abbrev pub put_failed : {T : Type 0} → Result T PutFault → Bool
put_failed (Ok value) = false
put_failed (Err Failed) = true
put_failed (Err OutOfMemory) = false
