-- What the crate's own types stand for in the definitions.
use Rattle.std.specs.Prelude.{Bool, false, Result, Ok, Err}
use Rattle.sz_commands.specs.declared.failure.Failure.{Failure}
use Rattle.sz_commands.specs.declared.failure.Failure.TheVariants.{Usage, NoFile, FileFault, DiskFault, ClockFault}
use Rattle.sz_commands.specs.declared.failure.Failure.TheVariants.{EntropyFault, ListenerFault, OutOfMemory}
use Rattle.sz_commands.specs.declared.failure.Failure.TheVariants.{NotInitialised, Damaged, Exhausted, LastSequence}
use Rattle.sz_commands.specs.declared.failure.Failure.TheVariants.{LevelsRefused, SizeRefused, TooLarge, InUse}
use Rattle.sz_commands.specs.declared.failure.Failure.TheVariants.{NoSource, MemberRefused, SlotInUse}
use Rattle.sz_commands.specs.Failure as spec

-- the failure that a value of the program stands for
abbrev pub failure_of : Failure → spec.Failure
failure_of Usage = spec.Usage
failure_of (NoFile path) = spec.NoFile path.now
failure_of (FileFault path) = spec.FileFault path.now
failure_of DiskFault = spec.DiskFault
failure_of ClockFault = spec.ClockFault
failure_of EntropyFault = spec.EntropyFault
failure_of ListenerFault = spec.ListenerFault
failure_of NoSource = spec.NoSource
failure_of NotInitialised = spec.NotInitialised
failure_of (Damaged place value) = spec.Damaged place value
failure_of (Exhausted next end) = spec.Exhausted next end
failure_of LastSequence = spec.LastSequence
failure_of (LevelsRefused word) = spec.LevelsRefused word.now
failure_of (SizeRefused size) = spec.SizeRefused size
failure_of (TooLarge size) = spec.TooLarge size
failure_of (MemberRefused name) = spec.MemberRefused name.now
failure_of InUse = spec.InUse
failure_of (SlotInUse slot) = spec.SlotInUse slot
failure_of OutOfMemory = spec.OutOfMemory

-- an answer in which the folder is blamed
abbrev pub faults_folder : {T : Type 0} → Result T Failure → Bool
faults_folder (Ok value) = false
faults_folder (Err failure) = spec.blames_folder (failure_of failure)
