-- The numbers with which the program ends.
use Rattle.std.specs.Prelude.{ℕ}
use Rattle.sz_commands.specs.declared.ending.Ending.{Ending}
use Rattle.sz_commands.specs.declared.ending.Ending.TheVariants.{Done, Usage, NotValid, Restart, NoSource, DiskFault, ClockFault}
use Rattle.sz_commands.specs.declared.ending.Ending.TheVariants.{File, EntropyFault, ListenerFault, NotInitialised, Damaged}
use Rattle.sz_commands.specs.declared.ending.Ending.TheVariants.{Exhausted, Refused, OutOfMemory}

abbrev pub number_of : Ending → ℕ
number_of Done = 0
number_of Usage = 2
number_of NotValid = 3
number_of Restart = 10
number_of NoSource = 20
number_of DiskFault = 30
number_of ClockFault = 31
number_of File = 33
number_of EntropyFault = 34
number_of ListenerFault = 35
number_of NotInitialised = 40
number_of Damaged = 41
number_of Exhausted = 50
number_of Refused = 60
number_of OutOfMemory = 70

-- that of an output that failed, which takes the place of the work's own
abbrev pub output_fault : ℕ
output_fault = 32

-- that of want of memory
abbrev pub no_memory : ℕ
no_memory = 70
