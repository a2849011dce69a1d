-- What a command prints, and the status that it then gives.
use Rattle.std.specs.Prelude.{◌≡◌, ◌⊎◌, ℕ, List, Option, Result, Ok, Err}
use Rattle.sz_base.specs.declared.fault.PutFault.{PutFault}
use Rattle.sz_base.specs.declared.fault.PutFault.TheVariants.{Failed, OutOfMemory}
use Rattle.sz_spec.specs.Told.{Appends, AppendsFront}
use Rattle.sz_commands.specs.Ending.{output_fault, no_memory}

-- The text was written; or the sink refused, and a front of the text was written.
abbrev pub IsWritten : {T : Type 0} → List ℕ → Result T PutFault → Option (List ℕ) → Option (List ℕ) → Type 0
IsWritten text (Ok done) before now = Appends before now text
IsWritten text (Err fault) before now = AppendsFront before now text

-- the status of a refusal of the sink, for a fault or for want of memory
abbrev pub refusal_of : PutFault → ℕ
refusal_of Failed = output_fault
refusal_of OutOfMemory = no_memory

-- The text was written, and the status given is the work's own; or the sink refused, for a fault or for want of
-- memory, and a front of the text was written.
abbrev pub IsPrinted : ℕ → List ℕ → ℕ → Option (List ℕ) → Option (List ℕ) → Type 0
IsPrinted own text given before now =
    ((given ≡ own) × Appends before now text)
    ⊎ (((given ≡ output_fault) ⊎ (given ≡ no_memory)) × AppendsFront before now text)
