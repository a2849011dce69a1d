-- What a refusal of a call on the device's disk becomes as the outcome of a boot, and which outcomes blame the disk.
use Rattle.std.specs.Prelude.{◌≡◌, Bool, true, false}
use Rattle.sz_state.specs.declared.fault.StateFault.{StateFault}
use Rattle.sz_state.specs.declared.fault.StateFault.TheVariants as state
use Rattle.sz_agent.specs.declared.report.Outcome.{Outcome}
use Rattle.sz_agent.specs.declared.report.Outcome.TheVariants as outcome

-- the calls of a boot answer these refusals alone
abbrev pub IsBootFault : StateFault → Type 0
IsBootFault (state.InUse slot) = ⊥
IsBootFault (state.TooLarge size) = ⊥
IsBootFault _ = Unit {0}

abbrev pub EndsFor : StateFault → Outcome → Type 0
EndsFor state.Failed ended = ended ≡ outcome.DiskFault
EndsFor state.NotInitialised ended = ended ≡ outcome.NotInitialised
EndsFor (state.Damaged slot sequence length) ended = ended ≡ outcome.Damaged slot sequence length
EndsFor (state.BadRecord place value) ended = ended ≡ outcome.BadRecord place value
EndsFor (state.Exhausted sequence) ended = ended ≡ outcome.Exhausted sequence
EndsFor state.OutOfMemory ended = ended ≡ outcome.OutOfMemory
EndsFor (state.InUse slot) ended = ⊥
EndsFor (state.TooLarge size) ended = ⊥

abbrev pub blames_disk : Outcome → Bool
blames_disk outcome.DiskFault = true
blames_disk _ = false
