-- That the record fits the bytes.
use Rattle.std.specs.Prelude.{ℕ, ◌+◌, ◌≤◌, List, length, All}
use Rattle.sz_disk.specs.declared.event.Event.{Event}
use Rattle.sz_disk.specs.declared.event.Event.TheVariants.{Wrote, Synced}

-- the place behind what an event wrote
abbrev pub end_of : Event → ℕ
end_of (Wrote at old) = at + length old
end_of Synced = 0

-- each event wrote within this size
abbrev pub EachFits : ℕ → List Event → Type 0
EachFits size events = All (λ event. end_of event ≤ size) events
