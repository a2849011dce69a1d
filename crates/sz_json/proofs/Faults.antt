-- The first fault of a table, at a reader's early return.
use Rattle.std.proofs.Common.{Option, Some, None, Result, Ok, Err}
use Rattle.sz_json.specs.Fault.{fault_of, first_inside, or_later, IsFault}
use Rattle.sz_json.specs.declared.name.Name.{Name}
use Rattle.sz_json.specs.declared.fault.JsonFault.{JsonFault}

-- a fault of the first is that of the two
pub first_fault : (first later : Option Name) (fault : JsonFault) → IsFault first fault → IsFault (or_later first later) fault
first_fault None later fault h = λ name e. cc (h name e)
first_fault (Some found) later fault h = h

-- a fault of the member comes before those inside it
pub outer_fault : {A : Type 0} (member : Result A Name) (inside : A → Option Name) (fault : JsonFault) → IsFault (fault_of member) fault
    → IsFault (first_inside member inside) fault
outer_fault (Ok found) inside fault h = λ name e. cc (h name e)
outer_fault (Err name) inside fault h = h
