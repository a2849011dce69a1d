-- What it says of a table that it has no fault.
use Rattle.std.proofs.Common.{◌≡◌, Option, Some, None, Result, Ok, Err, refl}
use Rattle.sz_json.specs.Fault.{fault_of, first_inside, or_later}
use Rattle.sz_json.specs.declared.name.Name.{Name}

-- a member that is not at fault was read
pub read_member : {A : Type 0} (member : Result A Name) → fault_of member ≡ None → (found : A) × (member ≡ Ok found)
read_member (Ok found) h = (found, refl)
read_member (Err name) h = cc

-- and so was one in which nothing is at fault
pub read_inside : {A : Type 0} (member : Result A Name) (inside : A → Option Name) → first_inside member inside ≡ None
    → (found : A) × (member ≡ Ok found) × (inside found ≡ None)
read_inside (Ok found) inside h = (found, refl, h)
read_inside (Err name) inside h = cc

-- of two none is at fault
pub neither : (first later : Option Name) → or_later first later ≡ None → (first ≡ None) × (later ≡ None)
neither None later h = (refl, h)
neither (Some name) later h = cc
