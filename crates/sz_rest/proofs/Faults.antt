-- The first fault of a reply at a reader's early return, and what it says that there is none.
use Rattle.std.proofs.Common.{◌≡◌, ℕ, List, length, nat_le, Option, Some, None, IfSome, Result, Ok, Err, refl, inl, inr}
use Rattle.std.proofs.lemmas.Bool.{cases_Bool, leb-true, le-leb}
use Rattle.std.specs.Option.{option_or}
use Rattle.sz_json.specs.Fault.{fault_of}
use Rattle.sz_json.specs.Fault as json_fault
use Rattle.sz_json.specs.declared.fault.JsonFault.{JsonFault}
use Rattle.sz_json.specs.declared.fault.JsonFault.TheVariants as json
use Rattle.sz_json.specs.declared.name.Name.{Name}
use Rattle.sz_rest.specs.Fault.{of_json}
use Rattle.sz_rest.specs.Reply.{Fits, IsFault, member_fault, size_fault, size_fault_where}
use Rattle.sz_rest.specs.declared.fault.RestFault.{RestFault}
use Rattle.sz_base.specs.Evidence.{most_artifact_bytes}

-- a fault of the first is that of the two
pub first_fault : (first later : Option RestFault) (fault : RestFault) → IsFault first fault → IsFault (option_or first later) fault
first_fault None later fault h = λ other. cc (h other)
first_fault (Some found) later fault h = h

-- a member's own fault comes before those of what it holds
pub own_fault : {A : Type 0} (member : Result A Name) (inside : A → Option RestFault) (fault : JsonFault)
    → json_fault.IsFault (fault_of member) fault → IsFault (member_fault member inside) (of_json fault)
own_fault member inside json.OutOfMemory h = λ other. absurd (other refl)
own_fault (Ok found) inside (json.Member name) h = λ other. cc (h name refl)
own_fault (Err found) inside (json.Member name) h = λ other. cc (h name refl)

-- ---- no fault

pub read_member : {A : Type 0} (member : Result A Name) (inside : A → Option RestFault) → member_fault member inside ≡ None
    → (found : A) × (member ≡ Ok found) × (inside found ≡ None)
read_member (Ok found) inside h = (found, refl, h)
read_member (Err name) inside h = cc

pub neither : (first later : Option RestFault) → option_or first later ≡ None → (first ≡ None) × (later ≡ None)
neither None later h = (refl, h)
neither (Some fault) later h = cc

-- an artifact has no fault of its size exactly where it fits
pub fitting : (artifact : List ℕ) → size_fault artifact ≡ None → Fits artifact
fitting artifact h = elim (cases_Bool (nat_le (length artifact) most_artifact_bytes)) [
  | inl most ↦ leb-true (length artifact) most_artifact_bytes most
  | inr over ↦ cc (rw over at h)
]

pub size_fault_none : (artifact : List ℕ) → Fits artifact → size_fault artifact ≡ None
size_fault_none artifact h = rw (le-leb (length artifact) most_artifact_bytes h)

pub fitting_where : (artifact : Option (List ℕ)) → size_fault_where artifact ≡ None → IfSome artifact Fits
fitting_where None h = tt
fitting_where (Some artifact) h = fitting artifact h

pub size_fault_where_none : (artifact : Option (List ℕ)) → IfSome artifact Fits → size_fault_where artifact ≡ None
size_fault_where_none None h = refl
size_fault_where_none (Some artifact) h = size_fault_none artifact h
