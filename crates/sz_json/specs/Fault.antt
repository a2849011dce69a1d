-- The first fault of a value, and what a reader that finds it answers.
use Rattle.std.specs.Prelude.{◌≡◌, ◌≢◌, ◌⊎◌, ℕ, List, [], ◌∷◌, Option, Some, None, Result, Ok, Err}
use Rattle.serde_json.specs.Data.{Data}
use Rattle.sz_json.specs.Bounded.{IsBoundedJson}
use Rattle.sz_json.specs.declared.name.Name.{Name}
use Rattle.sz_json.specs.declared.name.Name.TheVariants.{Json}
use Rattle.sz_json.specs.declared.fault.JsonFault.{JsonFault}
use Rattle.sz_json.specs.declared.fault.JsonFault.TheVariants.{Member, OutOfMemory}

-- the fault of a member, if it is at fault
abbrev pub fault_of : {A : Type 0} → Result A Name → Option Name
fault_of (Ok found) = None
fault_of (Err name) = Some name

-- the first, or else the second
abbrev pub or_later : Option Name → Option Name → Option Name
or_later (Some name) later = Some name
or_later None later = later

-- the first fault of a table
abbrev pub first_of : List (Option Name) → Option Name
first_of [] = None
first_of (fault ∷ faults) = or_later fault (first_of faults)

-- the first fault of what is inside a member, which itself comes before that
abbrev pub first_inside : {A : Type 0} → Result A Name → (A → Option Name) → Option Name
first_inside (Ok found) inside = inside found
first_inside (Err name) inside = Some name

-- the answer names a member as at fault only where it is this one; else memory ran out
abbrev pub IsFault : Option Name → JsonFault → Type 0
IsFault found fault = (name : Name) → fault ≡ Member name → found ≡ Some name

-- the answer is no want of memory
abbrev pub IsNoWant : JsonFault → Type 0
IsNoWant fault = fault ≢ OutOfMemory

-- the text is of no value, where such is what it is for a text to be of a value
abbrev pub IsOfNoValue : (List ℕ → Data → Type 0) → List ℕ → Type 0
IsOfNoValue IsOf text = (value : Data) → ¬ (IsOf text value)

-- the answer names the whole text as at fault only where it is of no value; else memory ran out
abbrev pub IsNone : (List ℕ → Data → Type 0) → List ℕ → JsonFault → Type 0
IsNone IsOf text fault = (name : Name) → fault ≡ Member name → (name ≡ Json) × IsOfNoValue IsOf text

-- a text of a source or a client is none of bounded JSON, and refused as such, or the first fault of its value has this
-- name
abbrev pub HasTextFault : (Data → Option Name) → List ℕ → Name → Type 0
HasTextFault first_fault text name =
    ((name ≡ Json) × IsOfNoValue IsBoundedJson text)
    ⊎ ((value : Data) × IsBoundedJson text value × (first_fault value ≡ Some name))

-- the answer names a member as at fault only where the text is refused so; else memory ran out
abbrev pub IsTextFault : (Data → Option Name) → List ℕ → JsonFault → Type 0
IsTextFault first_fault text fault = (name : Name) → fault ≡ Member name → HasTextFault first_fault text name
