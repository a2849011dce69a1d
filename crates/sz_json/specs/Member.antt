-- A member of a value: not there, in its form, or at fault, which is said by its name.
use Rattle.std.specs.Prelude.{if◌then◌else◌, Option, Some, None, option_map, is_some, Result, Ok, Err}
use Rattle.serde_json.specs.Data.{Data}
use Rattle.serde_json.specs.Find.{as_object, get}
use Rattle.sz_json.specs.Name.{name_text}
use Rattle.sz_json.specs.declared.name.Name.{Name}

-- what is there, or the fault of the name
abbrev pub or_fault : {A : Type 0} → Name → Option A → Result A Name
or_fault name None = Err name
or_fault name (Some found) = Ok found

-- what is not there is no fault, and what is there has the form
abbrev pub in_form : {A : Type 0} → (Data → Option A) → Name → Option Data → Result (Option A) Name
in_form form name None = Ok None
in_form form name (Some value) = or_fault name (option_map Some (form value))

-- The member of this name in this form, where the object has one. A value that is no object is at fault under
-- the name that is asked for.
abbrev pub optional : {A : Type 0} → (Data → Option A) → Name → Data → Result (Option A) Name
optional form name value =
    if is_some (as_object value) then in_form form name (get (name_text name) value) else Err name

-- a member that has to be there
abbrev pub needed : {A : Type 0} → Name → Result (Option A) Name → Result A Name
needed name (Ok found) = or_fault name found
needed name (Err fault) = Err fault

-- the member of this name in this form, which the object has to have
abbrev pub required : {A : Type 0} → (Data → Option A) → Name → Data → Result A Name
required form name value = needed name (optional form name value)
