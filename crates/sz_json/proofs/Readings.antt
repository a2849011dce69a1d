-- What a member that was read says of the form.
use Rattle.std.proofs.Common.{◌≡◌, Bool, true, false, if◌then◌else◌, Option, Some, None, option_map, is_some, Result, Ok, Err, refl}
use Rattle.serde_json.specs.Data.{Data}
use Rattle.serde_json.specs.Find.{as_object, get}
use Rattle.sz_json.specs.Member.{in_form, needed, optional, or_fault, required}
use Rattle.sz_json.specs.Name.{name_text}
use Rattle.sz_json.specs.declared.name.Name.{Name}

formed_at : {A : Type 0} (form : Data → Option A) (name : Name) (value : Data) (found : Option A) (a : A) → form value ≡ found
    → or_fault name (option_map Some found) ≡ Ok (Some a) → form value ≡ Some a
formed_at form name value None a e h = cc
formed_at form name value (Some b) a e h = cc

optional_at : {A : Type 0} (form : Data → Option A) (name : Name) (object : Bool) (o : Option Data) (a : A)
    → (if object then in_form form name o else Err name) ≡ Ok (Some a) → (value : Data) × (form value ≡ Some a)
optional_at form name false o a h = cc
optional_at form name true None a h = cc
optional_at form name true (Some value) a h = (value, formed_at form name value (form value) a refl h)

-- some value has the form, for what was read
pub form_from_optional : {A : Type 0} (form : Data → Option A) (name : Name) (value : Data) (a : A) → optional form name value ≡ Ok (Some a)
    → (there : Data) × (form there ≡ Some a)
form_from_optional form name value a h = optional_at form name (is_some (as_object value)) (get (name_text name) value) a h

needed_at : {A : Type 0} (name : Name) (o : Result (Option A) Name) (a : A) → needed name o ≡ Ok a → o ≡ Ok (Some a)
needed_at name (Err fault) a h = cc
needed_at name (Ok None) a h = cc
needed_at name (Ok (Some b)) a h = cc

pub form_from_required : {A : Type 0} (form : Data → Option A) (name : Name) (value : Data) (a : A) → required form name value ≡ Ok a
    → (there : Data) × (form there ≡ Some a)
form_from_required form name value a h = form_from_optional form name value a (needed_at name (optional form name value) a h)
