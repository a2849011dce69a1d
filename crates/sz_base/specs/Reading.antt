-- What the readers of texts answer.
use Rattle.std.specs.Prelude.{◌≡◌, ◌⊎◌, ◌↔◌, IfOk, List, ℕ, Result, Ok, Err}
use Rattle.sz_base.specs.declared.fault.BaseFault.{BaseFault}
use Rattle.sz_base.specs.declared.fault.BaseFault.TheVariants.{Form, OutOfMemory}

-- of a reader that gives a text of the form as it stands
pub record ReadsText (IsForm : List ℕ → Type 0) (text : List ℕ) (answer : Result (List ℕ) BaseFault) : Type 0 where
  pub ok : IfOk answer (λ value. value ≡ text)
  pub form : IfOk answer (λ _. IsForm text)
  pub refused : (answer ≡ Err Form) ↔ ¬ (IsForm text)

-- of a reader that gives what the text stands for
pub record ReadsValue {T : Type 0} (StandsFor : T → Type 0) (answer : Result T BaseFault) : Type 0 where
  pub ok : IfOk answer StandsFor
  pub refused : (answer ≡ Err Form) ↔ ((value : T) → ¬ (StandsFor value))

-- the value, unless memory ran out
abbrev pub GivesUnlessMemory : {T : Type 0} → Result T BaseFault → T → Type 0
GivesUnlessMemory answer value = (answer ≡ Ok value) ⊎ (answer ≡ Err OutOfMemory)
