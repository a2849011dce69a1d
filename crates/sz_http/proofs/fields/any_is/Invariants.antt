use Rattle.std.proofs.Common.{List, ℕ, take, All}
use Rattle.sz_http.specs.Parts.{fields_of}
use Rattle.sz_http.specs.Framing.{IsSameText, values}
use Rattle.sz_http.proofs.fields.any_is.Given as goal

-- no field of the name so far has the value
abbrev pub invariant-loop-index : goal.invariant-loop-index
invariant-loop-index l = All (λ (text : List ℕ). IsSameText text l.value → ⊥) (values l.name (take l.index (fields_of l.fields)))
