use Rattle.std.proofs.Common.{◌≡◌, [], take}
use Rattle.sz_http.specs.Parts.{fields_of}
use Rattle.sz_http.specs.Framing.{values}
use Rattle.sz_http.proofs.fields.has.Given as goal

-- no field so far has the name
abbrev pub invariant-loop-index : goal.invariant-loop-index
invariant-loop-index l = values l.name (take l.index (fields_of l.fields)) ≡ []
