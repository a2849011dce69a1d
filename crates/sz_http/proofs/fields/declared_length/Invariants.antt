use Rattle.std.proofs.Common.{take}
use Rattle.sz_http.specs.Parts.{fields_of}
use Rattle.sz_http.specs.Framing.{Declare, values, content_length}
use Rattle.sz_http.proofs.fields.declared_length.Given as goal

-- the fields so far declare this
abbrev pub invariant-loop-index : goal.invariant-loop-index
invariant-loop-index l = Declare (values content_length (take l.index (fields_of l.fields))) l.declared
