use Rattle.std.proofs.Common.{◌≡◌, take, option_copied, option_to_list}
use Rattle.sz_http.specs.Parts.{fields_of}
use Rattle.sz_http.specs.Framing.{values}
use Rattle.sz_rest.proofs.asked.one_value.Given as goal

-- the fields so far have the value that was found, and no other
abbrev pub invariant-loop-index : goal.invariant-loop-index
invariant-loop-index l = values l.name (take l.index (fields_of l.fields)) ≡ option_to_list (option_copied l.found)
