use Rattle.std.proofs.Common.{◌≡◌, take, None}
use Rattle.sz_io.specs.Folder.{first_in}
use Rattle.sz_io.proofs.memory_folder.place_of.Given as goal

-- no pair so far has the path
abbrev pub invariant-loop-place : goal.invariant-loop-place
invariant-loop-place l = first_in (take l.place l.pairs) l.path ≡ None
