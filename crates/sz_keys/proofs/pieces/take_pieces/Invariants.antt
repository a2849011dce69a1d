use Rattle.std.proofs.Common.{◌≡◌, ℕ, ◌≤◌, ◌-◌, List, [], take, IfSome}
use Rattle.sz_io.specs.Folder.{readable_at}
use Rattle.sz_lms.specs.Check.{Checks}
use Rattle.sz_keys.proofs.pieces.take_pieces.Given as goal

-- the check was given a front of the file, and the folder is as it was
abbrev pub invariant-loop-taken : goal.invariant-loop-taken
invariant-loop-taken g l = record {
  front : IfSome (g.F.Folder.files l.fn.folder) (λ told. (public signature : List ℕ) → Checks l.fn.check public signature []
      → Checks l.check public signature (take l.taken (readable_at told l.path)));
  within : l.taken ≤ l.size;
  files : g.F.Folder.files l.folder ≡ g.F.Folder.files l.fn.folder;
  faults : g.F.Folder.faults l.folder ≡ g.F.Folder.faults l.fn.folder;
}

abbrev pub decreases-loop-taken : goal.decreases-loop-taken
decreases-loop-taken g l = l.size - l.taken
