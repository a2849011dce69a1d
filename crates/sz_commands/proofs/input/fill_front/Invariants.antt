use Rattle.std.proofs.Common.{◌≡◌, ◌≤◌, ◌-◌, length, take, IfSome}
use Rattle.sz_io.specs.Folder.{readable_at}
use Rattle.sz_commands.proofs.input.fill_front.Given as goal

-- the buffer holds a front of the file, and the folder is as it was
abbrev pub invariant-loop-count : goal.invariant-loop-count
invariant-loop-count g l = record {
  front : IfSome (g.F.Folder.files l.fn.folder) (λ told. take l.count l.into ≡ take l.count (readable_at told l.path));
  within : l.count ≤ length l.into;
  files : g.F.Folder.files l.folder ≡ g.F.Folder.files l.fn.folder;
  faults : g.F.Folder.faults l.folder ≡ g.F.Folder.faults l.fn.folder;
}

abbrev pub decreases-loop-count : goal.decreases-loop-count
decreases-loop-count g l = length l.into - l.count
