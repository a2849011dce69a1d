use Rattle.std.proofs.Common.{◌≡◌, ◌≤◌, ◌-◌, length, take, IfSome}
use Rattle.sz_io.specs.Folder.{readable_at}
use Rattle.sz_io.proofs.read.read_chunks.Given as goal

-- what was read so far is a front of the file, and the folder is as it was
abbrev pub invariant-loop-bytes : goal.invariant-loop-bytes
invariant-loop-bytes g l = record {
  front : IfSome (g.F.Folder.files l.folder) (λ told. l.bytes ≡ take (length l.bytes) (readable_at told l.path));
  within : length l.bytes ≤ l.size;
  files : g.F.Folder.files l.folder ≡ g.F.Folder.files l.fn.folder;
  faults : g.F.Folder.faults l.folder ≡ g.F.Folder.faults l.fn.folder;
}

abbrev pub decreases-loop-bytes : goal.decreases-loop-bytes
decreases-loop-bytes g l = l.size - length l.bytes
