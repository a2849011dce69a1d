use Rattle.std.proofs.Common.{◌≡◌, ◌++◌, take}
use Rattle.std.specs.List.{flat_map}
use Rattle.sz_record.specs.Spelling.{long_bytes}
use Rattle.sz_record.proofs.writing.put_anchors.Given as goal

abbrev pub invariant-loop-anchor : goal.invariant-loop-anchor
invariant-loop-anchor l = l.out ≡ l.initial.out ++ flat_map long_bytes (take l.anchor-index l.anchors)
