use Rattle.std.proofs.Common.{◌≡◌, ◌+◌, length, take}
use Rattle.std.specs.List.{flat_map}
use Rattle.sz_record.specs.Size.{capped}
use Rattle.sz_record.specs.Spelling.{long_bytes}
use Rattle.sz_record.proofs.sizes.anchors_size.Given as goal

abbrev pub invariant-loop-anchor : goal.invariant-loop-anchor
invariant-loop-anchor l = l.size ≡ capped (1 + length (flat_map long_bytes (take l.anchor-index l.anchors)))
