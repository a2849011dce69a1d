use Rattle.std.proofs.Common.{◌≡◌, take}
use Rattle.std.specs.List.{concat}
use Rattle.sz_cms.proofs.writing.joined.Given as goal

abbrev pub invariant-loop-item : goal.invariant-loop-item
invariant-loop-item l = l.bytes ≡ concat (take l.item-index l.item-items)
