use Rattle.std.proofs.Common.{◌≡◌, sum, take}
use Rattle.sz_record.specs.Size.{capped}
use Rattle.sz_record.proofs.sizes.total.Given as goal

abbrev pub invariant-loop-part : goal.invariant-loop-part
invariant-loop-part l = l.total ≡ capped (sum (take l.part-index l.parts))
