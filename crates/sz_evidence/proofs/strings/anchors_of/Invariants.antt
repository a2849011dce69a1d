use Rattle.std.proofs.Common.{◌≡◌, take}
use Rattle.sz_evidence.proofs.strings.anchors_of.Given as goal

abbrev pub invariant-loop-one : goal.invariant-loop-one
invariant-loop-one l = l.bag ≡ take l.one-index l.each
