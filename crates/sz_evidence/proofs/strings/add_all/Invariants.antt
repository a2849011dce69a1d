use Rattle.std.proofs.Common.{◌≡◌, ◌++◌, map, take}
use Rattle.sz_evidence.proofs.strings.add_all.Given as goal

abbrev pub invariant-loop-one : goal.invariant-loop-one
invariant-loop-one g l = l.bag ≡ l.initial.bag ++ map (λ one. one.now) (take l.one-index l.each)
