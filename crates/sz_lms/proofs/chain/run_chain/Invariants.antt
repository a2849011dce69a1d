use Rattle.std.proofs.Common.{◌≡◌, ◌-◌, ◌++◌, length, take, drop}
use Rattle.std.specs.Int.{w16, w32, to_be_bytes}
use Rattle.sz_lms.specs.Ots.{chain}
use Rattle.sz_lms.proofs.chain.run_chain.Given as goal

-- the rest of the chain leads on from the value in the buffer
abbrev pub invariant-loop-j : goal.invariant-loop-j
invariant-loop-j l = record {
  head : take 22 l.input ≡ l.id ++ to_be_bytes w32 l.q ++ to_be_bytes w16 l.index;
  ahead : chain l.id l.q l.index l.j (l.to - l.j) (drop 23 l.input) ≡ chain l.id l.q l.index l.from (l.to - l.from) l.value;
  size : length l.input ≡ 55;
}
