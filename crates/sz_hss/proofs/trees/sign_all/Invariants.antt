use Rattle.std.proofs.Common.{◌-◌, ◌≤◌, length, take, vec_len}
use Rattle.sz_hss.specs.Signature.{AreSignatures}
use Rattle.sz_hss.proofs.trees.sign_all.Given as goal

-- the messages so far are signed
abbrev pub invariant-runs : goal.invariant-runs
invariant-runs g l = record {
  so_far : AreSignatures l.key l.first (take (vec_len l.signatures) l.messages) l.signatures.items;
  most : vec_len l.signatures ≤ length l.messages;
}

abbrev pub decreases-runs : goal.decreases-runs
decreases-runs g l = length l.messages - vec_len l.signatures
