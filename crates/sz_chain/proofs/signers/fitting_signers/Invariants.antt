use Rattle.std.proofs.Common.{◌≤◌, length, map, take}
use Rattle.sz_cms.specs.Kind.{identifier_of}
use Rattle.sz_cms.specs.View.{signer_of}
use Rattle.sz_chain.proofs.OneSigner.{AreAmong}
use Rattle.sz_chain.proofs.signers.fitting_signers.Given as goal

-- of the signers so far these have a digest that fits
abbrev pub invariant-loop-signer : goal.invariant-loop-signer
invariant-loop-signer l =
    AreAmong (identifier_of l.signed.kind) l.content (map signer_of (take l.signer-index l.signer-items)) (map signer_of l.fitting.items)
    × (length l.fitting.items ≤ l.signer-index)
