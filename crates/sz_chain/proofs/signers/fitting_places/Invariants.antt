use Rattle.std.proofs.Common.{map, take}
use Rattle.sz_cms.specs.View.{signer_of}
use Rattle.sz_chain.specs.Sets.{AreAt}
use Rattle.sz_chain.specs.Candidates.{FitsOne}
use Rattle.sz_chain.proofs.signers.fitting_places.Given as goal

abbrev pub invariant-loop-signer : goal.invariant-loop-signer
invariant-loop-signer l = AreAt l.places.items (λ _. FitsOne (map signer_of (take l.signer-index l.signers))) l.fitting
