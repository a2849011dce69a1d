use Rattle.std.proofs.Common.{List, subst}
use Rattle.sz_cms.specs.Message as message
use Rattle.sz_chain.specs.Sets.{AreAt}
use Rattle.sz_chain.specs.Candidates.{VerifiesOne}
use Rattle.sz_chain.proofs.OneSigner.{all_signers, verifies_step}
use Rattle.sz_chain.proofs.signers.verified_places.Goals as goal

pub loop-signer-preserved : goal.loop-signer-preserved
loop-signer-preserved c =
    verifies_step c.args.signers.now c.loop-signer.signer-index _ c.loop-signer-test.true c.args.places.now.items c.loop-signer.verified c.verified_by.result
    c.or-verified.result c.or-verified.ensures c.args.content.now c.loop-signer.invariant c.verified_by.ensures

pub returns : goal.returns
returns c =
    subst (λ (s : List message.Signer). AreAt c.args.places.now.items (λ _. VerifiesOne s c.args.content.now) c.loop-signer.verified)
    (all_signers c.args.signers.now c.loop-signer.signer-index c.loop-signer-test.false) c.loop-signer.invariant
