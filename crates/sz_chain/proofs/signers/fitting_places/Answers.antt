use Rattle.std.proofs.Common.{List, subst}
use Rattle.sz_cms.specs.Message as message
use Rattle.sz_chain.specs.Sets.{AreAt}
use Rattle.sz_chain.specs.Candidates.{FitsOne}
use Rattle.sz_chain.proofs.OneSigner.{all_signers, fits_step}
use Rattle.sz_chain.proofs.signers.fitting_places.Goals as goal

pub loop-signer-preserved : goal.loop-signer-preserved
loop-signer-preserved c =
    fits_step c.args.signers.now c.loop-signer.signer-index _ c.loop-signer-test.true c.args.places.now.items c.loop-signer.fitting c.select.result
    c.or-fitting.result c.or-fitting.ensures c.loop-signer.invariant c.select.ensures

pub returns : goal.returns
returns c =
    subst (λ (s : List message.Signer). AreAt c.args.places.now.items (λ _. FitsOne s) c.loop-signer.fitting)
    (all_signers c.args.signers.now c.loop-signer.signer-index c.loop-signer-test.false) c.loop-signer.invariant
