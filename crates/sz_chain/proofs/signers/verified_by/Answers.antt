use Rattle.sz_chain.proofs.OneSigner.{verified_is}
use Rattle.sz_chain.proofs.signers.verified_by.Goals as goal

pub returns : goal.returns
returns c =
    verified_is c.args.places.now.items c.args.signer.now c.args.content.now _ c.select-fitting.result c.select_verifying.result c.covered.ensures
    c.select-fitting.ensures c.select_verifying.ensures
