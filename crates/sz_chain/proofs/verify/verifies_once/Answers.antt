use Rattle.sz_cms.specs.View.{covered_bytes}
use Rattle.sz_chain.proofs.Verified.{verified_anew, verified_earlier}
use Rattle.sz_chain.proofs.verify.verifies_once.Goals as goal

pub returns-in-Some : goal.returns-in-Some
returns-in-Some c =
    verified_earlier c.args.places.now c.args.wanted (covered_bytes c.args.covered.now) c.args.signature.now c.args.verified c.args.at c.in-Some.other _
    c.has.result c.requires.within c.requires.told c.has.ensures c.in-Some.ensures

pub returns-in-None : goal.returns-in-None
returns-in-None c =
    verified_anew c.args.places.now c.args.wanted (covered_bytes c.args.covered.now) c.args.signature.now c.args.at _ c.verifies.result c.requires.within
    c.verifies.ensures
