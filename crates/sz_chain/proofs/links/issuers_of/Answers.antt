use Rattle.sz_chain.proofs.Issued.{links_are}
use Rattle.sz_chain.proofs.links.issuers_of.Goals as goal

pub returns : goal.returns
returns c =
    let valid = c.is_valid_at.ensures.0 c.if-not-is_valid_at.false in
    links_are c.args.when.0 c.args.places.now c.args.cert.now c.args.fresh c.places_within-named.result c.verifying.result c.if-cert.false valid
    c.places_within-named.ensures c.verifying.ensures
