use Rattle.std.proofs.Common.{◌+◌, take}
use Rattle.std.proofs.lemmas.List.{take_more}
use Rattle.sz_chain.proofs.Anchored.{in_one_more}
use Rattle.sz_chain.proofs.links.in_one.Goals as goal

pub loop-issuers-preserved : goal.loop-issuers-preserved
loop-issuers-preserved c =
    let links = c.args.links.now in
    let i = c.loop-issuers.issuers-index in
    in_one_more (take i links) (take (i + 1) links) _ c.loop-issuers.all c.or-all.result (take_more links i _ c.loop-issuers-test.true)
    c.loop-issuers.invariant c.or-all.ensures
