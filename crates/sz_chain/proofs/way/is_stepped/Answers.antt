use Rattle.std.proofs.Common.{List, sym, subst}
use Rattle.sz_chain.specs.Ways.{AreNodes}
use Rattle.sz_chain.specs.declared.node.Node.{Node}
use Rattle.sz_chain.proofs.Climbing.{chain_from_way, way_from_chain}
use Rattle.sz_chain.proofs.way.is_stepped.Goals as goal

pub returns : goal.returns
returns c = λ crls steps.
    let nodes = c.as_slice.result.now in
    let are = subst (λ (xs : List Node). AreNodes crls c.args.when.0 c.args.signers c.args.places.now xs) (sym c.as_slice.ensures.value)
    (c.nodes_of-nodes.ensures crls steps) in (
      λ e. chain_from_way crls c.args.when.0 c.args.signers c.args.places.now nodes are (c.has_way.ensures.0 e),
      λ is. c.has_way.ensures.1 (way_from_chain crls c.args.when.0 c.args.signers c.args.places.now nodes are is),
    )
