use Rattle.std.proofs.Common.{sym, ◌∙◌, refl, arith}
use Rattle.sz_chain.proofs.Rows.{anchor_found, not_anchor, not_reached}
use Rattle.sz_chain.proofs.search.has_anchor.Goals as goal
use Rattle.sz_chain.proofs.search.has_anchor.Goals.{else-node-via-then-node+else-is_some, else-node-via-else-node}

pub returns-then-is_some : goal.returns-then-is_some
returns-then-is_some c = (
  λ _. anchor_found c.args.nodes.now c.args.row.now c.loop-at.at _ _ c.loop-at-test.true c.requires c.if-node.true
      (sym c.is_some.ensures ∙ c.if-is_some.true),
  λ _. refl,
)

pub loop-at-preserved : goal.loop-at-preserved
loop-at-preserved c =
    elim c.else-node.branch [
      | else-node-via-then-node+else-is_some w ↦
          not_reached c.args.nodes.now c.args.row.now c.loop-at.at _ (omega arith) (sym w.is_some.ensures ∙ w.if-is_some.false) c.loop-at.invariant
      | else-node-via-else-node w ↦
          not_anchor c.args.nodes.now c.args.row.now c.loop-at.at _ c.loop-at-test.true w.if-node.false c.loop-at.invariant
    ]
