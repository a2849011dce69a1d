use Rattle.std.proofs.Common.{length, refl, ap, ◌∙◌, arith}
use Rattle.sz_chain.proofs.Rows.{is_row, no_way_yet, row_few, way_here, way_last}
use Rattle.sz_chain.proofs.search.has_way.Goals as goal

pub loop-issuers-init : goal.loop-issuers-init
loop-issuers-init c = (c.first_row-row.ensures, λ n few way. omega (arith, few))

pub has_anchor-requires : goal.has_anchor-requires
has_anchor-requires c = ap length c.as_slice.ensures.value ∙ c.loop-issuers.invariant.0.as_many

pub returns-then-has_anchor : goal.returns-then-has_anchor
returns-then-has_anchor c = (
  λ _. way_here c.args.nodes.now c.loop-issuers._issuers c.loop-issuers.row.items c.as_slice.result.now (omega arith) c.as_slice.ensures.value
      c.loop-issuers.invariant.0 (c.has_anchor.ensures.0 c.if-has_anchor.true),
  λ _. refl,
)

pub next_row-row-requires-clause-as_many : goal.next_row-row-requires-clause-as_many
next_row-row-requires-clause-as_many c = ap length c.as_slice-in-loop-issuers.ensures.value ∙ c.loop-issuers.invariant.0.as_many

pub next_row-row-requires-clause-counted : goal.next_row-row-requires-clause-counted
next_row-row-requires-clause-counted c =
    let slice = c.as_slice-in-loop-issuers.result.now in
    let i = c.loop-issuers._issuers in
    row_few c.args.nodes.now i slice (omega arith)
    (is_row c.args.nodes.now i c.loop-issuers.row.items slice c.as_slice-in-loop-issuers.ensures.value c.loop-issuers.invariant.0)

pub loop-issuers-preserved : goal.loop-issuers-preserved
loop-issuers-preserved c =
    let nodes = c.args.nodes.now in
    let i = c.loop-issuers._issuers in
    let row = c.loop-issuers.row.items in (
      c.next_row-row.ensures i
          (is_row nodes i row c.as_slice-in-loop-issuers.result.now c.as_slice-in-loop-issuers.ensures.value c.loop-issuers.invariant.0),
      no_way_yet nodes i row c.as_slice.result.now c.has_anchor.result c.as_slice.ensures.value c.loop-issuers.invariant.0 c.has_anchor.ensures
          c.if-has_anchor.false c.loop-issuers.invariant.1,
    )

pub has_anchor-requires-2 : goal.has_anchor-requires-2
has_anchor-requires-2 c = ap length c.as_slice-2.ensures.value ∙ c.loop-issuers.invariant.0.as_many

pub returns : goal.returns
returns c =
    way_last c.args.nodes.now c.loop-issuers._issuers c.loop-issuers.row.items c.as_slice-2.result.now c.has_anchor-2.result (omega arith)
    c.as_slice-2.ensures.value c.loop-issuers.invariant.0 c.has_anchor-2.ensures c.loop-issuers.invariant.1
