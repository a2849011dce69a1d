use Rattle.std.proofs.Common.{ℕ, List, length, ap, ◌∙◌, subst, arith}
use Rattle.sz_chain.specs.Lists.{AreLists}
use Rattle.sz_chain.proofs.Reading.{all_strings, list_none, list_one, one_longer}
use Rattle.sz_chain.proofs.lists.current_lists.Goals as goal
use Rattle.sz_chain.proofs.lists.current_lists.Goals.{in-Ok, in_default}

pub loop-bytes-preserved : goal.loop-bytes-preserved
loop-bytes-preserved c =
    let items = c.as_slice-bytes-items.result.now in
    let i = c.loop-bytes.bytes-index in
    elim c.match-read.branch [
      | in-Ok w ↦
          let e = ap (λ v. v.items) w.lists-is ∙ w.push.ensures.items in (
            list_one items i _ c.loop-bytes-test.true c.args.when.0 c.args.places.now c.args.wanted c.loop-bytes.lists.items c.match-read.lists.items _ e
                w.in-Ok.ensures.ok w.in-Ok.ensures.only w.list_issuers-issuers.ensures c.loop-bytes.invariant.0,
            one_longer _ _ _ i e c.loop-bytes.invariant.1,
          )
      | in_default w ↦
          let e = ap (λ v. v.items) w.lists-is in (
            list_none items i _ c.loop-bytes-test.true c.args.when.0 c.args.places.now c.args.wanted c.loop-bytes.lists.items c.match-read.lists.items e
                w.in_default.ensures.only c.loop-bytes.invariant.0,
            omega (arith, ap length e, c.loop-bytes.invariant.1),
          )
    ]

pub returns : goal.returns
returns c =
    subst (λ (s : List (List ℕ)). AreLists c.args.when.0 s c.args.places.now c.args.wanted c.loop-bytes.lists.items)
    (all_strings c.as_slice-bytes-items.result.now c.loop-bytes.bytes-index c.args.crls.now c.as_slice-bytes-items.ensures.each c.loop-bytes-test.false)
    c.loop-bytes.invariant.0
