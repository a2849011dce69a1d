use Rattle.std.proofs.Common.{◌≤◌, refl, sym, ap, ◌∙◌, true≢false, arith}
use Rattle.serde_json.specs.View.{items_view, view}
use Rattle.sz_json.specs.Member.{needed}
use Rattle.sz_json.specs.declared.name.Name.TheVariants as name
use Rattle.sz_evidence.proofs.Members.{other_count}
use Rattle.sz_evidence.proofs.identity.anchors.Goals as goal

pub returns-then-not-are_few-clause-refused : goal.returns-then-not-are_few-clause-refused
returns-then-not-are_few-clause-refused c =
    let e = rw c.in-Some.is at c.in_ok-entries.ensures.ok in (
      other_count (view c.args.value.now) (items_view c.in-Some.entries.now) c.in_ok-anchors.anchors (ap (needed name.Anchors) e)
          c.in_ok-anchors.ensures.ok
          (λ few.
          let some : 1 ≤ c.len.result = omega (arith, few.0, c.len.ensures) in
          let most : c.len.result ≤ 8 = omega (arith, few.1, c.len.ensures) in
          true≢false (sym (c.are_few.ensures.1 (some, most)) ∙ c.if-not-are_few.true)),
      refl,
    )
