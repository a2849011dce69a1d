use Rattle.std.proofs.Common.{true≢false, sym, ◌∙◌, [], arith}
use Rattle.std.proofs.lemmas.Option.{none-some}
use Rattle.sz_cms.specs.View.{covered_bytes}
use Rattle.sz_lms.proofs.LawHss.{hss_law}
use Rattle.sz_lms.proofs.RuleLists.{ok-iff}
use Rattle.sz_chain.proofs.verify.verifies.Goals as goal

pub returns-in_default : goal.returns-in_default
returns-in_default c =
    let message = covered_bytes c.args.covered.now in
    let law = hss_law c.args.key.now message c.args.signature.now (λ k. omega (arith, c.type_inv.signature k)) in (
      λ e. absurd (true≢false (sym e)),
      λ ok. absurd (none-some _ (sym (law.1 ok) ∙ c.in_default.ensures.err message)),
    )

pub returns : goal.returns
returns c =
    let message = covered_bytes c.args.covered.now in
    let law = hss_law c.args.key.now message c.args.signature.now (λ k. omega (arith, c.type_inv.signature k)) in
    let exact = c.finish.ensures c.args.key.now c.args.signature.now message
    (c.update_covered.ensures c.args.key.now c.args.signature.now [] c.in-Ok.ensures.ok) in
    let iff = ok-iff c.finish.result _ _ exact law in (
      λ e. iff.0 (sym c.is_ok.ensures.value ∙ e),
      λ ok. c.is_ok.ensures.value ∙ iff.1 ok,
    )
