use Rattle.std.proofs.Common.{◌∙◌, sym, arith}
use Rattle.sz_dns.proofs.Fields.{fields_at}
use Rattle.sz_dns.proofs.Splits.{number_in, rejoined}
use Rattle.sz_dns.proofs.record.fields_of.Goals as goal

pub returns-clause-some : goal.returns-clause-some
returns-clause-some c =
    let fixed = c.in_ok-fixed.ensures.cases in
    let contents = c.in_ok-contents.ensures.cases in
    let after = rejoined c.in_ok-fixed.after.now c.in_ok-contents.contents.now c.in_ok-contents.rest.now _ contents.1 contents.2 in
    fields_at c.args.bytes.now c.in_ok-contents.contents.now c.in_ok-contents.rest.now c.number.result c.number-2.result
    (λ k. omega (arith, c.type_inv.bytes k)) fixed.0 (sym fixed.2 ∙ after)
    (c.number.ensures ∙ number_in c.args.bytes.now c.in_ok-fixed.fixed.now 10 0 fixed.1 (omega arith))
    (c.number-2.ensures ∙ number_in c.args.bytes.now c.in_ok-fixed.fixed.now 10 2 fixed.1 (omega arith))
    (contents.3 ∙ c.from.ensures ∙ c.number-size.ensures
    ∙ number_in c.args.bytes.now c.in_ok-fixed.fixed.now 10 8 fixed.1 (omega arith))
