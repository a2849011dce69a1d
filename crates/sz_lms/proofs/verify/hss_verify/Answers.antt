use Rattle.std.proofs.Common.{[], sym, arith}
use Rattle.std.proofs.lemmas.Result.{err_from_is_err_and}
use Rattle.sz_lms.proofs.LawHss.{hss_law}
use Rattle.sz_lms.proofs.RuleLists.{ok-iff}
use Rattle.sz_lms.proofs.verify.hss_verify.Goals as goal

pub returns-in_err-check-clause-exact : goal.returns-in_err-check-clause-exact
returns-in_err-check-clause-exact c =
    let p = err_from_is_err_and c.from_residual.result c.from_residual.ensures.1 in
    rw (p.1, p.2) (sym (c.in_err-check.ensures.err c.args.message.now))

pub returns-in_err-check-clause-valid : goal.returns-in_err-check-clause-valid
returns-in_err-check-clause-valid c =
    ok-iff c.from_residual.result _ _ (returns-in_err-check-clause-exact c)
    (hss_law c.args.public.now c.args.message.now c.args.signature.now (λ k. omega (arith, c.type_inv.signature k)))

pub returns-clause-exact : goal.returns-clause-exact
returns-clause-exact c =
    c.finish.ensures c.args.public.now c.args.signature.now c.args.message.now
    (c.update.ensures c.args.public.now c.args.signature.now [] c.in_ok-check.ensures.ok)

pub returns-clause-valid : goal.returns-clause-valid
returns-clause-valid c =
    ok-iff c.finish.result _ _ (returns-clause-exact c)
    (hss_law c.args.public.now c.args.message.now c.args.signature.now (λ k. omega (arith, c.type_inv.signature k)))
