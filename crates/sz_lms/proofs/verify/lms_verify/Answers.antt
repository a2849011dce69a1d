use Rattle.std.proofs.Common.{◌∙◌, length, Err, sym, arith}
use Rattle.std.proofs.lemmas.Result.{err_from_is_err_and}
use Rattle.sz_lms.specs.View.{types_of}
use Rattle.sz_lms.specs.declared.fault.HssFault.TheVariants.{Length}
use Rattle.sz_lms.proofs.LawLms.{lms_law}
use Rattle.sz_lms.proofs.RuleLists.{equal-true, equal-false, ok-iff}
use Rattle.sz_lms.proofs.Levels.{lms-length, lms-fails, lms-ends, lms-rooted}
use Rattle.sz_lms.proofs.verify.lms_verify.Goals as goal

pub returns-then-public-ne-KEY_LENGTH-clause-exact : goal.returns-then-public-ne-KEY_LENGTH-clause-exact
returns-then-public-ne-KEY_LENGTH-clause-exact c =
    lms-length c.args.public.now c.args.message.now c.args.signature.now
    (equal-false (length c.args.public.now) 56 c.if-public-ne-KEY_LENGTH.true)

pub returns-in_err-level-clause-exact : goal.returns-in_err-level-clause-exact
returns-in_err-level-clause-exact c =
    let long = equal-true (length c.args.public.now) 56 c.if-public-ne-KEY_LENGTH.false in
    let p = err_from_is_err_and c.from_residual.result c.from_residual.ensures.1 in
    rw (p.1, p.2) (sym (lms-fails c.args.public.now c.args.message.now c.args.signature.now _ long (sym c.in_err-level.ensures.rules)))

pub returns-in_err-check_end-clause-exact : goal.returns-in_err-check_end-clause-exact
returns-in_err-check_end-clause-exact c =
    let level = c.in_ok-level.level in
    let long = equal-true (length c.args.public.now) 56 c.if-public-ne-KEY_LENGTH.false in
    let known = rw c.in_ok-level.ensures.key at level.in_order.known in
    let end = rw c.in_ok-level.ensures.bytes at c.in_err-check_end.ensures in
    let p = err_from_is_err_and c.from_residual-in_err-check_end.result c.from_residual-in_err-check_end.ensures.1 in
    rw (p.1, p.2)
    (sym (lms-ends c.args.public.now (types_of level.types) c.args.message.now c.args.signature.now _ long known (sym c.in_ok-level.ensures.rules) (sym end)))

pub returns-clause-exact : goal.returns-clause-exact
returns-clause-exact c =
    let level = c.in_ok-level.level in
    let long = equal-true (length c.args.public.now) 56 c.if-public-ne-KEY_LENGTH.false in
    let known = rw c.in_ok-level.ensures.key at level.in_order.known in
    let end = rw c.in_ok-level.ensures.bytes at c.in_ok-check_end.ensures in
    let root = rw (c.in_ok-level.ensures.key, c.in_ok-level.ensures.bytes) at c.check_message.ensures in
    root
    ∙ sym (lms-rooted c.args.public.now (types_of level.types) c.args.message.now c.args.signature.now long known (sym c.in_ok-level.ensures.rules) (sym end))

pub returns-then-public-ne-KEY_LENGTH-clause-valid : goal.returns-then-public-ne-KEY_LENGTH-clause-valid
returns-then-public-ne-KEY_LENGTH-clause-valid c =
    ok-iff {T = Unit {0}} (Err Length) _ _ (returns-then-public-ne-KEY_LENGTH-clause-exact c)
    (lms_law c.args.public.now c.args.message.now c.args.signature.now (λ k. omega (arith, c.type_inv.signature k)))

pub returns-in_err-level-clause-valid : goal.returns-in_err-level-clause-valid
returns-in_err-level-clause-valid c =
    ok-iff c.from_residual.result _ _ (returns-in_err-level-clause-exact c)
    (lms_law c.args.public.now c.args.message.now c.args.signature.now (λ k. omega (arith, c.type_inv.signature k)))

pub returns-in_err-check_end-clause-valid : goal.returns-in_err-check_end-clause-valid
returns-in_err-check_end-clause-valid c =
    ok-iff c.from_residual-in_err-check_end.result _ _ (returns-in_err-check_end-clause-exact c)
    (lms_law c.args.public.now c.args.message.now c.args.signature.now (λ k. omega (arith, c.type_inv.signature k)))

pub returns-clause-valid : goal.returns-clause-valid
returns-clause-valid c =
    ok-iff c.check_message.result _ _ (returns-clause-exact c)
    (lms_law c.args.public.now c.args.message.now c.args.signature.now (λ k. omega (arith, c.type_inv.signature k)))
