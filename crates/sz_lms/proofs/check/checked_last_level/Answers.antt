use Rattle.std.proofs.Common.{◌≡◌, ◌∙◌, drop, sym}
use Rattle.std.proofs.lemmas.List.{take_rest}
use Rattle.std.proofs.lemmas.Result.{err_from_is_err_and}
use Rattle.sz_lms.proofs.Levels.{before-head, before-top, before-level, before-upper, before-and-root}
use Rattle.sz_lms.proofs.check.checked_last_level.Goals as goal

pub returns-in_err-below-clause-first : goal.returns-in_err-below-clause-first
returns-in_err-below-clause-first c =
    let p = err_from_is_err_and c.from_residual.result c.from_residual.ensures.1 in
    rw (p.1, p.2) (sym (before-head c.args.public.now c.args.signature.now _ (sym c.in_err-below.ensures.rules)))

pub returns-in_err-top-clause-first : goal.returns-in_err-top-clause-first
returns-in_err-top-clause-first c =
    let p = err_from_is_err_and c.from_residual-in_err-top.result c.from_residual-in_err-top.ensures.1 in
    let broken = rw (take_rest c.args.public.now 4, take_rest c.args.signature.now 4) at c.in_err-top.ensures.rules in
    rw (p.1, p.2) (sym (before-top c.args.public.now c.args.signature.now _ (sym c.in_ok-below.ensures.rules) (sym broken)))

pub returns-in_err-last-clause-first : goal.returns-in_err-last-clause-first
returns-in_err-last-clause-first c =
    let key : c.in_ok-top.top.key.now ≡ drop 4 c.args.public.now = c.in_ok-top.ensures.key ∙ take_rest c.args.public.now 4 in
    let bytes : c.in_ok-top.top.bytes.now ≡ drop 4 c.args.signature.now = c.in_ok-top.ensures.bytes ∙ take_rest c.args.signature.now 4 in
    let p = err_from_is_err_and c.from_residual-in_err-last.result c.from_residual-in_err-last.ensures.1 in
    let broken = rw (c.in_ok-below.ensures.below, key, bytes) at c.in_err-last.ensures.rules in
    rw (p.1, p.2) (sym (before-level c.args.public.now c.args.signature.now _ (sym c.in_ok-below.ensures.rules) (sym broken)))

pub returns-in_err-check_upper_levels-clause-first : goal.returns-in_err-check_upper_levels-clause-first
returns-in_err-check_upper_levels-clause-first c =
    let key : c.in_ok-top.top.key.now ≡ drop 4 c.args.public.now = c.in_ok-top.ensures.key ∙ take_rest c.args.public.now 4 in
    let bytes : c.in_ok-top.top.bytes.now ≡ drop 4 c.args.signature.now = c.in_ok-top.ensures.bytes ∙ take_rest c.args.signature.now 4 in
    let p = err_from_is_err_and c.from_residual-in_err-check_upper_levels.result c.from_residual-in_err-check_upper_levels.ensures.1 in
    let broken = rw (c.in_ok-below.ensures.below, key, bytes) at c.in_err-check_upper_levels.ensures in
    let levels = rw (c.in_ok-below.ensures.below, key, bytes) at c.in_ok-last.ensures.rules in
    rw (p.1, p.2) (broken ∙ sym (before-upper c.args.public.now c.args.signature.now (sym c.in_ok-below.ensures.rules) (sym levels)))

pub returns-clause-first : goal.returns-clause-first
returns-clause-first c =
    let key : c.in_ok-top.top.key.now ≡ drop 4 c.args.public.now = c.in_ok-top.ensures.key ∙ take_rest c.args.public.now 4 in
    let bytes : c.in_ok-top.top.bytes.now ≡ drop 4 c.args.signature.now = c.in_ok-top.ensures.bytes ∙ take_rest c.args.signature.now 4 in
    let climbs = rw (c.in_ok-below.ensures.below, key, bytes) at c.in_ok-check_upper_levels.ensures in
    let levels = rw (c.in_ok-below.ensures.below, key, bytes) at c.in_ok-last.ensures.rules in
    climbs ∙ sym (before-upper c.args.public.now c.args.signature.now (sym c.in_ok-below.ensures.rules) (sym levels))

pub returns-clause-left : goal.returns-clause-left
returns-clause-left c message =
    let key : c.in_ok-top.top.key.now ≡ drop 4 c.args.public.now = c.in_ok-top.ensures.key ∙ take_rest c.args.public.now 4 in
    let bytes : c.in_ok-top.top.bytes.now ≡ drop 4 c.args.signature.now = c.in_ok-top.ensures.bytes ∙ take_rest c.args.signature.now 4 in
    let last = rw (c.in_ok-below.ensures.below, key, bytes) at c.in_ok-last.ensures.last in
    before-and-root c.args.public.now message c.args.signature.now c.in_ok-last.last.key.now c.in_ok-last.last.bytes.now last
