use Rattle.std.proofs.Common.{◌≡◌, ◌+◌, ◌-◌, ◌∙◌, suc, refl, sym, arith}
use Rattle.std.proofs.lemmas.Result.{err_from_is_err_and}
use Rattle.sz_lms.specs.View.{types_of}
use Rattle.sz_lms.proofs.Levels.{next-passes, next-fails, last-itself, last-below, level-last}
use Rattle.sz_lms.proofs.hss.last_level.Goals as goal

pub loop-init : goal.loop-init
loop-init c =
    let none : c.args.below - 0 ≡ c.args.below = omega arith in
    record { left = rw none refl; last = λ last rest h. rw none at h }

pub returns-in_err-level-clause-rules : goal.returns-in_err-level-clause-rules
returns-in_err-level-clause-rules c =
    let here = c.loop in
    let more : c.args.below - here.counter ≡ suc (c.args.below - (here.counter + 1)) = omega arith in
    let p = err_from_is_err_and c.from_residual.result c.from_residual.ensures.1 in
    rw (p.1, p.2)
    (sym (here.invariant.left
    ∙ next-fails (c.args.below - here.counter) (c.args.below - (here.counter + 1)) here.level.key.now (types_of here.level.types) here.level.bytes.now _ more
    here.level.in_order.known here.level.in_order.in_order (sym c.in_err-level.ensures.rules)))

pub loop-preserved : goal.loop-preserved
loop-preserved c =
    let here = c.loop in
    let next = c.in_ok-level in
    let more : c.args.below - here.counter ≡ suc (c.args.below - (here.counter + 1)) = omega arith in
    record {
      left =
          here.invariant.left
          ∙ next-passes (c.args.below - here.counter) (c.args.below - (here.counter + 1)) here.level.key.now
          (types_of here.level.types) here.level.bytes.now more
          here.level.in_order.known here.level.in_order.in_order (sym next.ensures.rules)
          ∙ rw (next.ensures.key, next.ensures.bytes) refl;
      last = λ last rest h.
          here.invariant.last last rest
          (last-below (c.args.below - here.counter) (c.args.below - (here.counter + 1)) here.level.key.now
          (types_of here.level.types) here.level.bytes.now last rest more
          here.level.in_order.known (rw (next.ensures.key, next.ensures.bytes) at h));
    }

pub returns-in_err-check_end-clause-rules : goal.returns-in_err-check_end-clause-rules
returns-in_err-check_end-clause-rules c =
    let here = c.loop in
    let none : c.args.below - here.counter ≡ 0 = omega arith in
    let p = err_from_is_err_and c.from_residual-in_err-check_end.result c.from_residual-in_err-check_end.ensures.1 in
    rw (p.1, p.2)
    (c.in_err-check_end.ensures
    ∙ sym (here.invariant.left
    ∙ level-last (c.args.below - here.counter) here.level.key.now (types_of here.level.types) here.level.bytes.now none
    here.level.in_order.known here.level.in_order.in_order))

pub returns-clause-rules : goal.returns-clause-rules
returns-clause-rules c =
    let here = c.loop in
    let none : c.args.below - here.counter ≡ 0 = omega arith in
    c.in_ok-check_end.ensures
    ∙ sym (here.invariant.left
    ∙ level-last (c.args.below - here.counter) here.level.key.now (types_of here.level.types) here.level.bytes.now none
    here.level.in_order.known here.level.in_order.in_order)

pub returns-clause-last : goal.returns-clause-last
returns-clause-last c =
    let here = c.loop in
    let none : c.args.below - here.counter ≡ 0 = omega arith in
    here.invariant.last here.level.key.now here.level.bytes.now
    (last-itself (c.args.below - here.counter) here.level.key.now here.level.bytes.now none)
