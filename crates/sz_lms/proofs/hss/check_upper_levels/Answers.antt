use Rattle.std.proofs.Common.{◌≡◌, ◌+◌, ◌-◌, ◌∙◌, suc, refl, sym, arith}
use Rattle.std.proofs.lemmas.Result.{IfOk-at_ok, err_from_is_err_and}
use Rattle.sz_lms.specs.Rules.{next_key, next_bytes}
use Rattle.sz_lms.specs.View.{types_of}
use Rattle.sz_lms.proofs.RuleLists.{unbroken}
use Rattle.sz_lms.proofs.Levels.{next-passes, next-none, upper-fails, upper-passes, upper-none}
use Rattle.sz_lms.proofs.hss.check_upper_levels.Goals as goal

pub loop-init : goal.loop-init
loop-init c =
    let none : c.args.below - 0 ≡ c.args.below = omega arith in
    record { in_order = rw none c.requires; left = rw none refl }

pub unwrap-next-requires : goal.unwrap-next-requires
unwrap-next-requires c =
    let here = c.loop in
    let more : c.args.below - here.counter ≡ suc (c.args.below - (here.counter + 1)) = omega arith in
    unbroken c.next.result
    (c.next.ensures.rules
    ∙ next-none (c.args.below - here.counter) (c.args.below - (here.counter + 1)) here.level.key.now (types_of here.level.types) here.level.bytes.now more
    here.level.in_order.known here.level.in_order.in_order here.invariant.in_order)

pub returns-in_err-check_message : goal.returns-in_err-check_message
returns-in_err-check_message c =
    let here = c.loop in
    let type = types_of here.level.types in
    let more : c.args.below - here.counter ≡ suc (c.args.below - (here.counter + 1)) = omega arith in
    let key = IfOk-at_ok (λ level. level.key.now ≡ next_key type here.level.bytes.now) c.unwrap-next.ensures c.next.ensures.key in
    let p = err_from_is_err_and c.from_residual.result c.from_residual.ensures.1 in
    rw (p.1, p.2)
    (sym (here.invariant.left
    ∙ upper-fails (c.args.below - here.counter) (c.args.below - (here.counter + 1)) here.level.key.now type here.level.bytes.now _ more
    here.level.in_order.known (rw key at (sym c.in_err-check_message.ensures))))

pub loop-preserved : goal.loop-preserved
loop-preserved c =
    let here = c.loop in
    let type = types_of here.level.types in
    let n = c.args.below - here.counter in
    let m = c.args.below - (here.counter + 1) in
    let more : c.args.below - here.counter ≡ suc (c.args.below - (here.counter + 1)) = omega arith in
    let key = IfOk-at_ok (λ level. level.key.now ≡ next_key type here.level.bytes.now) c.unwrap-next.ensures c.next.ensures.key in
    let bytes = IfOk-at_ok (λ level. level.bytes.now ≡ next_bytes type here.level.bytes.now) c.unwrap-next.ensures c.next.ensures.bytes in
    let next = next-none n m here.level.key.now type here.level.bytes.now more here.level.in_order.known here.level.in_order.in_order here.invariant.in_order in
    record {
      in_order =
          rw (key, bytes)
          (sym (next-passes n m here.level.key.now type here.level.bytes.now more here.level.in_order.known here.level.in_order.in_order next)
          ∙ here.invariant.in_order);
      left =
          here.invariant.left
          ∙ upper-passes n m here.level.key.now type here.level.bytes.now more here.level.in_order.known
          (rw key at (sym c.in_ok-check_message.ensures))
          ∙ rw (key, bytes) refl;
    }

pub returns : goal.returns
returns c =
    let here = c.loop in
    let none : c.args.below - here.counter ≡ 0 = omega arith in
    upper-none (c.args.below - here.counter) here.level.key.now here.level.bytes.now none ∙ sym here.invariant.left
