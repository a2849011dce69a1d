use Rattle.std.proofs.Common.{◌≡◌, ◌^◌, ◌<◌, true, false, sym, ◌∙◌, arith}
use Rattle.sz_hss.proofs.LevelsTexts.{IfNone-any, decimal_once, is_shape-same, parts-of-shape, shape_text-from_parts, small-shape, uncut-is-no-shape}
use Rattle.sz_hss.proofs.levels_text.read_level.Goals as goal

pub returns-in_err-height-clause-none : goal.returns-in_err-height-clause-none
returns-in_err-height-clause-none c =
    IfNone-any c.from_residual.result _ (λ shape is e. uncut-is-no-shape c.args.text.now shape is e c.in_err-height.ensures.none)

pub returns-in_err-byte-clause-none : goal.returns-in_err-byte-clause-none
returns-in_err-byte-clause-none c =
    IfNone-any c.from_residual-in_err-byte.result _ (λ shape is e.
    c.in_err-byte.ensures.none shape.height (small-shape shape is).0
    (parts-of-shape c.args.text.now c.in_ok-height.height.now c.in_ok-height.width.now shape is e c.in_ok-height.ensures.some).0)

pub returns-in_err-byte-2-clause-none : goal.returns-in_err-byte-2-clause-none
returns-in_err-byte-2-clause-none c =
    IfNone-any c.from_residual-in_err-byte-2.result _ (λ shape is e.
    c.in_err-byte-2.ensures.none shape.width (small-shape shape is).1
    (parts-of-shape c.args.text.now c.in_ok-height.height.now c.in_ok-height.width.now shape is e c.in_ok-height.ensures.some).1)

pub returns-then-is_shape-clause-some : goal.returns-then-is_shape-clause-some
returns-then-is_shape-clause-some c =
    let a = c.in_ok-byte.field-0 in
    let b = c.in_ok-byte-2.field-0 in
    let a_fits : a < 2 ^ 64 = omega arith in
    let b_fits : b < 2 ^ 64 = omega arith in
    shape_text-from_parts c.args.text.now a b a_fits b_fits c.in_ok-height.height.now c.in_ok-height.width.now
    c.in_ok-byte.ensures.some c.in_ok-byte-2.ensures.some c.in_ok-height.ensures.some

pub returns-else-is_shape-clause-none : goal.returns-else-is_shape-clause-none
returns-else-is_shape-clause-none c shape is e =
    let a = c.in_ok-byte.field-0 in
    let b = c.in_ok-byte-2.field-0 in
    let a_fits : a < 2 ^ 64 = omega arith in
    let b_fits : b < 2 ^ 64 = omega arith in
    let small = small-shape shape is in
    let parts = parts-of-shape c.args.text.now c.in_ok-height.height.now c.in_ok-height.width.now shape is e c.in_ok-height.ensures.some in
    let height : shape.height ≡ a = decimal_once shape.height a (omega arith) a_fits (sym parts.0 ∙ c.in_ok-byte.ensures.some) in
    let width : shape.width ≡ b = decimal_once shape.width b (omega arith) b_fits (sym parts.1 ∙ c.in_ok-byte-2.ensures.some) in
    let yes : true ≡ false = sym (is_shape-same shape a b height width is) ∙ sym c.is_shape.ensures ∙ c.if-is_shape.false in
    cc yes
