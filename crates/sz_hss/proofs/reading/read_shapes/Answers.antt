use Rattle.std.proofs.Common.{◌≡◌, ℕ, suc, ◌+◌, ◌-◌, ◌++◌, ap, ◌∙◌, arith}
use Rattle.std.proofs.lemmas.List.{length_push}
use Rattle.std.proofs.lemmas.Result.{err_from_is_err_and}
use Rattle.sz_hss.specs.StoredFault.{first_wrong, shape_tests, shapes_in}
use Rattle.sz_hss.proofs.Form.{allowed-step, shapes_in-step}
use Rattle.sz_hss.proofs.reading.read_shapes.Goals as goal

pub loop-k-preserved : goal.loop-k-preserved
loop-k-preserved c =
    let bytes = c.args.bytes.now in
    let k = c.loop-k.k in
    let count = c.args.count in
    let n = count - (k + 1) in
    let more : count - k ≡ suc n = omega arith in
    let inv = c.loop-k.invariant in
    let level = c.in_ok-read_shape.field-0 in
    rw c.push.ensures.items (record {
      shapes = shapes_in-step bytes c.loop-k.levels.items level k count (shapes_in bytes 0 count) (omega arith) c.in_ok-read_shape.ensures.shape inv.shapes;
      len = omega (arith, length_push c.loop-k.levels.items level, inv.len);
      allowed = allowed-step c.loop-k.levels.items level inv.allowed c.in_ok-read_shape.ensures.allowed;
      left = λ rest. inv.left rest ∙ ap (λ (m : ℕ). first_wrong (shape_tests bytes k m ++ rest)) more ∙ c.in_ok-read_shape.ensures.ok n rest;
    })

pub returns-in_err-read_shape-clause-wrong : goal.returns-in_err-read_shape-clause-wrong
returns-in_err-read_shape-clause-wrong c =
    let bytes = c.args.bytes.now in
    let k = c.loop-k.k in
    let count = c.args.count in
    let n = count - (k + 1) in
    let more : count - k ≡ suc n = omega arith in
    let p = err_from_is_err_and c.from_residual.result c.from_residual.ensures.1 in
    let wrong = c.in_err-read_shape.ensures.wrong n in
    rw (p.1, p.2) (λ rest. record {
      first = c.loop-k.invariant.left rest ∙ ap (λ (m : ℕ). first_wrong (shape_tests bytes k m ++ rest)) more ∙ (wrong rest).first;
      byte = (wrong rest).byte;
    })
