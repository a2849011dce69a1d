use Rattle.std.proofs.Common.{◌≡◌, ◌+◌, ◌-◌, ◌++◌, suc, length, take, drop, ap, ◌∙◌, sym, arith}
use Rattle.std.specs.Int.{w16, w32, to_be_bytes}
use Rattle.std.proofs.Common.{length-append, length-drop, refl}
use Rattle.std.proofs.Math.Seq.{take-length}
use Rattle.sz_lms.specs.Ots.{chain}
use Rattle.sz_lms.proofs.Chains.{chain-done, chain-more, take-input, drop-input}
use Rattle.sz_lms.proofs.chain.run_chain.Goals as goal

pub loop-j-init : goal.loop-j-init
loop-j-init c =
    let head = c.args.id.now ++ to_be_bytes w32 c.args.q ++ to_be_bytes w16 c.args.index in
    let size : length head ≡ 22 = simp length-append (omega (arith, c.told-id)) in
    let value = ap (drop 23) c.step_input-input.ensures ∙ drop-input head c.args.value.now 0 23 (omega arith) in
    record {
      head = ap (take 22) c.step_input-input.ensures ∙ take-input head c.args.value.now 0 22 size;
      ahead = rw value refl;
      size = rw c.step_input-input.ensures (simp length-append (omega (arith, c.told-id, c.told-value)));
    }

pub loop-j-preserved : goal.loop-j-preserved
loop-j-preserved c =
    let here = c.loop-j in
    let more : c.args.to - here.j ≡ suc (c.args.to - (here.j + 1)) = omega arith in
    let step = chain-more c.args.id.now c.args.q c.args.index here.j _ _ (drop 23 here.input) more in
    record {
      head = c.take_step.ensures.head ∙ here.invariant.head;
      ahead =
          ap (chain c.args.id.now c.args.q c.args.index (here.j + 1) (c.args.to - (here.j + 1)))
          (c.take_step.ensures.value ∙ rw here.invariant.head refl)
          ∙ sym step ∙ here.invariant.ahead;
      size = c.take_step.array_long;
    }

pub returns : goal.returns
returns c =
    let here = c.loop-j in
    let none : c.args.to - here.j ≡ 0 = omega arith in
    let whole : length (drop 23 here.input) ≡ 32 = omega (arith, here.invariant.size, length-drop 23 here.input) in
    c.copy_from_slice.ensures.after ∙ rw (← whole) (take-length (drop 23 here.input))
    ∙ sym (chain-done c.args.id.now c.args.q c.args.index here.j _ (drop 23 here.input) none) ∙ here.invariant.ahead
