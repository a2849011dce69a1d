use Rattle.std.proofs.Common.{◌≡◌, ◌-◌, ◌<◌, ◌≤◌, ◌++◌, [], ◌∙◌, refl, append_assoc, arith}
use Rattle.std.proofs.lemmas.List.{append-nil}
use Rattle.std.specs.Int.{w16, w32, to_be_bytes}
use Rattle.sz_lms.specs.Ots.{D_PBLC}
use Rattle.sz_lms.specs.View.{facts_of}
use Rattle.sz_lms.proofs.Chains.{ends-step, ends-end}
use Rattle.sz_lms.proofs.ots.key_of_digest.Goals as goal

pub loop-i-init : goal.loop-i-init
loop-i-init c =
    let none : (facts_of c.args.kind).chains - 0 ≡ (facts_of c.args.kind).chains = omega arith in
    ([], rw append-nil c.key_hasher-hasher.ensures, rw none refl)

pub loop-i-preserved : goal.loop-i-preserved
loop-i-preserved c =
    let type = facts_of c.args.kind in
    let here = c.loop-i in
    let ends = here.invariant.0 in
    let front = c.args.id.now ++ to_be_bytes w32 c.args.q ++ to_be_bytes w16 D_PBLC in
    let fed = c.update.ensures (front ++ ends) here.invariant.1 in
    let inside : here.i < type.chains = omega (arith, c.loop-i-test.true, c.chains-i-end.ensures) in (
      ends ++ c.chain_end.result,
      rw (← (append_assoc front ends c.chain_end.result)) fed,
      rw c.chain_end.ensures
          (ends-step c.args.id.now c.args.q type.width c.signed_bytes-signed.result here.i type.chains c.args.values.now ends _ inside here.invariant.2),
    )

pub returns : goal.returns
returns c =
    let type = facts_of c.args.kind in
    let here = c.loop-i in
    let ends = here.invariant.0 in
    let front = c.args.id.now ++ to_be_bytes w32 c.args.q ++ to_be_bytes w16 D_PBLC in
    let past : type.chains ≤ here.i = omega (arith, c.loop-i-test.false, c.chains-i-end.ensures) in
    let all = ends-end c.args.id.now c.args.q type.width c.signed_bytes-signed.result here.i type.chains c.args.values.now ends _ past here.invariant.2 in
    c.finalize.ensures (front ++ ends) here.invariant.1 ∙ rw (all, c.signed_bytes-signed.ensures) refl
