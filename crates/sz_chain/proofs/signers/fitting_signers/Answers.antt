use Rattle.std.proofs.Common.{List, length, ap, ◌∙◌, sym, true≢false, subst, arith, refl}
use Rattle.sz_cms.specs.Kind.{identifier_of}
use Rattle.sz_cms.specs.Message as message
use Rattle.sz_cms.specs.View.{signed_of, signer_of}
use Rattle.std.proofs.Common.{map}
use Rattle.sz_chain.proofs.OneSigner.{all_signers, among_all, AreAmong, digest_fails, digest_fits, one_longer}
use Rattle.sz_chain.proofs.signers.fitting_signers.Goals as goal
use Rattle.sz_chain.proofs.signers.fitting_signers.Goals.{then-digest_fits, else-digest_fits}

pub loop-signer-preserved : goal.loop-signer-preserved
loop-signer-preserved c =
    let signers = c.as_slice-signer-items.result.now in
    let i = c.loop-signer.signer-index in
    let kind = identifier_of c.args.signed.now.kind in
    elim c.if-digest_fits.branch [
      | then-digest_fits w ↦
          let e = ap (λ v. v.items) w.fitting-is ∙ w.push.ensures.items in (
            digest_fits signers i _ c.loop-signer-test.true kind c.args.content.now c.loop-signer.fitting.items c.if-digest_fits.fitting.items e
                (c.digest_fits.ensures.0 w.if-digest_fits.true) c.loop-signer.invariant.0,
            one_longer _ _ _ i e c.loop-signer.invariant.1,
          )
      | else-digest_fits w ↦
          let e = ap (λ v. v.items) w.fitting-is in (
            digest_fails signers i _ c.loop-signer-test.true kind c.args.content.now c.loop-signer.fitting.items c.if-digest_fits.fitting.items e
                (λ fits. true≢false (sym (c.digest_fits.ensures.1 fits) ∙ w.if-digest_fits.false)) c.loop-signer.invariant.0,
            omega (arith, ap length e, c.loop-signer.invariant.1),
          )
    ]

pub returns : goal.returns
returns c =
    let kind = identifier_of c.args.signed.now.kind in
    let fitting = map signer_of c.loop-signer.fitting.items in
    let all = all_signers c.as_slice-signer-items.result.now c.loop-signer.signer-index c.loop-signer-test.false
    ∙ ap (map signer_of) c.as_slice-signer-items.ensures.value in
    among_all kind c.args.content.now (signed_of c.args.signed.now) fitting refl
    (subst (λ (s : List message.Signer). AreAmong kind c.args.content.now s fitting) all c.loop-signer.invariant.0)
