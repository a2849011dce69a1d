use Rattle.std.proofs.Common.{ap, subst}
use Rattle.std.proofs.lemmas.Result.{IfOk-weaker}
use Rattle.sz_hss.specs.Key.{HssKey, IsKey}
use Rattle.sz_hss.specs.Signature.{AreSignatures}
use Rattle.sz_signer.specs.State.{SignerState}
use Rattle.sz_signer.proofs.Keys.{VerifyEach-signed}
use Rattle.sz_signer.proofs.signer.Signer.sign_batch.Goals as goal

pub returns-clause-verify : goal.returns-clause-verify
returns-clause-verify g c =
    let key = ap (λ (s : SignerState). s.stored.key) c.self.view_is in
    IfOk-weaker c.sign_batch.result _ _
    (λ signatures are.
    VerifyEach-signed c.args.self.now.stored.key c.first-first.result c.args.messages.now signatures
    (subst IsKey key c.self.invariant.0.is_key)
    (subst (λ (k : HssKey). AreSignatures k c.first-first.result c.args.messages.now signatures) key are))
    c.sign_batch.ensures.exact
