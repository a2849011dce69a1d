use Rattle.std.proofs.lemmas.Result.{IfErr-weaker, IfOk-weaker}
use Rattle.sz_record.proofs.Parts.{nonce_newer, nonce_older, nonce_wrong}
use Rattle.sz_record.proofs.reading.read_nonce.Goals as goal

pub returns-then-version-eq-OLD_VERSION-clause-taken : goal.returns-then-version-eq-OLD_VERSION-clause-taken
returns-then-version-eq-OLD_VERSION-clause-taken c =
    nonce_older _ _ c.if-version-eq-OLD_VERSION.true

pub returns-clause-taken : goal.returns-clause-taken
returns-clause-taken c =
    IfOk-weaker c.read_optional_nonce.result _ _
    (λ read took. nonce_newer _ _ _ _ c.if-version-eq-OLD_VERSION.false took) c.read_optional_nonce.ensures.taken

pub returns-clause-wrong : goal.returns-clause-wrong
returns-clause-wrong c =
    IfErr-weaker c.read_optional_nonce.result _ _
    (λ wrong h. nonce_wrong _ _ _ c.if-version-eq-OLD_VERSION.false h) c.read_optional_nonce.ensures.wrong
