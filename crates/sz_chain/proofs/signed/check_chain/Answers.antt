use Rattle.std.proofs.Common.{map, None, refl}
use Rattle.std.proofs.lemmas.Bool.{MatchBool-at_true, MatchBool-at_false}
use Rattle.std.specs.Option.{option_copied}
use Rattle.sz_cms.specs.View.{signer_of}
use Rattle.sz_chain.proofs.Facts.{candidate, chained_from, no_candidate, no_verified, signed_from, some_fitting, verified}
use Rattle.sz_chain.proofs.OneSigner.{length_signers}
use Rattle.sz_chain.proofs.signed.check_chain.Goals as goal

pub returns-then-is_empty : goal.returns-then-is_empty
returns-then-is_empty c = λ signed bag anchors e fitting are.
    let signers = map signer_of c.args.signers.now in (
      some_fitting signed c.args.content.now signers e fitting (length_signers c.args.signers.now c.requires),
      no_candidate signed c.args.content.now signers e fitting bag anchors c.args.places.now.items are c.fitting_places.result c.fitting_places.ensures
          (MatchBool-at_true _ _ c.if-is_empty.true c.is_empty.ensures),
    )

pub returns-then-is_empty-2 : goal.returns-then-is_empty-2
returns-then-is_empty-2 c = λ signed bag anchors e fitting are.
    let signers = map signer_of c.args.signers.now in
    let some = MatchBool-at_false _ _ c.if-is_empty.false c.is_empty.ensures in (
      candidate signed c.args.content.now signers e fitting bag anchors c.args.places.now.items are some.0 c.fitting_places.result
          c.fitting_places.ensures some.1,
      no_verified signed c.args.content.now signers e fitting bag anchors c.args.places.now.items are c.verified_places-verified.result
          c.verified_places-verified.ensures (MatchBool-at_true _ _ c.if-is_empty-2.true c.is_empty-2.ensures),
    )

pub returns-in-Ok : goal.returns-in-Ok
returns-in-Ok c = λ signed bag anchors e fitting are.
    signed_from signed c.args.content.now (map signer_of c.args.signers.now) e fitting bag anchors c.args.places.now.items are (option_copied c.args.crls)
    c.args.when.0 c.verified_places-verified.result c.verified_places-verified.ensures (c.in-Ok.ensures.ok.0 refl)

pub returns-in-Err-Path : goal.returns-in-Err-Path
returns-in-Err-Path c = λ signed bag anchors e fitting are.
    let signers = map signer_of c.args.signers.now in
    let set = c.verified_places-verified.result in
    let tells = c.verified_places-verified.ensures in
    let some = MatchBool-at_false _ _ c.if-is_empty-2.false c.is_empty-2.ensures in
    let none = rw c.in-Err-Path.field-0-is at c.in-Err-Path.ensures.fault in (
      verified signed c.args.content.now signers e fitting bag anchors c.args.places.now.items are some.0 set tells some.1,
      λ is. none (chained_from signed c.args.content.now signers e fitting bag anchors c.args.places.now.items are None
          c.args.when.0 set tells is),
    )

pub returns-in-Err-Revoked : goal.returns-in-Err-Revoked
returns-in-Err-Revoked c = λ signed bag anchors e fitting are.
    let signers = map signer_of c.args.signers.now in
    let set = c.verified_places-verified.result in
    let tells = c.verified_places-verified.ensures in
    let both = rw c.in-Err-Revoked.field-0-is at c.in-Err-Revoked.ensures.fault in (
      (
        c.args.content.now,
        signed_from signed c.args.content.now signers e fitting bag anchors c.args.places.now.items are None c.args.when.0 set tells
            both.0,
      ),
      λ is. both.1 (chained_from signed c.args.content.now signers e fitting bag anchors c.args.places.now.items are
          (option_copied c.args.crls) c.args.when.0 set tells is),
    )
