use Rattle.std.proofs.Common.{◌≡◌, true, List, subst}
use Rattle.sz_cms.specs.View.{covered_bytes}
use Rattle.sz_lms.specs.Hss.{HssOk}
use Rattle.sz_chain.specs.Sets.{AreAt, has}
use Rattle.sz_chain.specs.declared.place.Place.{Place}
use Rattle.sz_chain.proofs.verify.select_verifying.Goals as goal

pub returns : goal.returns
returns c =
    let bytes = covered_bytes c.args.covered.now in
    subst (λ (xs : List Place). AreAt xs (λ at place. (has c.args.wanted at ≡ true) × HssOk place.cert.key.now bytes c.args.signature.now) c.verifying.result)
    c.as_slice.ensures.value c.verifying.ensures
