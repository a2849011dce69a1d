use Rattle.std.proofs.Common.{List, map, sym, ◌∙◌, subst, eqb-true}
use Rattle.std.proofs.lemmas.Option.{same_Some}
use Rattle.std.specs.Option.{option_copied}
use Rattle.sz_cms.specs.View.{signed_of, signer_of}
use Rattle.sz_cms.specs.declared.signer.Signer.{Signer}
use Rattle.sz_chain.specs.Candidates.{AreFitting}
use Rattle.sz_chain.specs.SignedBy.{HasFitting, HasSigner}
use Rattle.sz_chain.specs.declared.fault.ChainFault.TheVariants as fault
use Rattle.sz_chain.proofs.Facts.{no_fitting}
use Rattle.sz_chain.proofs.Refusals.{not_both, one_fault}
use Rattle.sz_chain.proofs.OneSigner.{no_signers}
use Rattle.sz_chain.proofs.signed.signed_by.Goals as goal

pub returns-in_default : goal.returns-in_default
returns-in_default c =
    let signed = signed_of c.args.signed.now in
    let bag = c.args.bag.now in
    let anchors = c.args.anchors.now in
    let crls = option_copied c.args.crls in
    let refused = c.in_default.ensures in record {
      ok = tt;
      only = λ content is. not_both signed bag anchors crls c.args.when.0 fault.NoSigner content refused is;
      fault = refused;
      only_fault = λ other is. one_fault signed bag anchors crls c.args.when.0 fault.NoSigner other refused is;
    }

pub returns-then-is_empty : goal.returns-then-is_empty
returns-then-is_empty c =
    let signed = signed_of c.args.signed.now in
    let bag = c.args.bag.now in
    let anchors = c.args.anchors.now in
    let crls = option_copied c.args.crls in
    let signers = c.fitting_signers-signers.result.items in
    let none = no_signers signers (eqb-true _ 0 (sym c.is_empty.ensures ∙ c.if-is_empty.true)) in
    let missing = no_fitting signed c.in-Some.content.now (map signer_of signers) c.in-Some.ensures.1 c.fitting_signers-signers.ensures none in
    let refused : HasSigner signed × (HasFitting signed → ⊥) = (c.in-Some.ensures.0, missing) in record {
      ok = tt;
      only = λ content is. not_both signed bag anchors crls c.args.when.0 fault.BadDigest content refused is;
      fault = refused;
      only_fault = λ other is. one_fault signed bag anchors crls c.args.when.0 fault.BadDigest other refused is;
    }

pub returns-in-Ok : goal.returns-in-Ok
returns-in-Ok c =
    let signed = signed_of c.args.signed.now in
    let bag = c.args.bag.now in
    let anchors = c.args.anchors.now in
    let crls = option_copied c.args.crls in
    let content = c.in-Some.content.now in
    let fitting = subst (λ (s : List Signer). AreFitting signed content (map signer_of s)) (sym c.as_slice.ensures.value)
    c.fitting_signers-signers.ensures in
    let by = c.in-Ok.ensures signed bag anchors c.in-Some.ensures.1 fitting c.places_of-places.ensures in record {
      ok = by;
      only = λ other is. same_Some content other (sym c.in-Some.ensures.1 ∙ is.has_content);
      fault = tt;
      only_fault = λ other is. not_both signed bag anchors crls c.args.when.0 other content is by;
    }

pub returns-in-Err : goal.returns-in-Err
returns-in-Err c =
    let signed = signed_of c.args.signed.now in
    let bag = c.args.bag.now in
    let anchors = c.args.anchors.now in
    let crls = option_copied c.args.crls in
    let content = c.in-Some.content.now in
    let fitting = subst (λ (s : List Signer). AreFitting signed content (map signer_of s)) (sym c.as_slice.ensures.value)
    c.fitting_signers-signers.ensures in
    let refused = c.in-Err.ensures signed bag anchors c.in-Some.ensures.1 fitting c.places_of-places.ensures in record {
      ok = tt;
      only = λ other is. not_both signed bag anchors crls c.args.when.0 (fault.NoChain c.in-Err.why) other refused is;
      fault = refused;
      only_fault = λ other is. one_fault signed bag anchors crls c.args.when.0 (fault.NoChain c.in-Err.why) other refused is;
    }
