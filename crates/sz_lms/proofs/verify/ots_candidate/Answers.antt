use Rattle.std.proofs.Common.{◌≡◌, ◌∙◌, Some, ap, refl, sym}
use Rattle.std.specs.Option.{option_map}
use Rattle.std.proofs.lemmas.List.{take_rest}
use Rattle.sz_lms.specs.Ots.{ots_key}
use Rattle.sz_lms.specs.Rules.{ots_key_at}
use Rattle.sz_lms.specs.View.{facts_of}
use Rattle.sz_lms.proofs.verify.ots_candidate.Goals as goal

pub returns-clause-key : goal.returns-clause-key
unfolding ots_key
returns-clause-key c =
    let type = facts_of c.in_ok-kind.kind in
    let same : c.key_of_digest.result ≡ ots_key_at c.args.id.now c.args.leaf type c.args.signature.now c.args.message.now =
    c.key_of_digest.ensures ∙ rw (take_rest c.args.signature.now 36, c.message_digest-digest.ensures) refl in
    ap (option_map (λ type. ots_key_at c.args.id.now c.args.leaf type c.args.signature.now c.args.message.now)) c.in_ok-kind.ensures.known
    ∙ ap Some (sym same)
