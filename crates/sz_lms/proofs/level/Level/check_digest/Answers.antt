use Rattle.std.proofs.Common.{◌≡◌, ◌-◌, ◌∙◌, take, drop, length, true, false, ap, sym}
use Rattle.std.specs.Str.{bytes_eq}
use Rattle.std.proofs.lemmas.List.{take_rest}
use Rattle.sz_lms.specs.Rules.{root_of_digest}
use Rattle.sz_lms.specs.View.{types_of}
use Rattle.sz_lms.proofs.RuleLists.{alone-passes, alone-fails}
use Rattle.sz_lms.proofs.Roots.{root-rule}
use Rattle.sz_lms.proofs.level.Level.check_digest.Goals as goal

pub returns-then-eq : goal.returns-then-eq
returns-then-eq c message digest =
    let level = c.args.self.now in
    let rest : take (length level.key.now - 24) (drop 24 level.key.now) ≡ drop 24 level.key.now = take_rest level.key.now 24 in
    let same : bytes_eq (root_of_digest level.key.now (types_of level.types) c.args.digest.now level.bytes.now) (drop 24 level.key.now) ≡ true =
    ap (λ root. bytes_eq root (drop 24 level.key.now)) (sym (c.as_slice.ensures ∙ c.root.ensures))
    ∙ ap (bytes_eq c.as_slice.result.now) (sym rest) ∙ sym c.eq.ensures ∙ c.if-eq.true in
    alone-passes _ _ same ∙ sym (root-rule level.key.now (types_of level.types) message level.bytes.now c.args.digest.now level.in_order.known digest)

pub returns-else-eq : goal.returns-else-eq
returns-else-eq c message digest =
    let level = c.args.self.now in
    let rest : take (length level.key.now - 24) (drop 24 level.key.now) ≡ drop 24 level.key.now = take_rest level.key.now 24 in
    let same : bytes_eq (root_of_digest level.key.now (types_of level.types) c.args.digest.now level.bytes.now) (drop 24 level.key.now) ≡ false =
    ap (λ root. bytes_eq root (drop 24 level.key.now)) (sym (c.as_slice.ensures ∙ c.root.ensures))
    ∙ ap (bytes_eq c.as_slice.result.now) (sym rest) ∙ sym c.eq.ensures ∙ c.if-eq.false in
    alone-fails _ _ same ∙ sym (root-rule level.key.now (types_of level.types) message level.bytes.now c.args.digest.now level.in_order.known digest)
