use Rattle.std.proofs.Common.{◌≡◌, ◌+◌, ◌-◌, ◌≤◌, ◌∙◌, sym, refl, length, drop, take, arith}
use Rattle.std.proofs.lemmas.List.{take_rest}
use Rattle.sz_lms.specs.Rules.{lms_length, next_key, next_bytes}
use Rattle.sz_lms.specs.View.{types_of}
use Rattle.sz_lms.proofs.RuleLists.{test-fails, test-passes, nat_le-false, nat_le-true}
use Rattle.sz_lms.proofs.level.Level.next.Goals as goal

pub returns-then-self-key_place-clause-rules : goal.returns-then-self-key_place-clause-rules
returns-then-self-key_place-clause-rules c =
    let type = types_of c.args.self.now.types in
    test-fails _ _ _ (nat_le-false (lms_length type + 56) (length c.args.self.now.bytes.now) (omega (arith, c.signature_length-key_place.ensures)))

pub returns-clause-rules : goal.returns-clause-rules
returns-clause-rules c =
    let type = types_of c.args.self.now.types in
    let bytes = c.args.self.now.bytes.now in
    let place = c.signature_length-key_place.result in
    let width : place + 56 - place ≡ 56 = omega arith in
    let enough : lms_length type + 56 ≤ length bytes = omega (arith, c.signature_length-key_place.ensures) in
    let key : take (place + 56 - place) (drop place bytes) ≡ next_key type bytes = rw (width, c.signature_length-key_place.ensures) refl in
    let rest : take (length bytes - (place + 56)) (drop (place + 56) bytes) ≡ next_bytes type bytes =
    take_rest bytes (place + 56) ∙ rw c.signature_length-key_place.ensures refl in
    c.read.ensures.rules ∙ rw (key, rest) (sym (test-passes _ _ _ (nat_le-true (lms_length type + 56) (length bytes) enough)))

pub returns-clause-bytes : goal.returns-clause-bytes
returns-clause-bytes c =
    let type = types_of c.args.self.now.types in
    let bytes = c.args.self.now.bytes.now in
    let place = c.signature_length-key_place.result in
    let rest : take (length bytes - (place + 56)) (drop (place + 56) bytes) ≡ next_bytes type bytes =
    take_rest bytes (place + 56) ∙ rw c.signature_length-key_place.ensures refl in
    rw rest at c.read.ensures.bytes
