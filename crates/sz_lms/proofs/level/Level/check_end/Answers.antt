use Rattle.std.proofs.Common.{length, ◌∙◌, sym}
use Rattle.sz_lms.specs.Rules.{lms_length}
use Rattle.sz_lms.specs.View.{types_of}
use Rattle.sz_lms.proofs.RuleLists.{alone-passes, alone-fails, equal-true, equal-false}
use Rattle.sz_lms.proofs.level.Level.check_end.Goals as goal

pub returns-then-self-signature_length : goal.returns-then-self-signature_length
returns-then-self-signature_length c =
    alone-passes _ _ (equal-true (length c.args.self.now.bytes.now) (lms_length (types_of c.args.self.now.types))
    (c.if-self-signature_length.true ∙ c.signature_length.ensures))

pub returns-else-self-signature_length : goal.returns-else-self-signature_length
returns-else-self-signature_length c =
    alone-fails _ _ (equal-false (length c.args.self.now.bytes.now) (lms_length (types_of c.args.self.now.types))
    (λ e. c.if-self-signature_length.false (e ∙ sym c.signature_length.ensures)))
