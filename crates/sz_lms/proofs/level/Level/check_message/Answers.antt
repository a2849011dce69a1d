use Rattle.std.proofs.Common.{◌∙◌, refl}
use Rattle.sz_lms.proofs.level.Level.check_message.Goals as goal

pub returns : goal.returns
returns c =
    c.check_digest.ensures c.args.message.now
    (c.message_digest-digest.ensures ∙ rw (c.id.ensures, c.leaf_number.ensures.value, c.randomizer.ensures) refl)
