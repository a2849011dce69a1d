use Rattle.sz_image.proofs.Replies.{no_head_fault}
use Rattle.sz_image.proofs.head.without_head.Goals as goal

pub returns-in-TooLarge : goal.returns-in-TooLarge
returns-in-TooLarge c space hash bytes closed none verdict = absurd (no_head_fault space _ bytes closed c.args.fault c.in-TooLarge.is none verdict)
