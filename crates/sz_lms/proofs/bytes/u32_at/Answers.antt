use Rattle.std.proofs.Common.{◌∙◌, ap, sym}
use Rattle.std.specs.Int.{w32, from_be_bytes}
use Rattle.sz_lms.proofs.Numbers.{take-four}
use Rattle.sz_lms.proofs.bytes.u32_at.Goals as goal

pub returns : goal.returns
returns c = c.from_be_bytes.ensures ∙ ap (from_be_bytes w32) (sym (take-four c.args.bytes.now c.args.at c.requires))
