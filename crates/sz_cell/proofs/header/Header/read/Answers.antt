use Rattle.std.proofs.Common.{refl, sym, ◌∙◌, ap, arith}
use Rattle.std.specs.Int.{w32, w64, from_be_bytes}
use Rattle.sz_cell.specs.Slot.{slot_of}
use Rattle.sz_cell.proofs.Elements.{part-elements}
use Rattle.sz_cell.proofs.header.Header.read.Goals as goal

pub returns-clause-gate : goal.returns-clause-gate
unfolding slot_of
returns-clause-gate c = refl

pub returns-clause-sequence : goal.returns-clause-sequence
unfolding slot_of
returns-clause-sequence c = c.from_be_bytes.ensures ∙ ap (from_be_bytes w64) (sym (part-elements c.args.bytes.now 1 8 (omega arith)))

pub returns-clause-size : goal.returns-clause-size
unfolding slot_of
returns-clause-size c = c.from_be_bytes-2.ensures ∙ ap (from_be_bytes w32) (sym (part-elements c.args.bytes.now 9 4 (omega arith)))
