use Rattle.std.proofs.Common.{length}
use Rattle.std.specs.Prelude.{◌↔◌}
use Rattle.sz_base.specs.Encoding.{IsBase64Text}
use Rattle.sz_base.proofs.encodings.is_base64.Given as goal

abbrev pub invariant-loop-four : goal.invariant-loop-four
invariant-loop-four l = IsBase64Text l.text ↔ IsBase64Text l.rest

abbrev pub decreases-loop-four : goal.decreases-loop-four
decreases-loop-four l = length l.rest
