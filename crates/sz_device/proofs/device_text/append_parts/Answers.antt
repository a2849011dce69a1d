use Rattle.std.proofs.Common.{◌++◌, sym, ap, ◌∙◌, map, arith}
use Rattle.std.specs.List.{concat}
use Rattle.std.proofs.lemmas.Grind.{common_steps}
use Rattle.std.proofs.lemmas.List.{append-nil, take_all}
use Rattle.sz_device.proofs.Lines.{parts_appended}
use Rattle.sz_device.proofs.device_text.append_parts.Goals as goal

pub loop-part-init : goal.loop-part-init
loop-part-init c = sym (append-nil c.args.lines.now)

pub loop-part-preserved : goal.loop-part-preserved
loop-part-preserved c =
    parts_appended (λ part. part.now) c.args.lines.now c.loop-part.lines _ c.args.parts.now c.loop-part.part-index _ c.loop-part-test.true
    c.loop-part.invariant c.in_ok-append.ensures.ok

pub returns : goal.returns
returns c =
    let all = take_all c.loop-part.part-index c.args.parts.now (grind (arith, common_steps)) in
    c.loop-part.invariant ∙ ap (λ parts. c.args.lines.now ++ concat (map (λ part. part.now) parts)) all
