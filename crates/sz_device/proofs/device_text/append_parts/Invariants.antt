use Rattle.std.proofs.Common.{◌≡◌, ◌++◌, map, take}
use Rattle.std.specs.List.{concat}
use Rattle.sz_device.proofs.device_text.append_parts.Given as goal

-- the parts so far stand last
abbrev pub invariant-loop-part : goal.invariant-loop-part
invariant-loop-part l = l.lines ≡ l.fn.lines ++ concat (map (λ part. part.now) (take l.part-index l.parts))
