use Rattle.std.proofs.Common.{◌≡◌, ◌++◌, ◌∷◌, [], List, ℕ, OnOk, codes, subst, sym}
use Rattle.sz_device.proofs.Lines.{four-parts}
use Rattle.sz_device.proofs.device_text.append_head.Goals as goal
use Rattle.sz_device.specs.ShowText.{serial_line, stage_line}

pub returns : goal.returns
returns c =
    let device = c.args.device.now in
    let running = sym (four-parts device.running_name (32 ∷ []) device.running_version (10 ∷ [])) in
    subst (λ (line : List ℕ). OnOk c.append_parts-3.result (c.append_parts-3.new.lines
    ≡ c.args.lines.now ++ serial_line device ++ stage_line device ++ (codes "running " ++ line))) running
    (rw (
      c.in_ok-append_parts-2.ensures,
      c.in_ok-append_parts.ensures,
      c.as_slice.ensures.bytes,
      c.stage_word.ensures,
      c.stage.ensures,
      c.as_slice-2.ensures,
      c.as_slice-3.ensures,
    ) at c.append_parts-3.ensures)
