use Rattle.std.proofs.Common.{◌≡◌, ◌++◌, ◌∷◌, [], List, ℕ, OnOk, codes, subst, sym}
use Rattle.std.specs.Fmt.{decimal}
use Rattle.sz_device.proofs.Lines.{six-parts}
use Rattle.sz_device.proofs.device_text.append_image.Goals as goal
use Rattle.sz_device.specs.ShowText.{hash_text}

pub returns : goal.returns
returns c =
    let image = c.in-Some.image in
    let parts = sym (six-parts (decimal image.area) (32 ∷ []) (decimal image.size) (32 ∷ []) (hash_text image.hash) (10 ∷ [])) in
    rw c.in-Some.is (subst (λ (line : List ℕ). OnOk c.append_parts.result (c.append_parts.new.lines
    ≡ c.args.lines.now ++ (codes "image " ++ line))) parts
    (rw (c.as_bytes.ensures.value, c.format.ensures.text, c.as_bytes-2.ensures.value, c.format-2.ensures.text, c.hash_text.ensures)
    at c.append_parts.ensures))
