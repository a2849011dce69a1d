use Rattle.sz_device.proofs.device_text.device_lines.Goals as goal

pub returns : goal.returns
returns c =
    rw (c.in_ok-append_image.ensures, c.in_ok-append_head.ensures, c.create-lines.ensures) at c.in_ok-append_configuration.ensures
