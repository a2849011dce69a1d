use Rattle.sz_device.proofs.audit_command.print_named.Goals as goal

pub returns-in-Refused-clause-written : goal.returns-in-Refused-clause-written
returns-in-Refused-clause-written g c =
    rw c.in-Refused.is
    (rw (c.as_bytes-number.ensures.value, c.format.ensures.text, c.number.ensures) at c.write_parts-in-Refused.ensures.written)

pub returns-in-OtherFields-clause-written : goal.returns-in-OtherFields-clause-written
returns-in-OtherFields-clause-written g c = rw c.in-OtherFields.is c.write_parts-in-OtherFields.ensures.written

pub returns-in-OtherBytes-clause-written : goal.returns-in-OtherBytes-clause-written
returns-in-OtherBytes-clause-written g c = rw c.in-OtherBytes.is c.write_parts-in-OtherBytes.ensures.written
