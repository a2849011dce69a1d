use Rattle.sz_record.proofs.reading.read.Goals as goal

pub returns-in-Err-clause-bad : goal.returns-in-Err-clause-bad
returns-in-Err-clause-bad c =
    c.fault.ensures _ c.in-Err.ensures.wrong
