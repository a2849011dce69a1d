use Rattle.sz_der.proofs.Spots.{no_item-stands}
use Rattle.sz_der.proofs.Steps.{fault_there, here, item_there, next_spot}
use Rattle.sz_der.proofs.parts.take_item.Goals as goal

pub returns-in-Ok-clause-ok : goal.returns-in-Ok-clause-ok
returns-in-Ok-clause-ok g c =
    let item = c.in-Ok.item in
    no_item-stands _ (here c.args.reader.now c.take_item.new.self item.tag item.content.now item.whole.now item.after c.in-Ok.ensures.ok c.in-Ok.ensures.end)

pub returns-in-Ok-clause-item : goal.returns-in-Ok-clause-item
returns-in-Ok-clause-item g c = item_there c.args.reader.now c.take_item.new.self c.in-Ok.item c.in-Ok.ensures.ok c.in-Ok.ensures.end

pub returns-in-Ok-clause-next : goal.returns-in-Ok-clause-next
returns-in-Ok-clause-next g c =
    let item = c.in-Ok.item in
    next_spot c.args.reader.now c.take_item.new.self item.tag item.content.now item.whole.now item.after c.in-Ok.ensures.ok c.in-Ok.ensures.end

pub returns-in-Err-clause-fault : goal.returns-in-Err-clause-fault
returns-in-Err-clause-fault g c = rw c.BROKEN.ensures (fault_there _ c.args.reader.now c.in-Err.fault c.in-Err.ensures.fault)
