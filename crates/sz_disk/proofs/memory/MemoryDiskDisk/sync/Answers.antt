use Rattle.sz_disk.specs.Memory.{view}
use Rattle.sz_disk.proofs.Honest.{synced_or_same, sync-ok, sync-still, sync-unsynced}
use Rattle.sz_disk.proofs.memory.MemoryDiskDisk.sync.Goals as goal

pub returns-clause-ok : goal.returns-clause-ok
returns-clause-ok c =
    let old = view c.args.self.now in
    let new = view c.sync_next.new.self in
    sync-ok c.sync_next.result c.sync_next.ensures.synced.0 old new c.sync_next.ensures.synced.2

pub returns-clause-still : goal.returns-clause-still
returns-clause-still c =
    let old = view c.args.self.now in
    let new = view c.sync_next.new.self in
    sync-still old new (synced_or_same c.sync_next.ensures.synced.0 old new _ c.sync_next.ensures.synced.2)

pub returns-clause-unsynced : goal.returns-clause-unsynced
returns-clause-unsynced c =
    let old = view c.args.self.now in
    let new = view c.sync_next.new.self in
    sync-unsynced c.sync_next.result c.sync_next.ensures.synced.0 old new c.sync_next.ensures.synced.2
