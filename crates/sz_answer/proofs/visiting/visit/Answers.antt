use Rattle.sz_ask.proofs.Runs.{nothing_added}
use Rattle.sz_answer.proofs.Visits.{file_came, server_came, storage_came}
use Rattle.sz_answer.proofs.Sound.{no_offer_sound}
use Rattle.sz_answer.proofs.visiting.visit.Goals as goal

pub returns-in-Folder-clause-came_to : goal.returns-in-Folder-clause-came_to
returns-in-Folder-clause-came_to g c =
    storage_came c.args.identity.now c.args.when c.args.source.now c.args.item.now _ (g.F.Folder.files c.args.folder.now)
    (g.N.Net.traffic c.args.net.now) c.visit_storage.result c.in-Folder.is c.visit_storage.ensures.came_to

pub returns-in-Folder-clause-adds : goal.returns-in-Folder-clause-adds
returns-in-Folder-clause-adds g c = nothing_added (g.N.Net.traffic c.args.net.now)

pub returns-in-File-clause-came_to : goal.returns-in-File-clause-came_to
returns-in-File-clause-came_to g c =
    file_came c.args.identity.now c.args.when c.args.source.now c.args.item.now _ (g.F.Folder.files c.args.folder.now)
    (g.N.Net.traffic c.args.net.now) c.visit_file.result c.in-File.is c.visit_file.ensures.came_to

pub returns-in-File-clause-adds : goal.returns-in-File-clause-adds
returns-in-File-clause-adds g c = nothing_added (g.N.Net.traffic c.args.net.now)

pub returns-in-At-clause-came_to : goal.returns-in-At-clause-came_to
returns-in-At-clause-came_to g c =
    server_came c.args.identity.now c.args.when c.args.source.now c.args.item.now _ (g.F.Folder.files c.args.folder.now)
    (g.N.Net.traffic c.args.net.now) (g.N.Net.traffic c.visit_server.new.net) c.visit_server.result c.in-At.is
    c.visit_server.ensures.came_to

pub returns-in-File-clause-sound : goal.returns-in-File-clause-sound
returns-in-File-clause-sound g c =
    no_offer_sound c.args.identity.now c.args.when c.visit_file.result c.visit_file.ensures.no_offer
