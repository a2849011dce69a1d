use Rattle.std.proofs.Common.{ℕ, Result, ◌∙◌}
use Rattle.sz_base.specs.declared.evidence.Evidence.{Evidence}
use Rattle.sz_evidence.specs.declared.reason.What.TheVariants as what
use Rattle.sz_io.specs.Folder.{FileMap}
use Rattle.sz_visit.specs.Storage.{storage_of}
use Rattle.sz_visit.specs.declared.fault.FileFault.{FileFault}
use Rattle.sz_answer.proofs.Visits.{blames_alike, read_comes, refused_comes}
use Rattle.sz_answer.specs.Visit.{search_of, StorageComesTo}
use Rattle.sz_answer.specs.declared.answer.Answer.{Answer}
use Rattle.sz_answer.proofs.Sound.{no_offer_sound}
use Rattle.sz_answer.proofs.visiting.visit_storage.Goals as goal

pub returns-in-Ok-clause-came_to : goal.returns-in-Ok-clause-came_to
returns-in-Ok-clause-came_to g c =
    let Comes = λ (told : FileMap) (r : Result Evidence FileFault) (found : Answer).
    StorageComesTo (search_of c.args.identity.now c.args.when told) r found in
    read_comes Comes (λ files. storage_of files c.args.path.now c.args.identity.now.serial)
    (g.F.Folder.files c.args.folder.now) c.in-Ok.evidence c.judged.result c.in-Ok.ensures.gives
    (λ told. c.judged.ensures.judged told)

pub returns-in-Ok-clause-cause : goal.returns-in-Ok-clause-cause
returns-in-Ok-clause-cause g c = rw c.judged.ensures.not_lost c.in-Ok.ensures.cause

pub returns-in-Err-clause-came_to : goal.returns-in-Err-clause-came_to
returns-in-Err-clause-came_to g c =
    let Comes = λ (told : FileMap) (r : Result Evidence FileFault) (found : Answer).
    StorageComesTo (search_of c.args.identity.now c.args.when told) r found in
    refused_comes Comes what.Conveyed (λ files. storage_of files c.args.path.now c.args.identity.now.serial)
    (g.F.Folder.files c.args.folder.now) c.in-Err.fault c.refused_file.result (λ told found is. is)
    c.in-Err.ensures.gives c.refused_file.ensures.refused

pub returns-in-Err-clause-cause : goal.returns-in-Err-clause-cause
returns-in-Err-clause-cause g c =
    rw (c.refused_file.ensures.lost ∙ blames_alike ℕ Evidence c.in-Err.fault) c.in-Err.ensures.cause

pub returns-in-Err-clause-sound : goal.returns-in-Err-clause-sound
returns-in-Err-clause-sound g c =
    no_offer_sound c.args.identity.now c.args.when c.refused_file.result c.refused_file.ensures.no_offer
