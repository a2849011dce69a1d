use Rattle.std.proofs.Common.{ℕ, List, Result, ◌∙◌}
use Rattle.sz_evidence.specs.declared.reason.What.TheVariants as what
use Rattle.sz_io.specs.Folder.{bytes_at, FileMap}
use Rattle.sz_visit.specs.Files.{message_of}
use Rattle.sz_visit.specs.declared.fault.FileFault.{FileFault}
use Rattle.sz_answer.proofs.Visits.{blames_alike, read_comes, refused_comes}
use Rattle.sz_answer.specs.Visit.{FileComesTo}
use Rattle.sz_answer.specs.declared.answer.Answer.{Answer}
use Rattle.sz_answer.proofs.visiting.visit_file.Goals as goal

pub returns-in-Ok-clause-came_to : goal.returns-in-Ok-clause-came_to
returns-in-Ok-clause-came_to g c =
    let Comes = λ (told : FileMap) (r : Result (List ℕ) FileFault) (found : Answer). FileComesTo c.args.source.now r found in
    read_comes Comes (λ files. message_of (bytes_at files c.args.path.now)) (g.F.Folder.files c.args.folder.now)
    c.in-Ok.message c.listed.result c.in-Ok.ensures.gives (λ told. rw c.as_slice.ensures at c.listed.ensures.listed)

pub returns-in-Ok-clause-cause : goal.returns-in-Ok-clause-cause
returns-in-Ok-clause-cause g c = rw c.listed.ensures.not_lost c.in-Ok.ensures.cause

pub returns-in-Err-clause-came_to : goal.returns-in-Err-clause-came_to
returns-in-Err-clause-came_to g c =
    let Comes = λ (told : FileMap) (r : Result (List ℕ) FileFault) (found : Answer). FileComesTo c.args.source.now r found in
    refused_comes Comes what.File (λ files. message_of (bytes_at files c.args.path.now))
    (g.F.Folder.files c.args.folder.now) c.in-Err.fault c.refused_file.result (λ told found is. is)
    c.in-Err.ensures.gives c.refused_file.ensures.refused

pub returns-in-Err-clause-cause : goal.returns-in-Err-clause-cause
returns-in-Err-clause-cause g c =
    rw (c.refused_file.ensures.lost ∙ blames_alike ℕ (List ℕ) c.in-Err.fault) c.in-Err.ensures.cause
