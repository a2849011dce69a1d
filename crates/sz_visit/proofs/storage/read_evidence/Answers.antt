use Rattle.std.proofs.lemmas.Result.{err_from_is_err_and}
use Rattle.sz_visit.proofs.Artifacts.{gives_evidence, refuses_second, refuses_third}
use Rattle.sz_visit.proofs.storage.read_evidence.Goals as goal

pub returns-in_err-oc-clause-gives : goal.returns-in_err-oc-clause-gives
returns-in_err-oc-clause-gives g c =
    let p = err_from_is_err_and c.from_residual-in_err-oc.result c.from_residual-in_err-oc.ensures.1 in
    rw (p.1, p.2)
    (refuses_second (g.F.Folder.files c.args.folder.now) (g.F.Folder.files c.read_artifact.new.folder) c.args.base.now
    c.in-Some.ci c.in_ok-ci.field-0 c.in_err-oc.field-0.0 c.read_artifact.ensures.unchanged c.in-Some.is
    c.in_ok-ci.ensures.gives c.in_err-oc.ensures.gives)

pub returns-in_err-ov-clause-gives : goal.returns-in_err-ov-clause-gives
returns-in_err-ov-clause-gives g c =
    let p = err_from_is_err_and c.from_residual-in_err-ov.result c.from_residual-in_err-ov.ensures.1 in
    rw (p.1, p.2)
    (refuses_third (g.F.Folder.files c.args.folder.now) (g.F.Folder.files c.read_artifact.new.folder)
    (g.F.Folder.files c.read_artifact-2.new.folder) c.args.base.now c.in-Some.ci c.in_ok-ci.field-0 c.in_ok-oc.oc
    c.in_err-ov.field-0.0 c.read_artifact.ensures.unchanged c.read_artifact-2.ensures.unchanged c.in-Some.is
    c.in_ok-ci.ensures.gives c.in_ok-oc.ensures.gives c.in_err-ov.ensures.gives)

pub returns-clause-gives : goal.returns-clause-gives
returns-clause-gives g c =
    gives_evidence (g.F.Folder.files c.args.folder.now) (g.F.Folder.files c.read_artifact.new.folder)
    (g.F.Folder.files c.read_artifact-2.new.folder) c.args.base.now c.in-Some.ci c.in_ok-ci.field-0 c.in_ok-oc.oc
    c.in_ok-ov.ov c.read_artifact.ensures.unchanged c.read_artifact-2.ensures.unchanged c.in-Some.is
    c.in_ok-ci.ensures.gives c.in_ok-oc.ensures.gives c.in_ok-ov.ensures.gives
