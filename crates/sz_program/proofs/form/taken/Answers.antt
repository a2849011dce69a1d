use Rattle.std.proofs.Common.{◌∙◌, map}
use Rattle.clap.specs.Simple.{app_of}
use Rattle.sz_program.proofs.Forms.{taken_err, taken_ok}
use Rattle.sz_program.proofs.form.taken.Goals as goal

pub returns-in-Ok : goal.returns-in-Ok
returns-in-Ok c =
    taken_ok (app_of c.args.form) (map (λ text. text.now) c.args.texts.now) c.in-Ok.matches c.requires
    (c.in-Ok.ensures.kinds c.requires) c.in-Ok.ensures.matches

pub returns : goal.returns
returns c =
    taken_err (app_of c.args.form) (map (λ text. text.now) c.args.texts.now) c.in-Err.error (c.in-Err.ensures.kinds c.requires)
    (λ memory. c.in_default.not-OutOfMemory (c.kind.ensures ∙ memory))
