use Rattle.std.proofs.Common.{◌≡◌, map, take}
use Rattle.clap.specs.Simple.{app_of}
use Rattle.sz_program.specs.Forms.{form_of}
use Rattle.sz_program.proofs.form.form.Given as goal

-- the form has the arguments so far
abbrev pub invariant-loop-argument : goal.invariant-loop-argument
invariant-loop-argument l = app_of l.form ≡ form_of l.name (map (λ argument. argument.now) (take l.argument-index l.arguments))
