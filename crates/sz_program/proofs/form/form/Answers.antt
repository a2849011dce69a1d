use Rattle.std.proofs.Common.{◌≡◌, ◌<◌, ◌∙◌, length, get_or, rules, ap}
use Rattle.clap.specs.Simple.{app_of, with_rule}
use Rattle.clap.specs.Walk.{rule_of}
use Rattle.sz_program.proofs.Forms.{form_more}
use Rattle.sz_program.proofs.form.form.Goals as goal
use Rattle.sz_program.specs.Forms.{argument}

pub loop-argument-preserved : goal.loop-argument-preserved
loop-argument-preserved c =
    let i = c.loop-argument.argument-index in
    let names = c.args.arguments.now in
    let next = c.new-in-loop-argument.result.id in
    let form = app_of c.loop-argument.form in
    let within : i < length names = search rules in
    let is : next ≡ get_or names i next = search rules in
    let rule_is : rule_of c.required.result ≡ argument next.now = search rules in
    c.in_ok-form.ensures.shape (search rules) ∙ ap (with_rule form) rule_is
    ∙ form_more c.args.name.now names i next form within is c.loop-argument.invariant
