use Rattle.std.proofs.Common.{◌≡◌, ◌∙◌, ap, arith, rules}
use Rattle.std.proofs.lemmas.Grind.{common_steps}
use Rattle.clap.specs.Simple.{App, app_of, with_rule}
use Rattle.clap.specs.Walk.{rule_of}
use Rattle.sz_program.proofs.form.open_form.Goals as goal
use Rattle.sz_program.specs.Forms.{last_argument}

pub returns : goal.returns
returns c =
    let rule_is : rule_of c.num_args-last.result ≡ last_argument c.args.last.now = first_of (search rules, grind (arith, common_steps)) in
    c.in_ok-arg.ensures.shape (search rules) ∙ ap (with_rule (app_of c.in_ok-form.form)) rule_is
    ∙ ap (λ (form : App). with_rule form (last_argument c.args.last.now)) c.in_ok-form.ensures
