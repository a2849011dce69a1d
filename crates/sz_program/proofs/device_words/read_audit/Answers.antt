use Rattle.std.proofs.Common.{◌≡◌, ◌∙◌, Option, Some, IfOk, map, option_map, rules, ap, ap₂, subst}
use Rattle.clap.specs.Matches.{found_of}
use Rattle.clap.specs.Simple.{app_of}
use Rattle.clap.specs.Walk.{rows_of}
use Rattle.sz_program.proofs.Forms.{read_rows}
use Rattle.sz_program.proofs.device_words.read_audit.Goals as goal
use Rattle.sz_program.specs.Forms.{taken}
use Rattle.sz_program.specs.View.{command_of}
use Rattle.sz_program.specs.Words.{Command, audit_form, audit_matched}

pub returns-in-Some-2 : goal.returns-in-Some-2
returns-in-Some-2 c =
    let texts = rw c.in-Some.is at c.in_ok-texts.ensures in
    let words_are : map (λ text. text.now) c.as_slice-2.result.now ≡ c.args.words.now = ap (map (λ text. text.now)) c.as_slice-2.ensures.value ∙ texts.0 in
    let form_is : app_of c.in_ok-form.form ≡ audit_form = search rules in
    let is = c.in_ok-matches.ensures ∙ ap₂ taken form_is words_are in
    subst (λ (read : Option Command). IfOk c.audit_matched.result (λ found. option_map command_of found ≡ read))
    (read_rows audit_form audit_matched c.args.words.now (Some (rows_of (found_of c.in-Some-2.matches))) texts.1
    (rw c.in-Some-2.is at is)) c.audit_matched.ensures

pub returns : goal.returns
returns c =
    let texts = rw c.in-Some.is at c.in_ok-texts.ensures in
    let words_are : map (λ text. text.now) c.as_slice-2.result.now ≡ c.args.words.now = ap (map (λ text. text.now)) c.as_slice-2.ensures.value ∙ texts.0 in
    let form_is : app_of c.in_ok-form.form ≡ audit_form = search rules in
    let is = c.in_ok-matches.ensures ∙ ap₂ taken form_is words_are in
    read_rows audit_form audit_matched c.args.words.now _ texts.1 (rw c.in-None.is at is)
