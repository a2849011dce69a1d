use Rattle.std.proofs.Common.{ℕ, ◌+◌, List, ◌∷◌, take, sym, ap, ◌∙◌}
use Rattle.std.proofs.lemmas.List.{take_rest}
use Rattle.sz_hss.specs.LevelsText.{parts_at}
use Rattle.sz_hss.proofs.LevelsTexts.{IfNone-any, parts_at-cut, parts_at-whole}
use Rattle.sz_hss.proofs.levels_text.cut.Goals as goal

pub returns-in_err-at-clause-none : goal.returns-in_err-at-clause-none
returns-in_err-at-clause-none c =
    IfNone-any c.from_residual.result _ (parts_at-whole c.args.mark c.args.text.now (sym c.place.ensures ∙ c.in_err-at.was))

pub returns-clause-some : goal.returns-clause-some
returns-clause-some c =
    let at = c.in_ok-at.at in
    let text = c.args.text.now in
    (parts_at-cut c.args.mark at text (sym c.place.ensures ∙ c.in_ok-at.was)).1
    ∙ ap (λ (rest : List ℕ). take at text ∷ parts_at c.args.mark rest) (sym (take_rest text (at + 1)))
