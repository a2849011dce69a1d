use Rattle.std.proofs.Common.{◌≡◌, ℕ, ◌≤◌, List, [], ◌∷◌, ◌++◌, true, length, map, sym, ap, ◌∙◌, subst, arith}
use Rattle.std.specs.List.{list_all}
use Rattle.sz_hss.specs.Key.{is_shape}
use Rattle.sz_hss.specs.LevelsText.{comma, parts_at, shape_text}
use Rattle.sz_hss.specs.View.{shapes_of}
use Rattle.sz_hss.specs.declared.level.Level.{Level}
use Rattle.sz_hss.proofs.Form.{allowed-step}
use Rattle.sz_hss.proofs.LevelsTexts.{IfNone-any, holds-at-none, holds-at-some, no-levels-many, no-levels-part, one-more-part}
use Rattle.sz_hss.proofs.levels_text.read_levels.Goals as goal

-- the parts so far, and those of the rest once it is cut
cut-rest : (levels : List Level) (rest text : List ℕ) (parts : List (List ℕ)) → parts_at comma rest ≡ parts
    → map shape_text (shapes_of levels) ++ parts_at comma rest ≡ parts_at comma text → map shape_text (shapes_of levels) ++ parts ≡ parts_at comma text
cut-rest levels rest text parts cut before =
    ap (λ (xs : List (List ℕ)). map shape_text (shapes_of levels) ++ xs) (sym cut) ∙ before

pub returns-in_err-read_level-clause-none : goal.returns-in_err-read_level-clause-none
returns-in_err-read_level-clause-none c =
    let levels = c.loop-first.levels.items in
    let first = c.in-Some.first.now in
    let more = parts_at comma c.in-Some.behind.now in
    let cut = cut-rest levels c.loop-first.rest.now c.args.text.now (first ∷ more) c.in-Some.ensures.some c.loop-first.invariant.parts in
    IfNone-any c.from_residual.result _
    (no-levels-part c.args.text.now (map shape_text (shapes_of levels)) first more cut c.in_err-read_level.ensures.none)

pub returns-in_err-ok-clause-none : goal.returns-in_err-ok-clause-none
returns-in_err-ok-clause-none c =
    let levels = c.loop-first.levels.items in
    let first = c.in-Some.first.now in
    let more = parts_at comma c.in-Some.behind.now in
    let cut = cut-rest levels c.loop-first.rest.now c.args.text.now (first ∷ more) c.in-Some.ensures.some c.loop-first.invariant.parts in
    let full = holds-at-none c.try_push.result c.ok.result _ c.try_push.ensures.full c.ok.ensures.value c.in_err-ok.was in
    let many : 3 ≤ length levels = omega (arith, full) in
    IfNone-any c.from_residual-in_err-ok.result _ (no-levels-many c.args.text.now levels first more many cut)

pub loop-first-preserved : goal.loop-first-preserved
loop-first-preserved c =
    let levels = c.loop-first.levels.items in
    let level = c.in_ok-read_level.field-0 in
    let first = c.in-Some.first.now in
    let more = parts_at comma c.in-Some.behind.now in
    let inv = c.loop-first.invariant in
    let cut = cut-rest levels c.loop-first.rest.now c.args.text.now (first ∷ more) c.in-Some.ensures.some inv.parts in
    let pushed : c.try_push.new.self.items ≡ levels ++ level ∷ [] =
    holds-at-some c.try_push.result c.ok.result c.in_ok-ok.field-0 _ c.try_push.ensures.ok c.ok.ensures.value c.in_ok-ok.was in
    record {
      parts = subst (λ (items : List Level). map shape_text (shapes_of items) ++ more ≡ parts_at comma c.args.text.now) (sym pushed)
          (one-more-part levels level first more (parts_at comma c.args.text.now) c.in_ok-read_level.ensures.some cut);
      allowed = subst (λ (items : List Level). list_all is_shape (shapes_of items) ≡ true) (sym pushed)
          (allowed-step levels level inv.allowed c.in_ok-read_level.ensures.allowed);
    }

pub returns-in_err-read_level-2-clause-none : goal.returns-in_err-read_level-2-clause-none
returns-in_err-read_level-2-clause-none c =
    let levels = c.loop-first.levels.items in
    let rest = c.loop-first.rest.now in
    let cut = cut-rest levels rest c.args.text.now (rest ∷ []) c.in_default.ensures.none c.loop-first.invariant.parts in
    IfNone-any c.from_residual-in_err-read_level-2.result _
    (no-levels-part c.args.text.now (map shape_text (shapes_of levels)) rest [] cut c.in_err-read_level-2.ensures.none)

pub returns-in_err-ok-2-clause-none : goal.returns-in_err-ok-2-clause-none
returns-in_err-ok-2-clause-none c =
    let levels = c.loop-first.levels.items in
    let rest = c.loop-first.rest.now in
    let cut = cut-rest levels rest c.args.text.now (rest ∷ []) c.in_default.ensures.none c.loop-first.invariant.parts in
    let full = holds-at-none c.try_push-2.result c.ok-2.result _ c.try_push-2.ensures.full c.ok-2.ensures.value c.in_err-ok-2.was in
    let many : 3 ≤ length levels = omega (arith, full) in
    IfNone-any c.from_residual-in_err-ok-2.result _ (no-levels-many c.args.text.now levels rest [] many cut)
