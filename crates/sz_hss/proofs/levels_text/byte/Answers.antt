use Rattle.std.proofs.Common.{◌≡◌, ◌≢◌, ℕ, ◌<◌, Option, refl, sym, subst}
use Rattle.std.specs.Prelude.{IfNone, IfSome}
use Rattle.std.specs.Fmt.{decimal}
use Rattle.sz_hss.proofs.LevelsTexts.{IfNone-any, byte-read, byte-unread}
use Rattle.sz_hss.proofs.levels_text.byte.Goals as goal

pub returns-in_err-number-clause-none : goal.returns-in_err-number-clause-none
returns-in_err-number-clause-none c =
    IfNone-any c.from_residual.result _ (byte-unread c.args.text.now (c.in_err-number.ensures.none.0 refl))

pub returns-clause-some : goal.returns-clause-some
returns-clause-some c =
    subst (λ (o : Option ℕ). IfSome o (λ n. c.args.text.now ≡ decimal n)) (sym c.ok.ensures.value)
    (byte-read c.args.text.now c.in_ok-number.field-0 c.try_from.result c.in_ok-number.ensures.some c.try_from.ensures).0

pub returns-clause-none : goal.returns-clause-none
returns-clause-none c =
    subst (λ (o : Option ℕ). IfNone o ((n : ℕ) → n < 256 → c.args.text.now ≢ decimal n)) (sym c.ok.ensures.value)
    (byte-read c.args.text.now c.in_ok-number.field-0 c.try_from.result c.in_ok-number.ensures.some c.try_from.ensures).1
