use Rattle.std.proofs.Common.{IsUtf8, subst, sym, arith}
use Rattle.std.proofs.lemmas.Grind.{common_steps}
use Rattle.std.proofs.lemmas.List.Elements.{All-push}
use Rattle.std.specs.List.{All}
use Rattle.sz_artifacts.proofs.conveyed.image.texts.Goals as goal

pub items-preserved : goal.items-preserved
items-preserved c =
    let text = subst IsUtf8 (sym c.in_ok-from_slice.ensures) c.as_bytes.ensures.utf8 in
    let all = All-push IsUtf8 c.items.texts c.in_ok-from_slice.field-0 c.items.invariant.utf8 text in
    record { read = grind (arith, common_steps); utf8 = subst (All IsUtf8) (sym c.in_ok-push.ensures.ok) all }
