use Rattle.std.proofs.Common.{map}
use Rattle.sz_hss.specs.LevelsText.{IsLevelsText, comma, shape_text}
use Rattle.sz_hss.specs.View.{shapes_of}
use Rattle.sz_hss.proofs.LevelsTexts.{joined-parts_at}
use Rattle.sz_hss.proofs.level.Levels.read.Goals as goal

pub returns-in-Some-clause-reads : goal.returns-in-Some-clause-reads
returns-in-Some-clause-reads c =
    let text = c.args.text.now in
    let shapes = shapes_of c.in-Some.items.items in
    let is : IsLevelsText text shapes = record {
      levels = c.in-Some.ensures.allowed;
      spelled = joined-parts_at comma text (map shape_text shapes) c.in-Some.ensures.some;
    } in
    rw c.of.ensures (record { ok = is; refused = (λ e. cc e, λ none. absurd (none shapes is)) })
