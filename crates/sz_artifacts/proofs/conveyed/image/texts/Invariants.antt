use Rattle.std.proofs.Common.{◌≡◌, ◌++◌, length, option_map, IsUtf8}
use Rattle.std.specs.List.{All}
use Rattle.serde_json.specs.View.{items_view}
use Rattle.sz_artifacts.specs.Image.{texts_in}
use Rattle.sz_artifacts.proofs.conveyed.image.texts.Given as goal

abbrev pub invariant-items : goal.invariant-items
invariant-items l = record {
  read : texts_in (items_view l.fn.items) ≡ option_map (λ more. l.texts ++ more) (texts_in (items_view l.rest));
  utf8 : All IsUtf8 l.texts;
}

abbrev pub decreases-items : goal.decreases-items
decreases-items l = length l.rest
