use Rattle.std.proofs.Common.{List, ℕ, [], Option, Some, None, IfSome, IsUtf8, unwrap_or, ap, subst, sym, ◌∙◌}
use Rattle.std.proofs.lemmas.List.Elements.{All-nil}
use Rattle.std.specs.List.{All}
use Rattle.sz_artifacts.proofs.conveyed.image.read_image.Goals as goal

texts_or_none : (found : Option (List (List ℕ))) → IfSome found (All IsUtf8) → All IsUtf8 (unwrap_or found [])
texts_or_none None h = All-nil IsUtf8
texts_or_none (Some texts) h = h

pub returns-clause-texts : goal.returns-clause-texts
returns-clause-texts c =
    let uris = c.in_ok-uris.uris in
    let same = c.unwrap_or.ensures ∙ ap (unwrap_or uris) c.create.ensures in
    record {
      os_name = c.in_ok-os_name.ensures.utf8;
      os_version = c.in_ok-os_version.ensures.utf8;
      uris = subst (All IsUtf8) (sym same) (texts_or_none uris c.in_ok-uris.ensures.utf8);
    }
