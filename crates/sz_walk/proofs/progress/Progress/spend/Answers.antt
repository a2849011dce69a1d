use Rattle.std.proofs.Common.{List, reverse, sym, ap, ◌∙◌, ◌==◌, not}
use Rattle.sz_walk.specs.declared.entry.Entry.{Entry}
use Rattle.sz_walk.proofs.Lists.{filter-reverse}
use Rattle.sz_walk.proofs.progress.Progress.spend.Goals as goal

pub returns-clause-entries : goal.returns-clause-entries
returns-clause-entries c =
    ap (λ v. reverse v.items) c.note.ensures.left ∙ ap (λ (es : List Entry). reverse es) c.drop_source.ensures
    ∙ sym (filter-reverse (λ (entry : Entry). not (entry.source == c.args.front.source)) c.args.self.now.left.items)
