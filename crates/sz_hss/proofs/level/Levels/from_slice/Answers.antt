use Rattle.std.proofs.Common.{◌≡◌, false, true, List, sym, ◌∙◌, subst, rules}
use Rattle.sz_hss.specs.Key.{AreLevels}
use Rattle.sz_hss.specs.View.{shapes_of}
use Rattle.sz_hss.specs.declared.level.Level.{Level}
use Rattle.sz_hss.proofs.Walk.{AreLevels-tested, not-AreLevels-empty, not-AreLevels-many, not-AreLevels-shape}
use Rattle.sz_hss.proofs.level.Levels.from_slice.Goals as goal
use Rattle.sz_hss.proofs.level.Levels.from_slice.Goals.{then-is_empty-via-then-is_empty, then-is_empty-via-else-is_empty+then-levels-gt-MOST_LEVELS, then-is_empty-via-else-is_empty+else-levels-gt-MOST_LEVELS+then-not-are_shapes}

pub returns-then-is_empty-clause-none : goal.returns-then-is_empty-clause-none
returns-then-is_empty-clause-none c are =
    let levels = c.args.levels.now in
    elim c.then-is_empty.branch [
      | then-is_empty-via-then-is_empty w ↦ not-AreLevels-empty levels (sym c.is_empty.ensures ∙ w.if-is_empty.true) are
      | then-is_empty-via-else-is_empty+then-levels-gt-MOST_LEVELS w ↦ not-AreLevels-many levels w.if-levels-gt-MOST_LEVELS.true are
      | then-is_empty-via-else-is_empty+else-levels-gt-MOST_LEVELS+then-not-are_shapes w ↦
          let no : w.are_shapes.result ≡ false = search rules in
          not-AreLevels-shape levels (sym w.are_shapes.ensures ∙ no) are
    ]

pub returns-clause-allowed : goal.returns-clause-allowed
returns-clause-allowed c =
    let yes : c.are_shapes.result ≡ true = search rules in
    AreLevels-tested c.args.levels.now (sym c.is_empty.ensures ∙ c.if-is_empty.false) c.if-levels-gt-MOST_LEVELS.false (sym c.are_shapes.ensures ∙ yes)

pub invariant_of-result : goal.invariant_of-result
invariant_of-result c =
    let yes : c.are_shapes.result ≡ true = search rules in
    let are = AreLevels-tested c.args.levels.now (sym c.is_empty.ensures ∙ c.if-is_empty.false)
    c.if-levels-gt-MOST_LEVELS.false (sym c.are_shapes.ensures ∙ yes) in
    let items : c.try_extend_from_slice.new.self.items ≡ c.args.levels.now = search rules in
    subst (λ (levels : List Level). AreLevels (shapes_of levels)) (sym items) are
