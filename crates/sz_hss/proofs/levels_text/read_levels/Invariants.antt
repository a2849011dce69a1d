use Rattle.std.proofs.Common.{◌≡◌, ◌++◌, true, length, map}
use Rattle.std.specs.List.{list_all}
use Rattle.sz_hss.specs.Key.{is_shape}
use Rattle.sz_hss.specs.LevelsText.{comma, parts_at, shape_text}
use Rattle.sz_hss.specs.View.{shapes_of}
use Rattle.sz_hss.proofs.levels_text.read_levels.Given as goal

-- the levels so far, and the parts of the rest, are the parts of the text
abbrev pub invariant-loop-first : goal.invariant-loop-first
invariant-loop-first l = record {
  parts : map shape_text (shapes_of l.levels.items) ++ parts_at comma l.rest ≡ parts_at comma l.text;
  allowed : list_all is_shape (shapes_of l.levels.items) ≡ true;
}

abbrev pub decreases-loop-first : goal.decreases-loop-first
decreases-loop-first l = length l.rest
