use Rattle.std.proofs.Common.{◌≡◌, ◌+◌, ◌*◌, ◌++◌, take}
use Rattle.std.specs.List.{flat_map}
use Rattle.arrayvec.specs.ArrayVec.{array_vec_len}
use Rattle.sz_hss.specs.Stored.{shape_bytes}
use Rattle.sz_hss.specs.View.{shapes_of}
use Rattle.sz_hss.proofs.stored.append_shapes.Given as goal

-- the shapes so far were put last
abbrev pub invariant-loop-level : goal.invariant-loop-level
invariant-loop-level l = record {
  items : l.out.items ≡ l.initial.out.items ++ flat_map shape_bytes (shapes_of (take l.level-index l.levels));
  len : array_vec_len l.out ≡ array_vec_len l.initial.out + 2 * l.level-index;
}
