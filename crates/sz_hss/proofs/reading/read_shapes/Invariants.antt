use Rattle.std.proofs.Common.{◌≡◌, ℕ, ◌-◌, ◌++◌, Bool, true, List}
use Rattle.arrayvec.specs.ArrayVec.{array_vec_len}
use Rattle.std.specs.List.{list_all}
use Rattle.sz_hss.specs.Key.{is_shape}
use Rattle.sz_hss.specs.StoredFault.{first_wrong, shape_tests, shapes_in}
use Rattle.sz_hss.specs.View.{shapes_of}
use Rattle.sz_hss.proofs.reading.read_shapes.Given as goal

-- the shapes so far are right, and the tests on the others are left
abbrev pub invariant-loop-k : goal.invariant-loop-k
invariant-loop-k l = record {
  shapes : shapes_of l.levels.items ++ shapes_in l.bytes l.k (l.count - l.k) ≡ shapes_in l.bytes 0 l.count;
  len : array_vec_len l.levels ≡ l.k;
  allowed : list_all is_shape (shapes_of l.levels.items) ≡ true;
  left : (rest : List (Bool × ℕ)) → first_wrong (shape_tests l.bytes 0 l.count ++ rest)
      ≡ first_wrong (shape_tests l.bytes l.k (l.count - l.k) ++ rest);
}
