-- Trees that have been built, at their places.
use Rattle.std.proofs.Common.{◌≡◌, ℕ, ◌<◌, ◌≤◌, List, [], ◌∷◌, ◌++◌, length, get_or, take, sym, ap, ◌∙◌, arith, length-take, length-take-le}
use Rattle.std.proofs.lemmas.List.{get_or-take, get_or_push, length_push}
use Rattle.sz_lms_tree.specs.Tree.{TreeSecret}
use Rattle.sz_hss.specs.Built.{IsTreeAt}

-- trees before a place that stays stay
pub IsTreeAt-before : (old new : List TreeSecret) (at place : ℕ) (secret : TreeSecret) → take at new ≡ take at old
    → at ≤ length old → place < at → IsTreeAt old place secret → IsTreeAt new place secret
IsTreeAt-before old new at place secret same within before tree =
    let long : length (take at new) ≡ at = ap length same ∙ length-take-le at old within in
    record {
      there = omega (arith, length-take at new, long);
      is = λ d. sym (get_or-take at new place d before) ∙ ap (λ (xs : List TreeSecret). get_or xs place d) same
          ∙ get_or-take at old place d before ∙ tree.is d;
    }

-- a tree that is put last
pub IsTreeAt-push : (trees : List TreeSecret) (at : ℕ) (tree secret : TreeSecret) → length trees ≡ at → tree ≡ secret
    → IsTreeAt (trees ++ tree ∷ []) at secret
IsTreeAt-push trees at tree secret last same = record {
  there = omega (arith, length_push trees tree, last);
  is = λ d. get_or_push trees tree d at last ∙ same;
}
