-- The way down from the top tree to the lowest one.
use Rattle.std.proofs.Common.{◌≡◌, ℕ, zero, suc, ◌+◌, ◌*◌, ◌<◌, ◌≤◌, ◌==◌, ◌&&◌, Bool, true, false, List, [], ◌∷◌, ◌++◌, length, map, drop, get_or, refl, sym, ap, ◌∙◌, ⊎_elim, append_assoc, arith, IsTrue, eqb-true}
use Rattle.std.specs.List.{list_all}
use Rattle.std.proofs.lemmas.Bool.{and_parts, or_cases}
use Rattle.std.proofs.lemmas.List.{drop-map, drop_more, length-map}
use Rattle.sz_lms_tree.specs.Tree.{TreeSecret, is_height, is_width, public_of, signature_of}
use Rattle.sz_hss.specs.Key.{AreLevels, Shape, is_shape}
use Rattle.sz_hss.specs.Leaf.{leaf_at, child_at, heights_of, lowest_at}
use Rattle.sz_hss.specs.Signature.{pairs_of}
use Rattle.sz_hss.specs.View.{shape_of, shapes_of}
use Rattle.sz_hss.specs.declared.level.Level.{Level}

pub pairs_of-step : (out : List ℕ) (secret : TreeSecret) (shape : Shape) (below : List Shape) (n : ℕ)
    → (out ++ (signature_of secret (leaf_at secret.height (shape ∷ below) n) (public_of (child_at secret shape below n))
    ++ public_of (child_at secret shape below n))) ++ pairs_of (child_at secret shape below n) below n
    ≡ out ++ pairs_of secret (shape ∷ below) n
unfolding pairs_of
pairs_of-step out secret shape below n = append_assoc out _ _

pub lowest_at-step : (secret : TreeSecret) (shape : Shape) (below : List Shape) (n : ℕ)
    → lowest_at (child_at secret shape below n) below n ≡ lowest_at secret (shape ∷ below) n
unfolding lowest_at
lowest_at-step secret shape below n = refl

pub lowest_at-end : (secret : TreeSecret) (n : ℕ) → lowest_at secret [] n ≡ secret
unfolding lowest_at
lowest_at-end secret n = refl

pub pairs_of-end : (secret : TreeSecret) (n : ℕ) → pairs_of secret [] n ≡ []
unfolding pairs_of
pairs_of-end secret n = refl

-- ---- heights and places of levels

-- the levels from one on are that one and the others
pub shapes-from : (levels : List Level) (i : ℕ) (d : Level) → i < length levels
    → drop i (shapes_of levels) ≡ shape_of (get_or levels i d) ∷ drop (i + 1) (shapes_of levels)
shapes-from levels i d lt =
    drop-map shape_of i levels ∙ ap (map shape_of) (drop_more levels i d lt)
    ∙ ap (λ (rest : List Shape). shape_of (get_or levels i d) ∷ rest) (sym (drop-map shape_of (i + 1) levels))

pub heights_of-from : (levels : List Level) (i : ℕ) (d : Level) → i < length levels
    → heights_of (drop i (shapes_of levels)) ≡ (get_or levels i d).height + heights_of (drop (i + 1) (shapes_of levels))
heights_of-from levels i d lt = ap heights_of (shapes-from levels i d lt)

list_all-drop : (i : ℕ) (shapes : List Shape) → list_all is_shape shapes ≡ true → list_all is_shape (drop i shapes) ≡ true
list_all-drop zero shapes all = all
list_all-drop (suc i) [] all = refl
list_all-drop (suc i) (shape ∷ shapes) all = list_all-drop i shapes (and_parts (is_shape shape) (list_all is_shape shapes) all).1

-- the level at a place among levels that are allowed is allowed
pub allowed-at : (levels : List Level) (i : ℕ) (d : Level) → i < length levels → IsTrue (list_all is_shape (shapes_of levels))
    → IsTrue (is_shape (shape_of (get_or levels i d)))
allowed-at levels i d lt all =
    let from = ap (list_all is_shape) (shapes-from levels i d lt) in
    (and_parts (is_shape (shape_of (get_or levels i d))) (list_all is_shape (drop (i + 1) (shapes_of levels)))
    (sym from ∙ list_all-drop i (shapes_of levels) all)).0

-- allowed heights are at most 15
pub height-small : (height : ℕ) → IsTrue (is_height height) → height ≤ 15
height-small height is =
    let at = λ (n : ℕ) (e : (height == n) ≡ true). eqb-true height n e in
    ⊎_elim (λ low. ⊎_elim (λ e. let f = at 5 e in omega arith) (λ e. let f = at 10 e in omega arith) (or_cases _ _ low))
    (λ e. let f = at 15 e in omega arith) (or_cases _ _ is)

pub heights-small : (shapes : List Shape) → IsTrue (list_all is_shape shapes) → heights_of shapes ≤ 15 * length shapes
heights-small [] all = omega arith
heights-small (shape ∷ shapes) all =
    let parts = and_parts (is_shape shape) (list_all is_shape shapes) all in
    let here = height-small shape.height (and_parts (is_height shape.height) (is_width shape.width) parts.0).0 in
    let rest = heights-small shapes parts.1 in
    omega arith

-- all shapes are allowed where all levels have an allowed one
pub list_all_shapes : (levels : List Level) → list_all is_shape (shapes_of levels) ≡ list_all (λ level. is_shape (shape_of level)) levels
list_all_shapes [] = refl
list_all_shapes (level ∷ levels) = ap (λ (rest : Bool). is_shape (shape_of level) && rest) (list_all_shapes levels)

-- levels that a key may have, by their number and their shapes
pub AreLevels-tested : (levels : List Level) → (length levels == 0) ≡ false → length levels ≤ 3
    → list_all (λ level. is_shape (shape_of level)) levels ≡ true → AreLevels (shapes_of levels)
AreLevels-tested [] some few all = absurd (cc)
AreLevels-tested (level ∷ levels) some few all =
    let long = length-map levels shape_of in
    record { some = omega arith; few = omega arith; allowed = list_all_shapes (level ∷ levels) ∙ all }

pub not-AreLevels-empty : (levels : List Level) → (length levels == 0) ≡ true → AreLevels (shapes_of levels) → ⊥
not-AreLevels-empty levels none are =
    let e = eqb-true (length levels) 0 none in let long = length-map levels shape_of in omega (arith, are.some)

pub not-AreLevels-many : (levels : List Level) → 3 < length levels → AreLevels (shapes_of levels) → ⊥
not-AreLevels-many levels many are = let long = length-map levels shape_of in omega (arith, are.few)

pub not-AreLevels-shape : (levels : List Level) → list_all (λ level. is_shape (shape_of level)) levels ≡ false → AreLevels (shapes_of levels) → ⊥
not-AreLevels-shape levels fails are = let e = sym fails ∙ sym (list_all_shapes levels) ∙ are.allowed in absurd (cc)
