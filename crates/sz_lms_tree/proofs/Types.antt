-- The types of the heights and widths that trees may have.
use Rattle.std.proofs.Common.{◌≡◌, ℕ, true, Some, ⊎_elim, refl, sym, subst, ◌==◌, eqb-true, IsTrue}
use Rattle.std.proofs.lemmas.Bool.{or_cases}
use Rattle.sz_lms.specs.Ots.{ots_type}
use Rattle.sz_lms.specs.Lms.{height_of}
use Rattle.sz_lms_tree.specs.Tree.{is_height, is_width, tree_code, ots_code, ots_of}

pub height_of-tree_code : (height : ℕ) → IsTrue (is_height height) → height_of (tree_code height) ≡ Some height
height_of-tree_code height is =
    let Known : ℕ → Type 0 = λ h. height_of (tree_code h) ≡ Some h in
    let at = λ (n : ℕ) (e : (height == n) ≡ true) (known : Known n). subst Known (sym (eqb-true height n e)) known in
    ⊎_elim (λ low. ⊎_elim (λ e. at 5 e refl) (λ e. at 10 e refl) (or_cases _ _ low)) (λ e. at 15 e refl) (or_cases _ _ is)

-- what the table says of a width
pub record IsKnown (width : ℕ) : Type 0 where
  pub type_is : ots_type (ots_code width) ≡ Some (ots_of width)
  pub width_is : (ots_of width).width ≡ width

pub known_width : (width : ℕ) → IsTrue (is_width width) → IsKnown width
known_width width is =
    let at = λ (n : ℕ) (e : (width == n) ≡ true) (known : IsKnown n). subst IsKnown (sym (eqb-true width n e)) known in
    ⊎_elim
    (λ below. ⊎_elim
    (λ low. ⊎_elim
    (λ e. at 1 e (record { type_is = refl; width_is = refl }))
    (λ e. at 2 e (record { type_is = refl; width_is = refl }))
    (or_cases _ _ low))
    (λ e. at 4 e (record { type_is = refl; width_is = refl }))
    (or_cases _ _ below))
    (λ e. at 8 e (record { type_is = refl; width_is = refl }))
    (or_cases _ _ is)
