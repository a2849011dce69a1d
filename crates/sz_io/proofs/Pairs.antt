-- The first pair of a path among pairs of a path and its bytes, and the files that the pairs make.
use Rattle.std.proofs.Common.{◌≡◌, ◌==◌, ℕ, zero, suc, ◌+◌, ◌<◌, Bool, true, false, cond, List, [], ◌∷◌, ◌++◌, length, take, Option, Some, None, get_or, refl, sym, ap, ◌∙◌, arith}
use Rattle.std.proofs.lemmas.List.{take_more}
use Rattle.std.proofs.Math.ListN.{set}
use Rattle.std.specs.Ordering.{nat_cmp, eq_by_cmp}
use Rattle.std.specs.Cmp.{eq_by_cmp_equiv, unsigned_ties}
use Rattle.std.specs.Cmp.Lexicographic.{slice_cmp, pointwise, lists_ties, nat_list_cmp_total, same_text}
use Rattle.std.specs.FinMap.{IsAntisymmetric, nat_cmp-IsAntisymmetric, slice_cmp-IsAntisymmetric, get-from_entries, get-insert, same_map, from_entries_push}
use Rattle.sz_io.specs.Folder.{files_of, first_in, bytes_at, with_file}

abbrev Pair : Type 0
Pair = List ℕ × List ℕ

-- two paths are one
abbrev pub ties : List ℕ → List ℕ → Bool
ties path other = eq_by_cmp (slice_cmp nat_cmp) path other

exact : IsAntisymmetric (slice_cmp nat_cmp)
exact = slice_cmp-IsAntisymmetric nat_cmp-IsAntisymmetric

ties_itself : (path other : List ℕ) → other ≡ path → ties path other ≡ true
ties_itself path other same = rw same ((eq_by_cmp_equiv nat_list_cmp_total).refl path)

-- what a test of two paths says
pub tested : (path other : List ℕ) → pointwise (λ x y. x == y) path other ≡ ties path other
tested path other = lists_ties nat_cmp unsigned_ties path other

pub bytes_at-files_of : (pairs : List Pair) (path : List ℕ) → bytes_at (files_of pairs) path ≡ first_in pairs path
bytes_at-files_of pairs path = get-from_entries nat_list_cmp_total pairs path

first_in-push : (pairs : List Pair) (path : List ℕ) (pair : Pair) → first_in pairs path ≡ None → ties path pair.0 ≡ false
    → first_in (pairs ++ pair ∷ []) path ≡ None
first_in-push [] path pair none other = rw other refl
first_in-push (first ∷ pairs) path pair none other =
    elim (ties path first.0) as (λ b. cond b (Some first.1) (first_in pairs path) ≡ None → cond b (Some first.1) (first_in (pairs ++ pair ∷ []) path) ≡ None) [
      | true ↦ λ found. found
      | false ↦ λ unfound. first_in-push pairs path pair unfound other
    ] none

-- a pair of another path is passed
pub first_in-take_more : (pairs : List Pair) (path : List ℕ) (i : ℕ) (d : Pair) → i < length pairs → first_in (take i pairs) path ≡ None
    → ties path (get_or pairs i d).0 ≡ false → first_in (take (i + 1) pairs) path ≡ None
first_in-take_more pairs path i d within none other =
    rw (take_more pairs i d within) (first_in-push (take i pairs) path (get_or pairs i d) none other)

-- the first pair of a path has its bytes
pub first_in-at : (pairs : List Pair) (path : List ℕ) (i : ℕ) (d : Pair) → i < length pairs → first_in (take i pairs) path ≡ None
    → (get_or pairs i d).0 ≡ path → first_in pairs path ≡ Some (get_or pairs i d).1
first_in-at [] path i d within none same = absurd (omega arith)
first_in-at (first ∷ pairs) path zero d within none same = rw (ties_itself path first.0 same) refl
first_in-at (first ∷ pairs) path (suc i) d within none same =
    elim (ties path first.0) as (λ b. cond b (Some first.1) (first_in (take i pairs) path) ≡ None
    → cond b (Some first.1) (first_in pairs path) ≡ Some (get_or pairs i d).1) [
      | true ↦ λ found. cc
      | false ↦ λ unfound. first_in-at pairs path i d (omega arith) unfound same
    ] none

-- two tests of which at most one holds may be made in either order
either_order : (a b : Bool) (x y z : Option (List ℕ)) → (a ≡ true → b ≡ true → ⊥) → cond a x (cond b y z) ≡ cond b y (cond a x z)
either_order true true x y z apart = absurd (apart refl refl)
either_order true false x y z apart = refl
either_order false b x y z apart = refl

-- a second test for the same is never reached
shadowed : (a : Bool) (x y z : Option (List ℕ)) → cond a x z ≡ cond a x (cond a y z)
shadowed true x y z = refl
shadowed false x y z = refl

same_path : (path other : List ℕ) → ties path other ≡ true → path ≡ other
same_path path other tied = same_text path other (sym (tested path other ∙ tied))

-- other bytes for the first pair of a path
first_in-set : (pairs : List Pair) (path bytes : List ℕ) (i : ℕ) (d : Pair) → i < length pairs → first_in (take i pairs) path ≡ None
    → (get_or pairs i d).0 ≡ path → (q : List ℕ)
    → first_in (set pairs i ((get_or pairs i d).0, bytes)) q ≡ cond (ties q path) (Some bytes) (first_in pairs q)
first_in-set [] path bytes i d within none same q = absurd (omega arith)
first_in-set (first ∷ pairs) path bytes zero d within none same q =
    rw same (shadowed (ties q path) (Some bytes) (Some first.1) (first_in pairs q))
first_in-set (first ∷ pairs) path bytes (suc i) d within none same q =
    elim (ties path first.0) as (λ b. ties path first.0 ≡ b → cond b (Some first.1) (first_in (take i pairs) path) ≡ None →
    cond (ties q first.0) (Some first.1) (first_in (set pairs i ((get_or pairs i d).0, bytes)) q)
    ≡ cond (ties q path) (Some bytes) (cond (ties q first.0) (Some first.1) (first_in pairs q))) [
      | true ↦ λ is found. cc
      | false ↦ λ is unfound.
          ap (cond (ties q first.0) (Some first.1)) (first_in-set pairs path bytes i d (omega arith) unfound same q)
          ∙ either_order (ties q first.0) (ties q path) (Some first.1) (Some bytes) (first_in pairs q) (λ a b.
          let one : path ≡ first.0 = sym (same_path q path b) ∙ same_path q first.0 a in
          let tied : ties path first.0 ≡ true = ties_itself path first.0 (sym one) in
          cc)
    ] refl none

pub files_of-set : (pairs : List Pair) (path bytes : List ℕ) (i : ℕ) (d : Pair) → i < length pairs → first_in (take i pairs) path ≡ None
    → (get_or pairs i d).0 ≡ path → files_of (set pairs i ((get_or pairs i d).0, bytes)) ≡ with_file path bytes (files_of pairs)
files_of-set pairs path bytes i d within none same =
    same_map nat_list_cmp_total exact _ _ (λ q.
    bytes_at-files_of _ q ∙ first_in-set pairs path bytes i d within none same q
    ∙ sym (get-insert nat_list_cmp_total (files_of pairs) path bytes q ∙ ap (cond (ties q path) (Some bytes)) (bytes_at-files_of pairs q)))

pub files_of-push : (pairs : List Pair) (path bytes : List ℕ) → first_in pairs path ≡ None
    → files_of (pairs ++ (path, bytes) ∷ []) ≡ with_file path bytes (files_of pairs)
files_of-push pairs path bytes none = from_entries_push nat_list_cmp_total exact pairs path bytes none
