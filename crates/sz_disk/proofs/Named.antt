-- The first entry of a name.
use Rattle.std.proofs.Common.{◌≡◌, ℕ, zero, suc, ◌+◌, ◌<◌, ◌≤◌, Bool, true, false, not, cond, ltb, List, [], ◌∷◌, length, set, get_or, Some, None, refl, sym, ap, ◌∙◌, arith}
use Rattle.std.proofs.lemmas.Bool.{false≢true}
use Rattle.std.proofs.lemmas.Bool.Decides.{nat_tests}
use Rattle.std.proofs.lemmas.List.{length-map, get_or-map}
use Rattle.std.proofs.lemmas.List.Folds.{find_at}
use Rattle.std.proofs.lemmas.List.Sums.{fails_before_first}
use mathlib.Core.Path.{fun_ext}
use Rattle.std.proofs.lemmas.Slice.Eq.{bytes_eq-Decides}
use Rattle.std.specs.List.{position, position_or_len, Contains, find, slice_get}
use Rattle.std.specs.Option.{option_map}
use Rattle.sz_disk.specs.Disks.{has_name, names, with_disk, with_disk_at}

some-place : (n m i : ℕ) (b : Bool) → ltb n m ≡ b → cond b (Some n) None ≡ Some i → (n ≡ i) × (n < m)
some-place n m i true is e = (cc, grind (arith, nat_tests))
some-place n m i false is e = absurd (cc)

no-place : (n m : ℕ) (b : Bool) → ltb n m ≡ b → cond b (Some n) None ≡ None → m ≤ n
no-place n m true is e = absurd (cc)
no-place n m false is e = grind (arith, nat_tests)

-- the place that was found
pub found-place : {X : Type 0} (p : X → Bool) (xs : List X) (i : ℕ) → position p xs ≡ Some i → (position_or_len p xs ≡ i) × (position_or_len p xs < length xs)
found-place p xs i e = some-place (position_or_len p xs) (length xs) i (ltb (position_or_len p xs) (length xs)) refl e

-- none was found
pub found-none : {X : Type 0} (p : X → Bool) (xs : List X) → position p xs ≡ None → length xs ≤ position_or_len p xs
found-none p xs e = no-place (position_or_len p xs) (length xs) (ltb (position_or_len p xs) (length xs)) refl e

with-step : {X : Type 0} (entry : List ℕ × X) (entries rest : List (List ℕ × X)) (w : X) (n : ℕ) (b : Bool) → with_disk_at n entries w ≡ rest
    → with_disk_at (cond (not b) (1 + n) 0) (entry ∷ entries) w ≡ cond b ((entry.0, w) ∷ entries) (entry ∷ rest)
with-step entry entries rest w n true h = refl
with-step entry entries rest w n false h =
    let e : 1 + n ≡ suc n = omega arith in
    ap (λ (i : ℕ). with_disk_at i (entry ∷ entries) w) e ∙ ap (λ s. entry ∷ s) h

-- a disk at the first place of a name is a disk in the first entry of that name
pub with_disk_at-first : {X : Type 0} (name : List ℕ) (entries : List (List ℕ × X)) (w : X)
    → with_disk_at (position_or_len (has_name name) entries) entries w ≡ with_disk name entries w
with_disk_at-first name [] w = refl
with_disk_at-first name (entry ∷ entries) w =
    with-step entry entries (with_disk name entries w) w (position_or_len (has_name name) entries) (has_name name entry) (with_disk_at-first name entries w)

named-step : {X : Type 0} (name : List ℕ) (entry : List ℕ × X) (entries : List (List ℕ × X)) (n : ℕ) (b : Bool) → has_name name entry ≡ b
    → (n < length entries → get_or (names entries) n name ≡ name) → cond (not b) (1 + n) 0 < length (entry ∷ entries)
    → get_or (names (entry ∷ entries)) (cond (not b) (1 + n) 0) name ≡ name
named-step name entry entries n true is more lt = (bytes_eq-Decides entry.0 name).0 is
named-step name entry entries n false is more lt =
    let e : 1 + n ≡ suc n = omega arith in
    ap (λ (i : ℕ). get_or (names (entry ∷ entries)) i name) e ∙ more (omega arith)

-- the entry that was found has the name
pub first-named : {X : Type 0} (name : List ℕ) (entries : List (List ℕ × X)) → position_or_len (has_name name) entries < length entries
    → get_or (names entries) (position_or_len (has_name name) entries) name ≡ name
first-named name [] lt = absurd (omega arith)
first-named name (entry ∷ entries) lt =
    named-step name entry entries (position_or_len (has_name name) entries) (has_name name entry) refl (first-named name entries) lt

-- where none was found, no entry has the name
pub none-named : {X : Type 0} (name : List ℕ) (entries : List (List ℕ × X)) → length entries ≤ position_or_len (has_name name) entries
    → Contains (names entries) name → ⊥
none-named name [] le (k, lt, e) = omega arith
none-named name (entry ∷ entries) le (k, lt, e) =
    let less : k < length (entry ∷ entries) = omega (arith, length-map (entry ∷ entries) (λ x. x.0)) in
    let is = get_or-map (λ x. x.0) (entry ∷ entries) k entry name less in
    let fails = fails_before_first (has_name name) (entry ∷ entries) k entry (omega arith) in
    false≢true (sym fails ∙ (bytes_eq-Decides (get_or (entry ∷ entries) k entry).0 name).1 (sym is ∙ e))

-- one entry with another disk
pub with-set : {X : Type 0} (entries : List (List ℕ × X)) (i : ℕ) (entry : List ℕ × X) (w : X) → i < length entries → entry ≡ get_or entries i entry
    → set entries i (entry.0, w) ≡ with_disk_at i entries w
with-set [] i entry w lt is = absurd (omega arith)
with-set (e ∷ es) zero entry w lt is = ap (λ x. (x.0, w) ∷ es) is
with-set (e ∷ es) (suc i) entry w lt is = ap (λ s. e ∷ s) (with-set es i entry w (omega arith) is)

-- the disk of an entry
pub disk-there : {X : Type 0} (entries : List (List ℕ × X)) (i : ℕ) (entry : List ℕ × X) → i < length entries → entry ≡ get_or entries i entry
    → option_map (λ e. e.1) (slice_get entries i) ≡ Some entry.1
disk-there [] i entry lt is = absurd (omega arith)
disk-there (e ∷ es) zero entry lt is = ap (λ x. Some x.1) (sym is)
disk-there (e ∷ es) (suc i) entry lt is = disk-there es i entry (omega arith) is

slice_get-past : {X : Type 0} (xs : List X) (i : ℕ) → length xs ≤ i → slice_get xs i ≡ None
slice_get-past [] i le = refl
slice_get-past (x ∷ xs) zero le = absurd (omega arith)
slice_get-past (x ∷ xs) (suc i) le = slice_get-past xs i (omega arith)

-- What `find` says, where a place was found.
pub record Found {X : Type 0} (name : List ℕ) (entries : List (List ℕ × X)) (place : ℕ) : Type 0 where
  pub lends : with_disk_at place entries ≡ with_disk name entries
  pub contains : Contains (names entries) name
  pub disk : slice_get entries place ≡ find (has_name name) entries

pub found-is : {X : Type 0} (name : List ℕ) (entries : List (List ℕ × X)) (place : ℕ) → position (has_name name) entries ≡ Some place → Found name entries place
found-is name entries place e =
    let f = found-place (has_name name) entries place e in
    record {
      lends = fun_ext (λ w. ap (λ (i : ℕ). with_disk_at i entries w) (sym f.0) ∙ with_disk_at-first name entries w);
      contains = (position_or_len (has_name name) entries, omega (arith, f.1, length-map entries (λ x. x.0)), first-named name entries f.1);
      disk = ap (slice_get entries) (sym f.0) ∙ sym (find_at (has_name name) entries);
    }

-- where none was found
pub find-none : {X : Type 0} (name : List ℕ) (entries : List (List ℕ × X)) → position (has_name name) entries ≡ None → find (has_name name) entries ≡ None
find-none name entries e =
    find_at (has_name name) entries ∙ slice_get-past entries (position_or_len (has_name name) entries) (found-none (has_name name) entries e)
