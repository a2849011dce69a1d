-- No leaf of a tree signs two byte strings where no leaf number signs two messages.
use Rattle.std.proofs.Common.{◌≡◌, ◌⊎◌, ℕ, ◌+◌, ◌*◌, ◌/◌, ◌%◌, ◌^◌, ◌<◌, ◌≤◌, List, [], ◌∷◌, ◌++◌, length, take, get_or, refl, sym, ap, ap₂, ◌∙◌, subst, inl, inr, ⊎_elim, add_comm, append_assoc, arith, pow_pos, zero-add, Contains, div-one}
use Rattle.std.specs.List.{flat_map}
use Rattle.std.proofs.lemmas.Bool.{cases_lt}
use Rattle.std.proofs.lemmas.List.{get_or_default, length_push}
use Rattle.std.proofs.lemmas.List.Elements.{All-contains, Contains-append_cases, Contains-append_right, Contains-push_cases}
use Rattle.std.proofs.lemmas.Nat.{div_below, pow-add, shr-shr}
use Rattle.std.proofs.Math.Seq.{take-append_seam}
use Rattle.sz_lms_tree.specs.Tree.{TreeSecret, child_of, public_of}
use Rattle.sz_hss.specs.Key.{Shape, HssKey}
use Rattle.sz_hss.specs.Leaf.{child_at, heights_of, leaf_at, leaf_count, leaves_below, tree_at}
use Rattle.sz_hss.specs.Used.{AreSound, AreWithin, IsSameLeaf, Release, Use, tree_count, used, uses_from}

-- ---- members of lists

cons-cases : {X : Type 0} (x : X) (xs : List X) (y : X) → Contains (x ∷ xs) y → (x ≡ y) ⊎ Contains xs y
cons-cases x xs y has =
    ⊎_elim
    (λ one. ⊎_elim (λ none. absurd (let lt : none.0 < 0 = none.1 in omega arith)) (λ e. inl e) (Contains-push_cases [] x y one))
    (λ later. inr later)
    (Contains-append_cases (x ∷ []) xs y has)

pub Contains-flat_map : {X A : Type 0} (f : X → List A) (xs : List X) (y : A) → Contains (flat_map f xs) y
    → (x : X) × Contains xs x × Contains (f x) y
Contains-flat_map f [] y has = absurd (let lt : has.0 < 0 = has.1 in omega arith)
Contains-flat_map f (x ∷ xs) y has =
    ⊎_elim
    (λ here. (x, (0, omega arith, refl), here))
    (λ later. let found = Contains-flat_map f xs y later in (found.0, Contains-append_right (x ∷ []) xs found.0 found.1, found.2))
    (Contains-append_cases (f x) (flat_map f xs) y has)

-- ---- numbers

same-parts : (d x y : ℕ) → 0 < d → x / d ≡ y / d → x % d ≡ y % d → x ≡ y
same-parts d x y positive quotients rests =
    let whole : d * (x / d) ≡ d * (y / d) = ap (λ (k : ℕ). d * k) quotients in
    omega arith

-- the place of a tree in its level is that of the leaf above it
tree_at-is : (height : ℕ) (below : List Shape) (n : ℕ) → tree_at height below n ≡ n / 2 ^ (height + heights_of below)
tree_at-is height below n =
    shr-shr n (heights_of below) height ∙ ap (λ (k : ℕ). n / 2 ^ k) (add_comm (heights_of below) height)

-- ---- uses

level-least : (level : ℕ) (secret : TreeSecret) (below : List Shape) (n : ℕ) (message : List ℕ) (u : Use)
    → Contains (uses_from level secret below n message) u → level ≤ u.level
unfolding uses_from
level-least level secret [] n message u has =
    ⊎_elim (λ here. let e = ap (λ (w : Use). w.level) here in omega arith)
    (λ none. absurd (let lt : none.0 < 0 = none.1 in omega arith))
    (cons-cases _ [] u has)
level-least level secret (shape ∷ below) n message u has =
    ⊎_elim (λ here. let e = ap (λ (w : Use). w.level) here in omega arith)
    (λ later. let more = level-least (level + 1) (child_at secret shape below n) below n message u later in omega arith)
    (cons-cases _ (uses_from (level + 1) (child_at secret shape below n) below n message) u has)

-- the same tree on the next level is the child of the same leaf of the same tree
same-child : (secret other : TreeSecret) (shape : Shape) (below : List Shape) (n m : ℕ) → secret.height ≡ other.height
    → (tree_at secret.height (shape ∷ below) n ≡ tree_at other.height (shape ∷ below) m → secret ≡ other)
    → tree_at shape.height below n ≡ tree_at shape.height below m
    → child_at secret shape below n ≡ child_at other shape below m
same-child secret other shape below n m heights same trees =
    let above : n / leaves_below (shape ∷ below) ≡ m / leaves_below (shape ∷ below) =
    sym (tree_at-is shape.height below n) ∙ trees ∙ tree_at-is shape.height below m in
    let is = same (ap₂ (λ (x h : ℕ). x / 2 ^ h) above heights) in
    let leaf : leaf_at secret.height (shape ∷ below) n ≡ leaf_at other.height (shape ∷ below) m =
    ap₂ (λ (x h : ℕ). x % 2 ^ h) above heights in
    ap₂ (λ (s : TreeSecret) (q : ℕ). child_of s q shape.height shape.width) is leaf

-- two uses of one leaf sign one byte string, or are the last ones of one leaf number
agree : (level : ℕ) (secret other : TreeSecret) (below : List Shape) (n m : ℕ) (message text : List ℕ) (u v : Use)
    → secret.height ≡ other.height → (tree_at secret.height below n ≡ tree_at other.height below m → secret ≡ other)
    → Contains (uses_from level secret below n message) u → Contains (uses_from level other below m text) v
    → IsSameLeaf u v → (u.signed ≡ v.signed) ⊎ ((n ≡ m) × (u.signed ≡ message) × (v.signed ≡ text))
unfolding uses_from
agree level secret other [] n m message text u v heights same has has_v leaf =
    ⊎_elim
    (λ e. ⊎_elim
    (λ f.
    let trees : n / 1 / 2 ^ secret.height ≡ m / 1 / 2 ^ secret.height =
    ap (λ (w : Use). w.tree) e ∙ leaf.tree ∙ sym (ap (λ (w : Use). w.tree) f) ∙ ap (λ (h : ℕ). m / 1 / 2 ^ h) (sym heights) in
    let leaves : n / 1 % 2 ^ secret.height ≡ m / 1 % 2 ^ secret.height =
    ap (λ (w : Use). w.leaf) e ∙ leaf.leaf ∙ sym (ap (λ (w : Use). w.leaf) f) ∙ ap (λ (h : ℕ). m / 1 % 2 ^ h) (sym heights) in
    let all : n / 1 ≡ m / 1 = same-parts (2 ^ secret.height) (n / 1) (m / 1) (pow_pos secret.height) trees leaves in
    inr (sym (div-one n) ∙ all ∙ div-one m, sym (ap (λ (w : Use). w.signed) e), sym (ap (λ (w : Use). w.signed) f)))
    (λ none. absurd (let lt : none.0 < 0 = none.1 in omega arith))
    (cons-cases _ [] v has_v))
    (λ none. absurd (let lt : none.0 < 0 = none.1 in omega arith))
    (cons-cases _ [] u has)
agree level secret other (shape ∷ below) n m message text u v heights same has has_v leaf =
    let child = child_at secret shape below n in
    let child_v = child_at other shape below m in
    ⊎_elim
    (λ e. ⊎_elim
    (λ f.
    let trees : tree_at secret.height (shape ∷ below) n ≡ tree_at other.height (shape ∷ below) m =
    ap (λ (w : Use). w.tree) e ∙ leaf.tree ∙ sym (ap (λ (w : Use). w.tree) f) in
    let leaves : leaf_at secret.height (shape ∷ below) n ≡ leaf_at other.height (shape ∷ below) m =
    ap (λ (w : Use). w.leaf) e ∙ leaf.leaf ∙ sym (ap (λ (w : Use). w.leaf) f) in
    let children : child ≡ child_v =
    ap₂ (λ (s : TreeSecret) (q : ℕ). child_of s q shape.height shape.width) (same trees) leaves in
    inl (sym (ap (λ (w : Use). w.signed) e) ∙ ap public_of children ∙ ap (λ (w : Use). w.signed) f))
    (λ later.
    let least = level-least (level + 1) child_v below m text v later in
    let first = ap (λ (w : Use). w.level) e in
    absurd (omega (arith, leaf.level)))
    (cons-cases _ (uses_from (level + 1) child_v below m text) v has_v))
    (λ later. ⊎_elim
    (λ f.
    let least = level-least (level + 1) child below n message u later in
    let first = ap (λ (w : Use). w.level) f in
    absurd (omega (arith, leaf.level)))
    (λ later_v.
    agree (level + 1) child child_v below n m message text u v refl (same-child secret other shape below n m heights same) later later_v leaf)
    (cons-cases _ (uses_from (level + 1) child_v below m text) v has_v))
    (cons-cases _ (uses_from (level + 1) child below n message) u has)

-- of sound releases those with one leaf number are one
one-release : (releases : List Release) (a b : Release) → AreSound releases → Contains releases a → Contains releases b
    → a.leaf ≡ b.leaf → a ≡ b
one-release releases a b sound (k, k_in, k_is) (j, j_in, j_is) same =
    let at_k : get_or releases k b ≡ a = get_or_default releases k b a k_in ∙ k_is in
    let at_j : get_or releases j a ≡ b = get_or_default releases j a b j_in ∙ j_is in
    ⊎_elim
    (λ lt. absurd (sound k j a lt j_in (ap (λ (r : Release). r.leaf) k_is ∙ same ∙ sym (ap (λ (r : Release). r.leaf) at_j))))
    (λ le. ⊎_elim
    (λ gt. absurd (sound j k b gt k_in (ap (λ (r : Release). r.leaf) j_is ∙ sym same ∙ sym (ap (λ (r : Release). r.leaf) at_k))))
    (λ ge. let one : k ≡ j = omega arith in sym at_k ∙ ap (λ (i : ℕ). get_or releases i b) one ∙ j_is)
    (cases_lt j k))
    (cases_lt k j)

pub signed-once : (key : HssKey) (releases : List Release) (u other : Use) → AreSound releases
    → Contains (used key releases) u → Contains (used key releases) other → IsSameLeaf u other
    → u.signed ≡ other.signed
signed-once key releases u other sound has has_other leaf =
    let uses = λ (r : Release). uses_from 0 key.top key.below r.leaf r.message in
    let (a, a_in, a_uses) = Contains-flat_map uses releases u has in
    let (b, b_in, b_uses) = Contains-flat_map uses releases other has_other in
    ⊎_elim
    (λ same. same)
    (λ last.
    let one = one-release releases a b sound a_in b_in last.0 in
    last.1 ∙ ap (λ (r : Release). r.message) one ∙ sym last.2)
    (agree 0 key.top key.top key.below a.leaf b.leaf a.message b.message u other refl (λ _. refl) a_uses b_uses leaf)

-- ---- which trees there are

-- the heights of levels with one more above them
heights-more : (above : List Shape) (shape : Shape) → heights_of (above ++ shape ∷ []) ≡ heights_of above + shape.height
heights-more [] shape = omega arith
heights-more (top ∷ above) shape = let rest = heights-more above shape in omega arith

-- leaf numbers below the count go through as many trees as the levels above have leaves
tree-below : (above below : List Shape) (height n : ℕ) → n < 2 ^ (heights_of above + (height + heights_of below))
    → tree_at height below n < 2 ^ heights_of above
tree-below above below height n lt =
    let all : 2 ^ (heights_of above + (height + heights_of below)) ≡ 2 ^ heights_of above * 2 ^ (height + heights_of below) =
    pow-add 2 (heights_of above) (height + heights_of below) in
    let fits : n < 2 ^ heights_of above * 2 ^ (height + heights_of below) = subst (λ (m : ℕ). n < m) all lt in
    subst (λ (m : ℕ). m < 2 ^ heights_of above) (sym (tree_at-is height below n))
    (div_below n (2 ^ (height + heights_of below)) (2 ^ heights_of above) (pow_pos (height + heights_of below)) fits)

-- the levels above one are those before it
levels-above : (above rest : List Shape) (level : ℕ) → level ≡ length above → take level (above ++ rest) ≡ above
levels-above above rest level is = ap (λ (k : ℕ). take k (above ++ rest)) is ∙ take-append_seam above rest

own-use : (above rest below : List Shape) (height n : ℕ) (u : Use) → n < 2 ^ (heights_of above + (height + heights_of below))
    → u.level ≡ length above → u.tree ≡ tree_at height below n → u.tree < 2 ^ heights_of (take u.level (above ++ rest))
own-use above rest below height n u lt level tree =
    let fits = tree-below above below height n lt in
    let same : heights_of above ≡ heights_of (take u.level (above ++ rest)) = ap heights_of (sym (levels-above above rest u.level level)) in
    subst (λ (h : ℕ). u.tree < 2 ^ h) same (subst (λ (m : ℕ). m < 2 ^ heights_of above) (sym tree) fits)

-- of a tree below these levels
uses-within : (above : List Shape) (secret : TreeSecret) (below : List Shape) (n : ℕ) (message : List ℕ) (u : Use)
    → n < 2 ^ (heights_of above + (secret.height + heights_of below))
    → Contains (uses_from (length above) secret below n message) u
    → u.tree < 2 ^ heights_of (take u.level (above ++ record { height = secret.height; width = secret.width } ∷ below))
unfolding uses_from
uses-within above secret [] n message u lt has =
    ⊎_elim
    (λ here. own-use above _ [] secret.height n u lt (sym (ap (λ (w : Use). w.level) here)) (sym (ap (λ (w : Use). w.tree) here)))
    (λ none. absurd (let lt : none.0 < 0 = none.1 in omega arith))
    (cons-cases _ [] u has)
uses-within above secret (shape ∷ below) n message u lt has =
    let own : Shape = record { height = secret.height; width = secret.width } in
    let child = child_at secret shape below n in
    ⊎_elim
    (λ here. own-use above _ (shape ∷ below) secret.height n u lt (sym (ap (λ (w : Use). w.level) here)) (sym (ap (λ (w : Use). w.tree) here)))
    (λ later.
    let more : length (above ++ own ∷ []) ≡ length above + 1 = length_push above own in
    let heights : heights_of (above ++ own ∷ []) ≡ heights_of above + own.height = heights-more above own in
    let same : heights_of above + (secret.height + heights_of (shape ∷ below)) ≡ heights_of (above ++ own ∷ []) + (child.height + heights_of below) =
    omega (arith, heights) in
    let fits = subst (λ (h : ℕ). n < 2 ^ h) same lt in
    let there = subst (λ (k : ℕ). Contains (uses_from k child below n message) u) (sym more) later in
    let within = uses-within (above ++ own ∷ []) child below n message u fits there in
    subst (λ (shapes : List Shape). u.tree < 2 ^ heights_of (take u.level shapes)) (append_assoc above (own ∷ []) (shape ∷ below)) within)
    (cons-cases _ (uses_from (length above + 1) child below n message) u has)

pub tree-within : (key : HssKey) (releases : List Release) (u : Use) → AreWithin key releases → Contains (used key releases) u
    → u.tree < tree_count key u.level
tree-within key releases u within has =
    let uses = λ (r : Release). uses_from 0 key.top key.below r.leaf r.message in
    let (r, inside, uses_it) = Contains-flat_map uses releases u has in
    let lt = All-contains (λ (release : Release). release.leaf < leaf_count key) releases r within inside in
    let none_above = sym (zero-add (key.top.height + heights_of key.below)) in
    uses-within [] key.top key.below r.leaf r.message u (subst (λ (h : ℕ). r.leaf < 2 ^ h) none_above lt) uses_it
