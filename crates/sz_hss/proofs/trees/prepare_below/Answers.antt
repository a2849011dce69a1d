use Rattle.std.proofs.Common.{◌≡◌, ℕ, ◌+◌, ◌/◌, ◌%◌, ◌^◌, ◌<◌, List, [], ◌∷◌, ◌++◌, length, drop, get_or, ap, sym, ◌∙◌, subst, arith, append-nil, IsTrue}
use Rattle.std.specs.Int.{w32, to_be_bytes}
use Rattle.std.specs.List.{list_all}
use Rattle.std.proofs.lemmas.Bool.{and_parts}
use Rattle.std.proofs.lemmas.List.{drop_all, length-map}
use Rattle.sz_lms_tree.specs.Tree.{TreeSecret, IsAllowed, child_of, public_of, signature_of}
use Rattle.sz_lms_tree.specs.View.{tree_secret}
use Rattle.sz_hss.specs.Built.{IsTreeAt}
use Rattle.sz_hss.specs.Key.{HssKey, IsKey, Shape, is_shape, top_shape}
use Rattle.sz_hss.specs.Leaf.{child_at, heights_of, leaf_at, lowest_at}
use Rattle.sz_hss.specs.Signature.{front_of, pairs_of}
use Rattle.sz_hss.specs.View.{shape_of, shapes_of}
use Rattle.sz_hss.specs.declared.level.Level.{Level}
use Rattle.sz_hss.proofs.Built.{IsTreeAt-before}
use Rattle.sz_hss.proofs.Verifies.{IsAllowed-child}
use Rattle.sz_hss.proofs.Walk.{allowed-at, heights_of-from, lowest_at-end, lowest_at-step, pairs_of-end, pairs_of-step, shapes-from}
use Rattle.sz_hss.proofs.trees.prepare_below.Goals as goal

below-allowed : (key : HssKey) (levels : List Level) → IsKey key → shapes_of levels ≡ key.below → IsTrue (list_all is_shape (shapes_of levels))
below-allowed key levels is same =
    ap (list_all is_shape) same ∙ (and_parts (is_shape (top_shape key)) (list_all is_shape key.below) is.levels.allowed).1

-- what n uses on the next level
child-is : (levels : List Level) (secret next : TreeSecret) (i n q heights : ℕ) → i < length levels
    → heights ≡ heights_of (drop i (shapes_of levels)) → q ≡ n / 2 ^ heights % 2 ^ secret.height
    → next ≡ child_of secret q (get_or levels i (record { height = 0; width = 0 })).height (get_or levels i (record { height = 0; width = 0 })).width
    → (q ≡ leaf_at secret.height (shape_of (get_or levels i (record { height = 0; width = 0 })) ∷ drop (i + 1) (shapes_of levels)) n)
    × (next ≡ child_at secret (shape_of (get_or levels i (record { height = 0; width = 0 }))) (drop (i + 1) (shapes_of levels)) n)
child-is levels secret next i n q heights lt heights_are q_is next_is =
    let level : Level = get_or levels i (record { height = 0; width = 0 }) in
    let all = heights_are ∙ ap heights_of (shapes-from levels i (record { height = 0; width = 0 }) lt) in
    let leaf = q_is ∙ ap (λ (h : ℕ). n / 2 ^ h % 2 ^ secret.height) all in
    (leaf, next_is ∙ ap (λ (k : ℕ). child_of secret k level.height level.width) leaf)

-- the front with one more pair
front-more : (levels : List Level) (out more : List ℕ) (secret next t u : TreeSecret) (i n q : ℕ) (front : List ℕ) → i < length levels
    → q ≡ leaf_at secret.height (shape_of (get_or levels i (record { height = 0; width = 0 })) ∷ drop (i + 1) (shapes_of levels)) n
    → next ≡ child_at secret (shape_of (get_or levels i (record { height = 0; width = 0 }))) (drop (i + 1) (shapes_of levels)) n
    → t ≡ secret → u ≡ next → more ≡ out ++ (signature_of t q (public_of u) ++ public_of u)
    → out ++ pairs_of secret (drop i (shapes_of levels)) n ≡ front
    → more ++ pairs_of next (drop (i + 1) (shapes_of levels)) n ≡ front
front-more levels out more secret next t u i n q front lt leaf child t_is u_is more_is before =
    let shape = shape_of (get_or levels i (record { height = 0; width = 0 })) in
    let rest = drop (i + 1) (shapes_of levels) in
    let pair = λ (a b : TreeSecret) (k : ℕ). out ++ (signature_of a k (public_of b) ++ public_of b) in
    let down = child_at secret shape rest n in
    ap (λ (xs : List ℕ). xs ++ pairs_of next rest n) more_is
    ∙ ap (λ (a : TreeSecret). pair a u q ++ pairs_of next rest n) t_is
    ∙ ap (λ (b : TreeSecret). pair secret b q ++ pairs_of next rest n) u_is
    ∙ ap (λ (b : TreeSecret). pair secret b q ++ pairs_of b rest n) child
    ∙ ap (λ (k : ℕ). pair secret down k ++ pairs_of down rest n) leaf
    ∙ pairs_of-step out secret shape rest n
    ∙ ap (λ (below : List Shape). out ++ pairs_of secret below n) (sym (shapes-from levels i (record { height = 0; width = 0 }) lt))
    ∙ before

lowest-more : (levels : List Level) (secret next lowest : TreeSecret) (i n : ℕ) → i < length levels
    → next ≡ child_at secret (shape_of (get_or levels i (record { height = 0; width = 0 }))) (drop (i + 1) (shapes_of levels)) n
    → lowest_at secret (drop i (shapes_of levels)) n ≡ lowest → lowest_at next (drop (i + 1) (shapes_of levels)) n ≡ lowest
lowest-more levels secret next lowest i n lt child before =
    let shape = shape_of (get_or levels i (record { height = 0; width = 0 })) in
    let rest = drop (i + 1) (shapes_of levels) in
    ap (λ (t : TreeSecret). lowest_at t rest n) child
    ∙ lowest_at-step secret shape rest n
    ∙ ap (λ (below : List Shape). lowest_at secret below n) (sym (shapes-from levels i (record { height = 0; width = 0 }) lt))
    ∙ before

pub heights_of-heights-requires-clause-allowed : goal.heights_of-heights-requires-clause-allowed
heights_of-heights-requires-clause-allowed g c = below-allowed c.args.key.now c.below-below.result.now c.below-below.ensures.is_key c.below-below.ensures.shapes

pub loop-i-init : goal.loop-i-init
loop-i-init g c =
    let key = c.args.key.now in
    let shapes = c.below-below.ensures.shapes in
    let secret = c.top-secret.ensures.secret in
    let levels = c.below-below.result.now in
    let count : length levels ≡ length key.below = sym (length-map levels shape_of) ∙ ap length shapes in
    let out : c.extend_from_slice.new.self.items ≡ to_be_bytes w32 (length key.below) =
    c.in_ok-extend_from_slice.ensures.items ∙ ap (λ (xs : List ℕ). xs ++ c.to_be_bytes.result) c.new-out.ensures.items
    ∙ c.to_be_bytes.ensures ∙ ap (to_be_bytes w32) count in
    record {
      tree = subst (IsTreeAt c.args.trees.now.items 0) (sym secret) c.requires;
      allowed = subst IsAllowed (sym secret) c.top-secret.ensures.allowed;
      heights = c.heights_of-heights.ensures.sum;
      few = c.heights_of-heights.ensures.small;
      front = ap (λ (xs : List ℕ). xs ++ pairs_of (tree_secret c.top-secret.result) (shapes_of levels) c.args.n) out
          ∙ ap (λ (t : TreeSecret). to_be_bytes w32 (length key.below) ++ pairs_of t (shapes_of levels) c.args.n) secret
          ∙ ap (λ (below : List Shape). to_be_bytes w32 (length key.below) ++ pairs_of key.top below c.args.n) shapes;
      lowest = ap (λ (t : TreeSecret). lowest_at t (shapes_of levels) c.args.n) secret
          ∙ ap (λ (below : List Shape). lowest_at key.top below c.args.n) shapes;
    }

pub stand-requires-clause-allowed : goal.stand-requires-clause-allowed
stand-requires-clause-allowed g c κs lives =
    let levels = c.below-below.result.now in
    let secret = tree_secret c.loop-i.secret in
    let inv = c.loop-i.invariant in
    let is = child-is levels secret (tree_secret c.child-next.result) c.loop-i.i c.args.n c.leaf_at-q.result c.loop-i.heights
    c.loop-i-test.true inv.heights c.leaf_at-q.ensures.leaf c.child-next.ensures in
    let all = below-allowed c.args.key.now levels c.below-below.ensures.is_key c.below-below.ensures.shapes in
    subst IsAllowed (sym is.1) (IsAllowed-child secret _ _ c.args.n (allowed-at levels c.loop-i.i (record { height = 0; width = 0 }) c.loop-i-test.true all))

pub append_pair-requires : goal.append_pair-requires
append_pair-requires g c =
    let inv = c.loop-i.invariant in
    let tree = IsTreeAt-before c.loop-i.trees.items c.stand.new.trees.items (c.loop-i.i + 1) c.loop-i.i (tree_secret c.loop-i.secret)
    c.stand.ensures.before (omega (arith, inv.tree.there)) (omega arith) inv.tree in
    subst (λ (t : TreeSecret). c.leaf_at-q.result < 2 ^ t.height) (sym (c.index.ensures ∙ tree.is c.index.result.now)) c.leaf_at-q.ensures.exists

pub loop-i-preserved : goal.loop-i-preserved
loop-i-preserved g c =
    let levels = c.below-below.result.now in
    let secret = tree_secret c.loop-i.secret in
    let next = tree_secret c.child-next.result in
    let i = c.loop-i.i in
    let inv = c.loop-i.invariant in
    let old = c.loop-i.trees.items in
    let new = c.stand.new.trees.items in
    let lt = c.loop-i-test.true in
    let is = child-is levels secret next i c.args.n c.leaf_at-q.result c.loop-i.heights lt inv.heights c.leaf_at-q.ensures.leaf c.child-next.ensures in
    let tree = IsTreeAt-before old new (i + 1) i secret c.stand.ensures.before (omega (arith, inv.tree.there)) (omega arith) inv.tree in
    let there = c.in_ok-stand.ensures.there in
    let height = heights_of-from levels i (record { height = 0; width = 0 }) lt in
    let height_is = c.from-heights.ensures in
    let all = below-allowed c.args.key.now levels c.below-below.ensures.is_key c.below-below.ensures.shapes in
    record {
      tree = there;
      allowed = subst IsAllowed (sym is.1) (IsAllowed-child secret _ _ c.args.n (allowed-at levels i (record { height = 0; width = 0 }) lt all));
      heights = omega (arith, inv.heights);
      few = omega (arith, inv.few);
      front = front-more levels c.loop-i.out.items c.append_pair.new.out.items secret next c.index.result.now c.index-in-loop-i.result.now
          i c.args.n c.leaf_at-q.result (front_of c.args.key.now c.args.n) lt is.0 is.1
          (c.index.ensures ∙ tree.is c.index.result.now) (c.index-in-loop-i.ensures ∙ there.is c.index-in-loop-i.result.now)
          c.in_ok-append_pair.ensures inv.front;
      lowest = lowest-more levels secret next (lowest_at c.args.key.now.top c.args.key.now.below c.args.n) i c.args.n lt is.1 inv.lowest;
    }

pub returns-clause-front : goal.returns-clause-front
returns-clause-front g c =
    let inv = c.loop-i.invariant in
    let levels = c.below-below.result.now in
    let secret = tree_secret c.loop-i.secret in
    let long = length-map levels shape_of in
    let end : drop c.loop-i.i (shapes_of levels) ≡ [] = drop_all c.loop-i.i (shapes_of levels) (omega (arith, c.loop-i-test.false)) in
    sym (append-nil c.loop-i.out.items)
    ∙ ap (λ (xs : List ℕ). c.loop-i.out.items ++ xs) (sym (pairs_of-end secret c.args.n))
    ∙ ap (λ (below : List Shape). c.loop-i.out.items ++ pairs_of secret below c.args.n) (sym end)
    ∙ inv.front

pub returns-clause-lowest : goal.returns-clause-lowest
returns-clause-lowest g c =
    let inv = c.loop-i.invariant in
    let levels = c.below-below.result.now in
    let secret = tree_secret c.loop-i.secret in
    let long = length-map levels shape_of in
    let end : drop c.loop-i.i (shapes_of levels) ≡ [] = drop_all c.loop-i.i (shapes_of levels) (omega (arith, c.loop-i-test.false)) in
    let lowest = sym (lowest_at-end secret c.args.n) ∙ ap (λ (below : List Shape). lowest_at secret below c.args.n) (sym end) ∙ inv.lowest in
    let whole : length (shapes_of levels) ≡ length c.args.key.now.below = ap length c.below-below.ensures.shapes in
    let place : c.loop-i.i ≡ length c.args.key.now.below = omega (arith, c.loop-i-test.false, c.loop-i.auto.i-end) in
    subst (λ (n : ℕ). IsTreeAt c.loop-i.trees.items n (lowest_at c.args.key.now.top c.args.key.now.below c.args.n)) place
    (subst (IsTreeAt c.loop-i.trees.items c.loop-i.i) lowest inv.tree)
