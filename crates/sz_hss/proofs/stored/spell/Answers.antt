use Rattle.std.proofs.Common.{◌≡◌, ℕ, suc, List, [], ◌∷◌, ◌++◌, length, ap, sym, ◌∙◌, append_assoc}
use Rattle.std.specs.Int.{w64, to_be_bytes}
use Rattle.std.specs.List.{flat_map}
use Rattle.std.proofs.lemmas.List.{length-map}
use Rattle.sz_lms_tree.specs.Tree.{TreeSecret}
use Rattle.sz_hss.specs.Key.{Shape, levels_of}
use Rattle.sz_hss.specs.Stored.{shape_bytes, spelled}
use Rattle.sz_hss.specs.View.{shape_of, shapes_of}
use Rattle.sz_hss.proofs.stored.spell.Goals as goal

regroup : (head shapes seed id next end : List ℕ) → ((((head ++ shapes) ++ seed) ++ id) ++ next) ++ end ≡ head ++ (shapes ++ (seed ++ (id ++ (next ++ end))))
regroup head shapes seed id next end = simp append_assoc

pub returns : goal.returns
unfolding spelled
returns c =
    let key = c.args.key.now in
    let levels = c.levels-levels.result.now in
    let shapes : shapes_of levels ≡ levels_of key = c.levels-levels.ensures.shapes in
    let count : length levels ≡ suc (length key.below) = sym (length-map levels shape_of) ∙ ap length shapes in
    let seed : c.top-top.result.seed ≡ key.top.seed = ap (λ (t : TreeSecret). t.seed) c.top-top.ensures.secret in
    let id : c.top-top.result.id ≡ key.top.id = ap (λ (t : TreeSecret). t.id) c.top-top.ensures.secret in
    let next = to_be_bytes w64 c.args.next in
    let end = to_be_bytes w64 c.args.end in
    let head : c.append.new.out.items ≡ 1 ∷ suc (length key.below) ∷ [] =
    c.append.ensures.items ∙ ap (λ (xs : List ℕ). xs ++ 1 ∷ length levels ∷ []) c.new-out.ensures ∙ ap (λ (n : ℕ). 1 ∷ n ∷ []) count in
    let with_shapes : c.append_shapes.new.out.items ≡ (1 ∷ suc (length key.below) ∷ []) ++ flat_map shape_bytes (levels_of key) =
    c.append_shapes.ensures.items ∙ ap (λ (xs : List ℕ). xs ++ flat_map shape_bytes (shapes_of levels)) head
    ∙ ap (λ (xs : List Shape). (1 ∷ suc (length key.below) ∷ []) ++ flat_map shape_bytes xs) shapes in
    let front = (1 ∷ suc (length key.below) ∷ []) ++ flat_map shape_bytes (levels_of key) in
    let with_seed : c.append-2.new.out.items ≡ front ++ key.top.seed =
    c.append-2.ensures.items ∙ ap (λ (xs : List ℕ). xs ++ c.top-top.result.seed) with_shapes ∙ ap (λ (xs : List ℕ). front ++ xs) seed in
    let with_id : c.append-3.new.out.items ≡ (front ++ key.top.seed) ++ key.top.id =
    c.append-3.ensures.items ∙ ap (λ (xs : List ℕ). xs ++ c.top-top.result.id) with_seed ∙ ap (λ (xs : List ℕ). (front ++ key.top.seed) ++ xs) id in
    let with_next : c.append-4.new.out.items ≡ ((front ++ key.top.seed) ++ key.top.id) ++ next =
    c.append-4.ensures.items ∙ ap (λ (xs : List ℕ). xs ++ c.to_be_bytes.result) with_id
    ∙ ap (λ (xs : List ℕ). ((front ++ key.top.seed) ++ key.top.id) ++ xs) c.to_be_bytes.ensures in
    let whole : c.append-5.new.out.items ≡ (((front ++ key.top.seed) ++ key.top.id) ++ next) ++ end =
    c.append-5.ensures.items ∙ ap (λ (xs : List ℕ). xs ++ c.to_be_bytes-2.result) with_next
    ∙ ap (λ (xs : List ℕ). (((front ++ key.top.seed) ++ key.top.id) ++ next) ++ xs) c.to_be_bytes-2.ensures in
    whole ∙ regroup (1 ∷ suc (length key.below) ∷ []) (flat_map shape_bytes (levels_of key)) key.top.seed key.top.id next end
