use Rattle.std.proofs.Common.{◌≡◌, ℕ, List, ◌++◌, length, slice_index_or, ap, ap₂, sym, ◌∙◌, subst}
use Rattle.std.proofs.lemmas.List.{length-map}
use Rattle.std.proofs.lemmas.Result.{IfOk-weaker}
use Rattle.sz_lms.specs.Hss.{HssOk}
use Rattle.sz_lms_tree.specs.Tree.{TreeSecret}
use Rattle.sz_hss.specs.Built.{IsTreeAt}
use Rattle.sz_hss.specs.Key.{HssKey, IsKey}
use Rattle.sz_hss.specs.Leaf.{lowest_at}
use Rattle.sz_hss.specs.Signature.{front_of, hss_public_of, hss_signature_of, last_of}
use Rattle.sz_hss.specs.View.{shape_of, shapes_of}
use Rattle.sz_hss.specs.declared.level.Level.{Level}
use Rattle.sz_hss.proofs.Verifies.{HssOk-signed}
use Rattle.sz_hss.proofs.trees.Trees.sign.Goals as goal

-- the front and the lowest tree's signature are the key's signature
whole : (inside key : HssKey) (levels : List Level) (trees : List TreeSecret) (front front_items message : List ℕ) (lowest : TreeSecret) (n : ℕ)
    → inside ≡ key → shapes_of levels ≡ inside.below → front ≡ front_items → front_items ≡ front_of inside n
    → IsTreeAt trees (length inside.below) (lowest_at inside.top inside.below n)
    → lowest ≡ slice_index_or trees (length levels) lowest
    → front ++ last_of lowest n message ≡ hss_signature_of key n message
unfolding hss_signature_of
whole inside key levels trees front front_items message lowest n same shapes front_is items_are tree lowest_is =
    let count : length levels ≡ length inside.below = sym (length-map levels shape_of) ∙ ap length shapes in
    let last : lowest ≡ lowest_at inside.top inside.below n =
    lowest_is ∙ ap (λ (i : ℕ). slice_index_or trees i lowest) count ∙ tree.is lowest in
    ap₂ (λ (f : List ℕ) (t : TreeSecret). f ++ last_of t n message) (front_is ∙ items_are) last
    ∙ ap (λ (k : HssKey). front_of k n ++ last_of (lowest_at k.top k.below n) n message) same

pub returns-clause-exact : goal.returns-clause-exact
returns-clause-exact g c =
    let is = whole c.self.inside.key c.args.self.now c.below.result.now c.prepare.new.trees.items c.as_slice.result.now c.in_ok-front.front.items
    c.args.message.now c.index-lowest.result.now c.args.n c.self.view_is c.below.ensures.shapes c.as_slice.ensures.value
    c.in_ok-front.ensures.front c.in_ok-front.ensures.lowest c.index-lowest.ensures in
    IfOk-weaker c.sign_last.result _ _ (λ s e. e ∙ is) c.sign_last.ensures

pub returns-clause-verifies : goal.returns-clause-verifies
returns-clause-verifies g c =
    let is = whole c.self.inside.key c.args.self.now c.below.result.now c.prepare.new.trees.items c.as_slice.result.now c.in_ok-front.front.items
    c.args.message.now c.index-lowest.result.now c.args.n c.self.view_is c.below.ensures.shapes c.as_slice.ensures.value
    c.in_ok-front.ensures.front c.in_ok-front.ensures.lowest c.index-lowest.ensures in
    let ok = HssOk-signed c.args.self.now c.args.n c.args.message.now (subst IsKey c.self.view_is c.below.ensures.is_key) in
    IfOk-weaker c.sign_last.result _ _
    (λ s e. subst (λ (bytes : List ℕ). HssOk (hss_public_of c.args.self.now) c.args.message.now bytes) (sym (e ∙ is)) ok) c.sign_last.ensures
