use Rattle.std.proofs.Common.{ℕ, ◌+◌, ◌%◌, ◌<◌, ◌≤◌, List, sym, subst, arith, pow_mono, pow_pos}
use Rattle.std.proofs.lemmas.Nat.{mod_below}
use Rattle.sz_hss.specs.Key.{HssKey, IsKey, levels_of}
use Rattle.sz_hss.specs.Leaf.{heights_of, leaf_count}
use Rattle.sz_hss.specs.Signature.{AreSignatures}
use Rattle.sz_hss.proofs.Walk.{heights-small}
use Rattle.sz_hss.proofs.Wrapped.{AreSignatures-wrapped}
use Rattle.sz_hss.proofs.trees.Trees.sign_batch.Goals as goal

leaf_count-small : (key : HssKey) → IsKey key → leaf_count key ≤ 35184372088832
leaf_count-small key is =
    let small = heights-small (levels_of key) is.levels.allowed in
    let few = is.levels.few in
    let most : key.top.height + heights_of key.below ≤ 45 = omega arith in
    pow_mono most

wrapped-small : (key : HssKey) (first : ℕ) → IsKey key → first % leaf_count key < 35184372088832
wrapped-small key first is =
    let small = leaf_count-small key is in
    let below = mod_below first (leaf_count key) (pow_pos (key.top.height + heights_of key.below)) in
    omega (arith, small, below)

pub sign_all-requires-clause-room : goal.sign_all-requires-clause-room
sign_all-requires-clause-room g c κs within =
    let key = c.self.inside.key in
    let small = subst (λ (n : ℕ). c.args.first % n < 35184372088832) (sym c.leaf_count.ensures.count)
    (wrapped-small key c.args.first c.leaf_count.ensures.is_key) in
    omega (arith, small)

pub returns-clause-exact : goal.returns-clause-exact
returns-clause-exact g c =
    let key = c.self.inside.key in
    let all = c.in_ok-signatures.ensures in
    let counted = subst (λ (n : ℕ). AreSignatures key (c.args.first % n) c.as_slice-messages.result.now c.in_ok-signatures.signatures.items)
    c.leaf_count.ensures.count all in
    let whole = AreSignatures-wrapped key c.args.first c.as_slice-messages.result.now c.in_ok-signatures.signatures.items counted in
    let of_messages = subst (λ (messages : List (List ℕ)). AreSignatures key c.args.first messages c.in_ok-signatures.signatures.items)
    c.as_slice-messages.ensures whole in
    let of_result = subst (λ (signatures : List (List ℕ)). AreSignatures key c.args.first c.args.messages.now signatures)
    (sym c.from_vec.ensures) of_messages in
    subst (λ (k : HssKey). AreSignatures k c.args.first c.args.messages.now c.from_vec.result) c.self.view_is of_result
