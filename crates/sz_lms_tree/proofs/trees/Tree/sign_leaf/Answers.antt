use Rattle.std.proofs.Common.{◌≡◌, ℕ, List, length, ap, subst, sym, ◌∙◌}
use Rattle.sz_lms.specs.Lms.{LmsOk}
use Rattle.sz_lms_tree.specs.Tree.{TreeSecret, IsAllowed, public_of, signature_of}
use Rattle.sz_lms_tree.specs.View.{tree_secret}
use Rattle.sz_lms_tree.proofs.Signed.{verifies}
use Rattle.sz_lms_tree.proofs.trees.Tree.sign_leaf.Goals as goal

pub returns-clause-verifies : goal.returns-clause-verifies
returns-clause-verifies c =
    let secret = c.args.self.now in
    let message = c.args.message.now in
    let seen : tree_secret c.self.inside.secret ≡ secret = c.self.view_is in
    let allowed = subst IsAllowed seen c.self.invariant.allowed in
    let id = subst (λ (s : TreeSecret). length s.id ≡ 16) seen c.self.invariant.id in
    let is : c.from_vec.result ≡ signature_of secret c.args.q message =
    c.from_vec.ensures ∙ c.in_ok-signature.ensures ∙ ap (λ (s : TreeSecret). signature_of s c.args.q message) seen in
    subst (λ (bytes : List ℕ). LmsOk (public_of secret) message bytes) (sym is) (verifies secret c.args.q message allowed id c.requires)
