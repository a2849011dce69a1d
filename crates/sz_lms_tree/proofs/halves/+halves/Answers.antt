use Rattle.std.proofs.Common.{◌≡◌, ℕ, ◌+◌, ◌-◌, ◌/◌, arith, subst, sym}
use Rattle.std.proofs.lemmas.Result.{IfOk-at_ok}
use Rattle.sz_lms_tree.specs.Kept.{AreLeaves}
use Rattle.sz_lms_tree.specs.View.{tree_secret}
use Rattle.sz_lms_tree.proofs.Keeping.{AreLeaves-both}
use Rattle.sz_lms_tree.proofs.halves.+halves.Goals as goal

pub returns : goal.returns
returns g t c =
    let secret = tree_secret c.args.secret.now in
    let later = IfOk-at_ok (λ v. AreLeaves secret _ _ v.items) c.in_ok-values.was c.join-first.ensures.first in
    let earlier = IfOk-at_ok (λ v. AreLeaves secret _ _ v.items) c.in_ok-rest.was c.join-first.ensures.second in
    let both = AreLeaves-both secret c.args.from _ _ _ _ later earlier in
    let whole : c.args.count / 2 + (c.args.count - c.args.count / 2) ≡ c.args.count = omega arith in
    subst (λ (n : ℕ). AreLeaves secret c.args.from n c.append.new.self.items) whole
    (subst (AreLeaves secret c.args.from (c.args.count / 2 + (c.args.count - c.args.count / 2))) (sym c.in_ok-append.ensures.items) both)
