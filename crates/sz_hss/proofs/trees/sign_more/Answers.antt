use Rattle.std.proofs.Common.{◌≡◌, ℕ, ◌+◌, ◌-◌, ◌≤◌, length, take, drop, vec_len, slice_index_or, sym, ap, ◌∙◌, subst, arith, rules, length-take-le}
use Rattle.std.proofs.lemmas.List.{length-map}
use Rattle.std.proofs.lemmas.Result.{on_ok_weaker}
use Rattle.sz_hss.specs.Leaf.{lowest_at}
use Rattle.sz_hss.specs.Signature.{AreSignatures, front_of}
use Rattle.sz_hss.specs.View.{shape_of}
use Rattle.sz_hss.proofs.Runs.{AreSignatures-run}
use Rattle.sz_hss.proofs.trees.sign_more.Goals as goal

pub returns-clause-so_far : goal.returns-clause-so_far
returns-clause-so_far g c =
    let key = c.args.key.now in
    let first = c.args.first in
    let done = c.len-done.result in
    let run = c.run_length-run.result in
    let messages = c.args.messages.now in
    let old = c.args.signatures.now in
    let new = c.keep.new.signatures in
    let below : length c.below.result.now ≡ length key.below = sym (length-map c.below.result.now shape_of) ∙ ap length c.below.ensures.shapes in
    let tree = c.in_ok-front.ensures.lowest in
    let lowest = c.index-lowest.result.now in
    let lowest_is : lowest ≡ lowest_at key.top key.below (first + done) =
    c.index-lowest.ensures ∙ ap (λ (i : ℕ). slice_index_or c.prepare.new.trees.items i lowest) below ∙ tree.is lowest in
    let front_is : c.as_slice.result.now ≡ front_of key (first + done) = c.as_slice.ensures.value ∙ c.in_ok-front.ensures.front in
    let fits : done + run ≤ length messages = omega (arith, c.run_length-run.ensures.most, c.len-done.ensures, c.requires.left) in
    let same : done + run - done ≡ run = omega arith in
    let now_is : take (done + run - done) (drop done messages) ≡ take run (drop done messages) =
    ap (λ (k : ℕ). take k (drop done messages)) same in
    let count : length c.in_ok-all.all.items ≡ length (take (done + run - done) (drop done messages)) = search rules in
    let before : AreSignatures key first (take done messages) old.items =
    subst (λ (n : ℕ). AreSignatures key first (take n messages) old.items) (sym c.len-done.ensures) c.requires.so_far in
    let len : vec_len new ≡ length new.items = search rules in
    on_ok_weaker c.keep.result (λ kept.
    let all = AreSignatures-run key first done run messages (take (done + run - done) (drop done messages)) old.items new.items kept.0
    c.in_ok-all.all.items c.as_slice.result.now lowest fits now_is front_is lowest_is c.run_length-run.ensures.within
    c.in_ok-all.ensures.each count kept.1 kept.2 before in
    let long : done + run ≡ vec_len new = sym (length-take-le (done + run) messages fits) ∙ sym all.count ∙ sym len in
    subst (λ (n : ℕ). AreSignatures key first (take n messages) new.items) long all) c.keep.ensures
