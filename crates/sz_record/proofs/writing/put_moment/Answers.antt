use Rattle.std.proofs.Common.{ap, [], ◌∷◌, ◌++◌, ◌∙◌, rules}
use Rattle.std.specs.Prelude.{FitsSigned}
use Rattle.std.specs.Int.{w64}
use Rattle.sz_record.specs.Spelling.{moment_bytes, nonce_bytes, optional_bytes, time_bytes}
use Rattle.sz_record.proofs.Appending.{adds, then_adds, then_appended, then_last}
use Rattle.sz_record.proofs.Numbers.{time_same}
use Rattle.sz_record.proofs.writing.put_moment.Goals as goal

pub returns-in-None : goal.returns-in-None
unfolding moment_bytes nonce_bytes optional_bytes
returns-in-None c =
    let fits : FitsSigned w64 c.args.moment.now.time.0 = search rules in
    let time = c.to_be_bytes.ensures ∙ time_same c.args.moment.now.time.0 fits in
    rw c.in-None.is
    (record {
      ok = then_appended c.push.result _ _
          (adds c.args.out.now (time_bytes c.args.moment.now.time.0) _
          (c.in_ok-append.ensures.ok ∙ ap (λ s. c.args.out.now ++ s) time))
          (then_adds c.push.result c.append.new.self (0 ∷ []) _ c.push.ensures.ok);
    })

pub returns-in_ok-push-in-Some : goal.returns-in_ok-push-in-Some
unfolding moment_bytes nonce_bytes optional_bytes
returns-in_ok-push-in-Some c =
    let fits : FitsSigned w64 c.args.moment.now.time.0 = search rules in
    let time = c.to_be_bytes.ensures ∙ time_same c.args.moment.now.time.0 fits in
    rw c.in-Some.is
    (record {
      ok = then_appended c.append-in-Some.result _ _
          (adds c.args.out.now (time_bytes c.args.moment.now.time.0) _
          (c.in_ok-append.ensures.ok ∙ ap (λ s. c.args.out.now ++ s) time))
          (then_appended c.append-in-Some.result _ _ (adds c.append.new.self (1 ∷ []) _ c.in_ok-push-in-Some.ensures.ok)
          (then_last c.append-in-Some.result _ _ _
          (then_adds c.append-in-Some.result c.push-in-Some.new.self c.in-Some.nonce _ c.append-in-Some.ensures.ok)));
    })
