use Rattle.std.proofs.Common.{ℕ, true, List, [], subst, append-nil}
use Rattle.sz_http.specs.declared.side.Side.TheVariants.{Reply}
use Rattle.sz_http.specs.Reading.{Takes}
use Rattle.sz_http.specs.Verdict.{Verdict, refused}
use Rattle.sz_image.specs.Reply.{IsRefused}
use Rattle.sz_image.proofs.Comings.{came_to_end}
use Rattle.sz_image.proofs.incoming.Incoming.end.Goals as goal

pub returns-in-Ok-judge-clause-ok : goal.returns-in-Ok-judge-clause-ok
returns-in-Ok-judge-clause-ok c first held bytes same coming =
    let whole = c.in-Ok.ensures.answers Reply first.space bytes coming.body coming.taken in
    came_to_end c.args.self.now c.judge.new.self c.args.reading.now c.ended.new.self first held bytes coming whole c.judge.ensures.hasher
    (c.in-Ok-judge.ensures.ok first.space bytes coming.body true whole.taken coming.headed)

pub returns-in-Err-judge-clause-refused : goal.returns-in-Err-judge-clause-refused
returns-in-Err-judge-clause-refused c first held hash bytes same coming =
    let whole = c.in-Ok.ensures.answers Reply first.space bytes coming.body coming.taken in
    subst (λ (s : ℕ). IsRefused s hash bytes true c.in-Err-judge.fault) same
    (subst (λ (t : List ℕ). IsRefused first.space hash t true c.in-Err-judge.fault) (append-nil bytes)
    (c.in-Err-judge.ensures.refused first.space hash bytes coming.body [] true true whole.taken))

pub returns-in-Err-clause-refused : goal.returns-in-Err-clause-refused
returns-in-Err-clause-refused c first held hash bytes same coming =
    let refuses = c.in-Err.ensures.answers Reply first.space bytes coming.body coming.taken in
    c.refusal.ensures hash bytes coming.body true (subst (λ (s : ℕ). Takes c.ended.new.self Reply s bytes true coming.body) same refuses.taken)
    (subst (λ (s : ℕ). Verdict Reply s bytes true (refused c.in-Err.fault)) same refuses.verdict)
