use Rattle.std.proofs.Common.{◌≡◌, ◌<◌, Bool, true, false, ◌++◌, length, take, refl, ◌∙◌, subst, arith}
use Rattle.std.proofs.lemmas.Grind.{common_steps}
use Rattle.std.proofs.lemmas.Result.{err_from_is_err_and}
use Rattle.std.specs.Option.{option_map}
use Rattle.sz_io.specs.Net.{after_refused_receive}
use Rattle.sz_ask.specs.Coming.{Comes}
use Rattle.sz_exchange.proofs.Askings.{end_told, loses_told, may_told, more_told}
use Rattle.sz_ask.proofs.Runs.{ran_end, ran_refused, ran_whole}
use Rattle.sz_ask.proofs.asking.receive.Goals as goal

pub returns-in_default-clause-ran : goal.returns-in_default-clause-ran
returns-in_default-clause-ran g c = λ target request before asked.
    let coming = c.pieces.invariant.coming in
    let middle = g.N.Net.traffic c.pieces.net in
    let now = g.N.Net.traffic c.receive.new.self in
    let failed : now ≡ option_map after_refused_receive middle = grind (arith, common_steps) in
    loses_told target request coming.0 before middle now (coming.2 target request before asked) failed

pub returns-then-count-eq0-clause-ran : goal.returns-then-count-eq0-clause-ran
returns-then-count-eq0-clause-ran g c = λ target request before asked.
    let coming = c.pieces.invariant.coming in
    let middle = g.N.Net.traffic c.pieces.net in
    let now = g.N.Net.traffic c.receive.new.self in
    let some : 0 < length c.receive.new.into = grind (arith, common_steps) in
    ran_end target request coming.0 true c.end.new.self c.end.result before now
    (end_told target request coming.0 c.receive.new.into c.in-Ok.count before middle now c.if-count-eq0.true some
    (coming.2 target request before asked) c.in-Ok.ensures.ok)
    (c.end.ensures.ok coming.0 coming.1) (c.end.ensures.refused coming.0 coming.1)

pub returns-in_err-take-clause-ran : goal.returns-in_err-take-clause-ran
returns-in_err-take-clause-ran g c = λ target request before asked.
    let coming = c.pieces.invariant.coming in
    let middle = g.N.Net.traffic c.pieces.net in
    let now = g.N.Net.traffic c.receive.new.self in
    let piece = take c.in-Ok.count c.receive.new.into in
    let some : 0 < c.in-Ok.count = omega arith in
    let p = err_from_is_err_and c.from_residual.result c.from_residual.ensures.1 in
    let ran = ran_refused target request (coming.0 ++ piece) false c.in_err-take.field-0.0 before now
    (more_told target request coming.0 c.receive.new.into piece c.in-Ok.count before middle now some refl
    (coming.2 target request before asked) c.in-Ok.ensures.ok)
    (c.in_err-take.ensures.refused coming.0 coming.1) in
    rw (p.1, p.2) ran

pub returns-then-branch-clause-ran : goal.returns-then-branch-clause-ran
returns-then-branch-clause-ran g c = λ target request before asked.
    let coming = c.pieces.invariant.coming in
    let middle = g.N.Net.traffic c.pieces.net in
    let now = g.N.Net.traffic c.receive.new.self in
    let piece = take c.in-Ok.count c.receive.new.into in
    let some : 0 < c.in-Ok.count = omega arith in
    ran_whole target request (coming.0 ++ piece) false c.take.new.self before now
    (more_told target request coming.0 c.receive.new.into piece c.in-Ok.count before middle now some refl
    (coming.2 target request before asked) c.in-Ok.ensures.ok)
    (subst (λ (whole : Bool). Comes whole c.take.new.self (coming.0 ++ piece)) c.if-branch.true
    (c.in_ok-take.ensures.ok coming.0 coming.1))

pub pieces-preserved : goal.pieces-preserved
pieces-preserved g c =
    let coming = c.pieces.invariant.coming in
    let middle = g.N.Net.traffic c.pieces.net in
    let now = g.N.Net.traffic c.receive.new.self in
    let piece = take c.in-Ok.count c.receive.new.into in
    let some : 0 < c.in-Ok.count = omega arith in
    record {
      coming = (
        coming.0 ++ piece,
        subst (λ (whole : Bool). Comes whole c.take.new.self (coming.0 ++ piece)) c.if-branch.false
            (c.in_ok-take.ensures.ok coming.0 coming.1),
        λ target request before asked.
            more_told target request coming.0 c.receive.new.into piece c.in-Ok.count before middle now some refl
            (coming.2 target request before asked) c.in-Ok.ensures.ok,
      );
      faults = c.in-Ok.ensures.cause.stood refl ∙ c.pieces.invariant.faults;
    }

pub returns-clause-ran : goal.returns-clause-ran
returns-clause-ran g c = λ target request before asked.
    let coming = c.pieces.invariant.coming in
    may_told target request coming.0 before (g.N.Net.traffic c.pieces.net) (coming.2 target request before asked)
