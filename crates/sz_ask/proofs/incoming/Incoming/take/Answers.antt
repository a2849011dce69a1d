use Rattle.std.proofs.Common.{◌≡◌, ◌-◌, ◌<◌, ℕ, false, List, ◌++◌, length, take, drop, sym, ap, ◌∙◌, subst, arith, append_assoc, length-drop}
use Rattle.std.proofs.Math.Seq.{take-add}
use Rattle.std.proofs.lemmas.List.{take-append-drop, take_rest}
use Rattle.std.proofs.lemmas.Result.{err_from_is_err_and}
use Rattle.sz_http.specs.declared.side.Side.TheVariants as side
use Rattle.sz_ask.specs.Coming.{HasCome, IsComing}
use Rattle.sz_ask.specs.Limits.{most_reply_bytes}
use Rattle.sz_ask.specs.declared.incoming.Incoming.{Incoming}
use Rattle.sz_ask.proofs.Comings.{came_whole, moved, tells_http}
use Rattle.sz_ask.proofs.incoming.Incoming.take.Goals as goal

pub returns-in_err-fed-clause-refused : goal.returns-in_err-fed-clause-refused
returns-in_err-fed-clause-refused c = λ bytes given.
    let at = c.loop-at.at in
    let piece = c.args.piece.now in
    let rest = take (length piece - at) (drop at piece) in
    let refuses = c.in_err-fed.ensures.answers side.Reply most_reply_bytes (bytes ++ take at piece) c.loop-at.self.body
    (c.loop-at.invariant.coming bytes given) in
    let whole : (bytes ++ take at piece) ++ rest ≡ bytes ++ piece =
    append_assoc bytes (take at piece) rest
    ∙ ap (λ (t : List ℕ). bytes ++ t) (ap (λ (t : List ℕ). take at piece ++ t) (take_rest piece at) ∙ take-append-drop at piece) in
    let p = err_from_is_err_and c.from_residual.result c.from_residual.ensures.1 in
    let tells = tells_http ((bytes ++ take at piece) ++ rest) false c.in_err-fed.field-0.0 refuses.verdict in
    rw (p.1, p.2) (rw whole at tells)

pub returns-then-fed-clause-ok : goal.returns-then-fed-clause-ok
returns-then-fed-clause-ok c = λ bytes given.
    let at = c.loop-at.at in
    let piece = c.args.piece.now in
    let front = bytes ++ take at piece in
    let rest = take (length piece - at) (drop at piece) in
    let fed = c.in_ok-fed.fed in
    let new : Incoming = record { reading = c.feed.new.self; body = c.append.new.self } in
    let took = c.in_ok-fed.ensures.answers side.Reply most_reply_bytes front c.loop-at.self.body
    (c.loop-at.invariant.coming bytes given) in
    let whole : (front ++ take fed.used rest) ++ drop fed.used rest ≡ bytes ++ piece =
    append_assoc front (take fed.used rest) (drop fed.used rest)
    ∙ ap (λ (t : List ℕ). front ++ t) (take-append-drop fed.used rest ∙ take_rest piece at)
    ∙ append_assoc bytes (take at piece) (drop at piece)
    ∙ ap (λ (t : List ℕ). bytes ++ t) (take-append-drop at piece) in
    subst (λ (t : List ℕ). HasCome new t false) whole
    (came_whole c.loop-at.self new front rest (drop fed.used rest) fed took c.if-fed.true c.in_ok-append.ensures.ok)

pub overflow_add-at : goal.overflow_add-at
overflow_add-at c =
    let at = c.loop-at.at in
    let piece = c.args.piece.now in
    let rest = take (length piece - at) (drop at piece) in
    let cut : length rest ≡ length (drop at piece) = ap length (take_rest piece at) in
    let took = c.in_ok-fed.ensures.answers side.Reply most_reply_bytes (c.requires.0 ++ take at piece) c.loop-at.self.body
    (c.loop-at.invariant.coming c.requires.0 c.requires.1) in
    omega (arith, took.within, length-drop at piece)

pub loop-at-smaller : goal.loop-at-smaller
loop-at-smaller c =
    let at = c.loop-at.at in
    let piece = c.args.piece.now in
    let rest = take (length piece - at) (drop at piece) in
    let cut : length rest ≡ length (drop at piece) = ap length (take_rest piece at) in
    let took = c.in_ok-fed.ensures.answers side.Reply most_reply_bytes (c.requires.0 ++ take at piece) c.loop-at.self.body
    (c.loop-at.invariant.coming c.requires.0 c.requires.1) in
    let some : 0 < length rest = omega (arith, length-drop at piece) in
    let on = moved c.in_ok-fed.fed.used (length rest) c.in_ok-fed.fed.done took.moves some c.if-fed.false in
    omega (arith, on, took.within, length-drop at piece)

pub loop-at-preserved : goal.loop-at-preserved
loop-at-preserved c =
    let at = c.loop-at.at in
    let piece = c.args.piece.now in
    let rest = take (length piece - at) (drop at piece) in
    let is : rest ≡ drop at piece = take_rest piece at in
    let cut : length rest ≡ length (drop at piece) = ap length is in
    let fed = c.in_ok-fed.fed in
    let took = λ (bytes : List ℕ) (given : IsComing c.args.self.now bytes).
    c.in_ok-fed.ensures.answers side.Reply most_reply_bytes (bytes ++ take at piece) c.loop-at.self.body
    (c.loop-at.invariant.coming bytes given) in
    record {
      within = omega (arith, (took c.requires.0 c.requires.1).within, length-drop at piece);
      coming = λ bytes given.
          subst (λ (t : List ℕ). IsComing (record { reading = c.feed.new.self; body = c.append.new.self }) t)
          (ap (λ (t : List ℕ). (bytes ++ take at piece) ++ take fed.used t) is
          ∙ append_assoc bytes (take at piece) (take fed.used (drop at piece))
          ∙ ap (λ (t : List ℕ). bytes ++ t) (sym (take-add at fed.used piece)))
          (rw c.in_ok-append.ensures.ok (took bytes given).taken);
    }
