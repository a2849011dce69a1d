use Rattle.std.proofs.Common.{Bool, Ok, Err, ◌∙◌, subst}
use Rattle.std.proofs.lemmas.Result.{err_from_is_err_and}
use Rattle.std.specs.Option.{option_copied, option_map}
use Rattle.sz_io.specs.Net.{after_close}
use Rattle.sz_spec.specs.Cause.{HasCause}
use Rattle.sz_base.specs.declared.evidence.Evidence.{Evidence}
use Rattle.sz_rest.specs.Request.{request_text}
use Rattle.sz_ask.proofs.Runs.{blames_none, blames_same, nothing_added, ran_evidence, ran_moved, ran_reply_fault}
use Rattle.sz_ask.specs.Reply.{of_rest}
use Rattle.sz_ask.proofs.asking.ask.Goals as goal

pub returns-in_err-request-clause-ran : goal.returns-in_err-request-clause-ran
returns-in_err-request-clause-ran g c =
    let p = err_from_is_err_and c.from_residual.result c.from_residual.ensures.1 in
    rw (p.1, p.2) (nothing_added (g.N.Net.traffic c.args.net.now))

pub returns-in_err-incoming-clause-ran : goal.returns-in_err-incoming-clause-ran
returns-in_err-incoming-clause-ran g c =
    let p = err_from_is_err_and c.from_residual-in_err-incoming.result c.from_residual-in_err-incoming.ensures.1 in
    rw (p.1, p.2) (nothing_added (g.N.Net.traffic c.args.net.now))

pub returns-in_default-clause-ran : goal.returns-in_default-clause-ran
returns-in_default-clause-ran g c = nothing_added (g.N.Net.traffic c.args.net.now)

pub returns-in_err-heard-clause-ran : goal.returns-in_err-heard-clause-ran
returns-in_err-heard-clause-ran g c =
    let text = request_text c.args.target.now c.args.serial.now (option_copied c.args.nonce) in
    let p = err_from_is_err_and c.from_residual-in_err-heard.result c.from_residual-in_err-heard.ensures.1 in
    let ran = ran_moved c.args.target.now c.as_slice.result.now text (Err c.in_err-heard.field-0.0)
    (g.N.Net.traffic c.args.net.now) _ (g.N.Net.traffic c.close.new.self)
    (c.as_slice.ensures ∙ c.in_ok-request.ensures.written) c.close.ensures.closed c.in_err-heard.ensures.ran in
    rw (p.1, p.2) ran

pub returns-in_err-heard-clause-cause : goal.returns-in_err-heard-clause-cause
returns-in_err-heard-clause-cause g c =
    let p = err_from_is_err_and c.from_residual-in_err-heard.result c.from_residual-in_err-heard.ensures.1 in
    let cause = subst (λ (b : Bool). HasCause (g.N.Net.faults c.args.net.now) (g.N.Net.faults c.exchange-heard.new.net) b)
    (blames_same (Unit {0}) Evidence c.in_err-heard.field-0.0) c.in_err-heard.ensures.cause in
    rw (p.1, p.2, c.close.ensures.no_fault) cause

pub returns-in_err-read_reply-clause-ran : goal.returns-in_err-read_reply-clause-ran
returns-in_err-read_reply-clause-ran g c =
    let text = request_text c.args.target.now c.args.serial.now (option_copied c.args.nonce) in
    let before = g.N.Net.traffic c.args.net.now in
    let heard = option_map after_close (g.N.Net.traffic c.exchange-heard.new.net) in
    let cause = c.in_err-read_reply.field-0.0 in
    let p = err_from_is_err_and c.from_residual-in_err-read_reply.result c.from_residual-in_err-read_reply.ensures.1 in
    let told = ran_reply_fault c.args.target.now c.as_slice.result.now c.exchange-heard.new.incoming c.reply-status.result.0
    c.reply-status.result.1.now cause before heard c.in_ok-heard.ensures.ran c.reply-status.ensures
    c.in_err-read_reply.ensures.refused in
    let ran = ran_moved c.args.target.now c.as_slice.result.now text (Err (of_rest cause)) before heard
    (g.N.Net.traffic c.close.new.self) (c.as_slice.ensures ∙ c.in_ok-request.ensures.written) c.close.ensures.closed told in
    rw (p.1, p.2) ran

pub returns-in_err-read_reply-clause-cause : goal.returns-in_err-read_reply-clause-cause
returns-in_err-read_reply-clause-cause g c =
    let p = err_from_is_err_and c.from_residual-in_err-read_reply.result c.from_residual-in_err-read_reply.ensures.1 in
    rw (p.1, p.2, blames_none c.in_err-read_reply.field-0.0, c.close.ensures.no_fault) c.in_ok-heard.ensures.cause

pub returns-clause-ran : goal.returns-clause-ran
returns-clause-ran g c =
    let text = request_text c.args.target.now c.args.serial.now (option_copied c.args.nonce) in
    let before = g.N.Net.traffic c.args.net.now in
    let heard = option_map after_close (g.N.Net.traffic c.exchange-heard.new.net) in
    let evidence = c.in_ok-read_reply.field-0 in
    let told = ran_evidence c.args.target.now c.as_slice.result.now c.exchange-heard.new.incoming c.reply-status.result.0
    c.reply-status.result.1.now evidence before heard c.in_ok-heard.ensures.ran c.reply-status.ensures
    c.in_ok-read_reply.ensures.ok.0 c.in_ok-read_reply.ensures.ok.1 c.in_ok-read_reply.ensures.fits in
    ran_moved c.args.target.now c.as_slice.result.now text (Ok evidence) before heard (g.N.Net.traffic c.close.new.self)
    (c.as_slice.ensures ∙ c.in_ok-request.ensures.written) c.close.ensures.closed told
