use Rattle.std.proofs.Common.{◌++◌, false, take, drop}
use Rattle.sz_http.specs.declared.side.Side.TheVariants.{Reply}
use Rattle.sz_image.proofs.Replies.{refused_cut, status_more, took_front}
use Rattle.sz_image.proofs.incoming.Incoming.take_front.Goals as goal

pub returns-in-Ok-judge-clause-ok : goal.returns-in-Ok-judge-clause-ok
returns-in-Ok-judge-clause-ok c bytes body takes headed =
    let fed = c.in-Ok.fed in
    let front = take fed.used c.args.piece.now in
    let took = c.in-Ok.ensures.answers Reply c.args.space bytes body takes in
    took_front c.args.space bytes body c.args.piece.now c.feed.new.self c.judge.new.self.headed fed took
    (c.in-Ok-judge.ensures.ok c.args.space (bytes ++ front) (body ++ fed.body.now) false took.taken (λ yes. status_more bytes front 200 (headed yes)))

pub returns-in-Err-judge-clause-refused : goal.returns-in-Err-judge-clause-refused
returns-in-Err-judge-clause-refused c hash bytes body takes =
    let fed = c.in-Ok.fed in
    let took = c.in-Ok.ensures.answers Reply c.args.space bytes body takes in
    refused_cut c.args.space hash bytes c.args.piece.now fed.used c.in-Err-judge.fault
    (c.in-Err-judge.ensures.refused c.args.space hash (bytes ++ take fed.used c.args.piece.now) (body ++ fed.body.now)
    (drop fed.used c.args.piece.now) false false took.taken)

pub returns-in-Err-clause-refused : goal.returns-in-Err-clause-refused
returns-in-Err-clause-refused c hash bytes body takes =
    let refuses = c.in-Err.ensures.answers Reply c.args.space bytes body takes in
    c.refusal.ensures hash (bytes ++ c.args.piece.now) body false refuses.taken refuses.verdict
