use Rattle.sz_http.specs.declared.side.Side.TheVariants.{Reply}
use Rattle.sz_image.proofs.head.refusal.Goals as goal

pub returns-in-Ok : goal.returns-in-Ok
returns-in-Ok c hash bytes body closed takes verdict =
    let begins = c.in-Some.ensures.parts Reply c.args.space bytes closed body takes in
    c.behind_head.ensures hash bytes closed (c.in-Ok.ensures.ok bytes begins.0 begins.1) verdict

pub returns-in-Err : goal.returns-in-Err
returns-in-Err c hash bytes body closed takes verdict =
    let begins = c.in-Some.ensures.parts Reply c.args.space bytes closed body takes in
    c.in-Err.ensures.refused c.args.space hash bytes begins.0 closed begins.1

pub returns-in-None : goal.returns-in-None
returns-in-None c hash bytes body closed takes verdict =
    c.without_head.ensures c.args.space hash bytes closed (c.in-None.ensures.none Reply c.args.space bytes closed body takes) verdict
