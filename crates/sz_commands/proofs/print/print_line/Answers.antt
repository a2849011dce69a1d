use Rattle.std.proofs.Common.{[], ◌∷◌, ◌++◌}
use Rattle.sz_commands.proofs.Fronts.{AppendsFront-first, AppendsFront-next, Appends-next, always_on_err, each_on_err}
use Rattle.sz_commands.proofs.print.print_line.Goals as goal

pub returns-in_err-write-clause-refused : goal.returns-in_err-write-clause-refused
returns-in_err-write-clause-refused g c =
    always_on_err _ (AppendsFront-first _ _ (c.args.front.now ++ c.args.rest.now) (10 ∷ [])
    (AppendsFront-first _ _ c.args.front.now c.args.rest.now c.in_err-write.ensures.refused))

pub returns-in_err-write-2-clause-refused : goal.returns-in_err-write-2-clause-refused
returns-in_err-write-2-clause-refused g c =
    always_on_err _ (AppendsFront-first _ _ (c.args.front.now ++ c.args.rest.now) (10 ∷ [])
    (AppendsFront-next _ _ _ c.args.front.now c.args.rest.now c.in_ok-write.ensures.ok c.in_err-write-2.ensures.refused))

pub returns-clause-refused : goal.returns-clause-refused
returns-clause-refused g c =
    each_on_err _ (AppendsFront-next _ _ _ (c.args.front.now ++ c.args.rest.now) (10 ∷ [])
    (Appends-next _ _ _ c.args.front.now c.args.rest.now c.in_ok-write.ensures.ok c.in_ok-write-2.ensures.ok)) c.write-3.ensures.refused
