use Rattle.std.proofs.Common.{◌++◌, ◌∷◌, [], subst}
use Rattle.sz_http.specs.declared.head_place.Place.{Place}
use Rattle.sz_http.specs.declared.head_place.Place.TheVariants.{EmptyLines}
use Rattle.sz_http.specs.HeadPlace.{Came}
use Rattle.sz_http.proofs.Comes.{came_due, came_crlf}
use Rattle.sz_http.proofs.head_place.Place.after.Goals as goal

pub returns-in-EmptyLines-clause-came : goal.returns-in-EmptyLines-clause-came
returns-in-EmptyLines-clause-came c = λ came.
    c.in_empty_lines.ensures.came c.args.bytes.now (subst (λ (p : Place). Came c.args.kind c.args.bytes.now p) c.in-EmptyLines.is came)

pub returns-in-EmptyLineEnd-clause-came : goal.returns-in-EmptyLineEnd-clause-came
returns-in-EmptyLineEnd-clause-came c = λ came.
    let before = subst (λ (p : Place). Came c.args.kind c.args.bytes.now p) c.in-EmptyLineEnd.is came in
    came_due c.args.kind (c.args.bytes.now ++ c.args.byte ∷ []) c.args.byte 10 EmptyLines c.at_due.result c.at_due.ensures.either
    (came_crlf c.args.kind c.args.bytes.now c.args.byte before)

pub returns-in-Version-clause-came : goal.returns-in-Version-clause-came
returns-in-Version-clause-came c = λ came. c.in_version.ensures.came (c.args.bytes.now ++ c.args.byte ∷ [])

pub returns-in-RequestLineEnd-clause-came : goal.returns-in-RequestLineEnd-clause-came
returns-in-RequestLineEnd-clause-came c = λ came. c.at_line_end.ensures.came c.args.kind (c.args.bytes.now ++ c.args.byte ∷ [])

pub returns-in-Code-clause-came : goal.returns-in-Code-clause-came
returns-in-Code-clause-came c = λ came. c.in_code.ensures.came c.args.kind (c.args.bytes.now ++ c.args.byte ∷ [])

pub returns-in-Value-clause-came : goal.returns-in-Value-clause-came
returns-in-Value-clause-came c = λ came. c.in_value.ensures.came c.args.kind (c.args.bytes.now ++ c.args.byte ∷ [])

pub returns-in-Line-clause-came : goal.returns-in-Line-clause-came
returns-in-Line-clause-came c = λ came. c.at_line.ensures.came c.args.kind (c.args.bytes.now ++ c.args.byte ∷ [])

pub returns-in-Name-clause-came : goal.returns-in-Name-clause-came
returns-in-Name-clause-came c = λ came. c.in_name.ensures.came c.args.kind (c.args.bytes.now ++ c.args.byte ∷ [])
